-- What tests say.
use Rattle.std.proofs.Common.{◌≡◌, ◌↔◌, Bool, true, false, not, refl}
use Rattle.std.specs.Prelude.{IsTrue}
use Rattle.term_base.specs.TreeLemmas.{both_ways}

pub never : {P : Type 0} → (P → ⊥) → IsTrue false ↔ P
never refuted = ((λ h. absurd (both_ways false h refl)), (λ p. absurd (refuted p)))

pub true_of : {P : Type 0} (b : Bool) → IsTrue b ↔ P → b ≡ true → P
true_of b i h = i.0 h

pub false_of : {P : Type 0} (b : Bool) → IsTrue b ↔ P → b ≡ false → P → ⊥
false_of b i h p = both_ways b (i.1 p) h

pub negated : {P : Type 0} (b : Bool) → IsTrue b ↔ P → IsTrue (not b) ↔ (P → ⊥)
negated true i = ((λ h p. both_ways false h refl), (λ refuted. absurd (refuted (i.0 refl))))
negated false i = ((λ h p. both_ways false (i.1 p) refl), (λ refuted. refl))
