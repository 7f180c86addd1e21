-- The variables of a clause are listed once each, so that each place is that of its variable.
use Rattle.std.specs.Prelude.{◌≡◌, ℕ, zero, suc, ◌<◌, ℤ, false, cond, List, [], ◌∷◌, ◌++◌, length}
use Rattle.std.proofs.Common.{refl, ◌∙◌, ap, arith}
use Rattle.std.proofs.lemmas.Bool.{cond_both}
use Rattle.term_base.specs.declared.variables.Variable.{Variable}
use Rattle.term_base.specs.Same.{same_variable}
use Rattle.term_base.specs.SameLemmas.{same_variable-refl}
use Rattle.term_base.specs.TreeLemmas.{or-false}
use Rattle.bg_view.specs.Unknowns.{place, noted, all_noted}
use Rattle.bg_view.specs.Truth.{Variables, value_at}
use Rattle.bg_view.proofs.Each.{Each, each_map}
use Rattle.bg_view.proofs.Places.{has}

abbrev pub Distinct : List Variable → Type 0
Distinct [] = Unit {0}
Distinct (v ∷ vs) = Each (λ u. same_variable v u ≡ false) vs × Distinct vs

each_pushed : (v x : Variable) (us : List Variable) → Each (λ u. same_variable v u ≡ false) us → same_variable v x ≡ false → Each (λ u. same_variable v u ≡ false) (us ++ x ∷ [])
each_pushed v x [] h e = (e, tt)
each_pushed v x (u ∷ us) h e = (h.0, each_pushed v x us h.1 e)

distinct_pushed : (x : Variable) (us : List Variable) → Distinct us → has x us ≡ false → Distinct (us ++ x ∷ [])
distinct_pushed x [] d h = (tt, tt)
distinct_pushed x (u ∷ us) d h =
    let both = or-false (same_variable u x) (has x us) h in
    (each_pushed u x us d.0 both.0, distinct_pushed x us d.1 both.1)

distinct_noted : (x : Variable) (us : List Variable) → Distinct us → Distinct (noted us x)
distinct_noted x us d = cond_both (has x us) us (us ++ x ∷ []) Distinct (λ _. d) (λ e. distinct_pushed x us d e)

pub distinct_all_noted : (us xs : List Variable) → Distinct us → Distinct (all_noted us xs)
distinct_all_noted us [] d = d
distinct_all_noted us (x ∷ xs) d = distinct_all_noted (noted us x) xs (distinct_noted x us d)

value_at-agrees : (w u : Variables) (vs : List Variable) (x : ℕ) → Each (λ v. w v ≡ u v) vs → value_at w vs x ≡ value_at u vs x
value_at-agrees w u [] x h = refl
value_at-agrees w u (v ∷ vs) zero h = h.0
value_at-agrees w u (v ∷ vs) (suc x) h = value_at-agrees w u vs x h.1

place-first : (g : ℕ → ℤ) (v : Variable) (vs : List Variable) → g (place v (v ∷ vs)) ≡ g 0
place-first g v vs = ap (λ b. g (cond b 0 (suc (place v vs)))) (same_variable-refl v)

place-later : (g : ℕ → ℤ) (v u : Variable) (vs : List Variable) → same_variable v u ≡ false → g (place u (v ∷ vs)) ≡ g (suc (place u vs))
place-later g v u vs e = ap (λ b. g (cond b 0 (suc (place u vs)))) e

-- a value for each place is one for each variable
pub value_at-own_place : (g : ℕ → ℤ) (vs : List Variable) (x : ℕ) → Distinct vs → x < length vs → value_at (λ u. g (place u vs)) vs x ≡ g x
value_at-own_place g [] x d h = absurd (omega (arith, h))
value_at-own_place g (v ∷ vs) zero d h = place-first g v vs
value_at-own_place g (v ∷ vs) (suc x) d h =
    value_at-agrees (λ u. g (place u (v ∷ vs))) (λ u. g (suc (place u vs))) vs x
    (each_map (λ u. same_variable v u ≡ false) (λ u. g (place u (v ∷ vs)) ≡ g (suc (place u vs))) (λ u e. place-later g v u vs e) vs d.0)
    ∙ value_at-own_place (λ k. g (suc k)) vs x d.1 (omega (arith, h))
