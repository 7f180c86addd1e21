-- The order of variables as numbers.
use Rattle.std.proofs.Common.{◌≡◌, ℕ, ◌+◌, ◌*◌, ◌^◌, ◌<◌, ◌≤◌, List, [], ◌∷◌, Option, Some, None, refl, sym, subst, ◌∙◌, arith}
use Rattle.std.specs.Prelude.{nat_lt}
use Rattle.std.proofs.lemmas.Grind.{common_steps}
use Rattle.std.proofs.lemmas.Bool.{lt-ltb, ltb-true}
use Rattle.std.proofs.lemmas.Bool.Decides.{nat_tests}
use Rattle.term_base.specs.declared.variables.Variable.{Variable}
use Rattle.term_base.specs.SubstTest.{follows}
use Rattle.text_pieces.specs.Fronts.{Front}
use Rattle.text_pieces.specs.Numbers.{Number, Word32}
use Rattle.text_pieces.specs.Decimals.{is_digit}
use Rattle.text_pieces.proofs.Ends.{same_fails, same_reads}
use Rattle.text_pieces.proofs.Lifts.{Lift}
use Rattle.term_text.specs.declared.kinds.VariableKind.{VariableKind}
use Rattle.term_text.specs.declared.kinds.VariableKind.TheVariants.{Abstraction, Individual, Int, Declared}
use Rattle.term_text.specs.Variables.{abstraction, individual, integer, declared, VariableParts, SpellsVariable, VariableFrom, rank}
use Rattle.term_text.specs.Substitutions.{VariableAfter, low_after, IsNumbered}

-- a variable by its kind and its numbers
abbrev pub made : VariableKind → ℕ × ℕ → Variable
made Abstraction p = abstraction p.1
made Individual p = individual p.1
made Int p = integer p.1
made Declared p = declared p

pub record Made (k : VariableKind) (v : Variable) : Type 0 where
  pub numbers : ℕ × ℕ
  pub is : v ≡ made k numbers
  pub sort : numbers.0 < 2 ^ 32
  pub id : numbers.1 < 2 ^ 32

in_front : {A : Type 0} {P : Type 0} (word : List ℕ) (L : A → List ℕ → Type 0) (a : A) (t : List ℕ) → ((u : List ℕ) → L a u → P) → Front word L a t → P
in_front [] L a t f s = f t s
in_front (b ∷ bs) L a t f s = in_front bs L a s.behind f s.spelled

small : (n : ℕ) (t : List ℕ) → Number Word32 n t → n < 2 ^ 32
small n t s = let h = s.is_in.to_high in omega (arith, h)

pub parts_made : (k : VariableKind) (v : Variable) (t : List ℕ) → VariableParts k v t → Made k v
parts_made Abstraction v t s = record { numbers = (0, s.from); is = s.is; sort = omega arith; id = small s.from s.spelled.behind s.spelled.spelled }
parts_made Individual v t s = record { numbers = (0, s.from); is = s.is; sort = omega arith; id = small s.from s.spelled.behind s.spelled.spelled }
parts_made Int v t s = record { numbers = (0, s.from); is = s.is; sort = omega arith; id = small s.from s.spelled.behind s.spelled.spelled }
parts_made Declared v t s =
    let c = s.spelled.spelled in
    record { numbers = s.from; is = s.is; sort = small (s.from.0) c.first c.first_spelled; id = small (s.from.1) c.second_spelled.behind c.second_spelled.spelled }

-- ---- the order
below : (j k : VariableKind) (p r : ℕ × ℕ) → p.0 < 2 ^ 32 → p.1 < 2 ^ 32 → r.0 < 2 ^ 32 → r.1 < 2 ^ 32 → follows (Some (made j p)) (made k r) ≡ nat_lt (rank (made j p)) (rank (made k r))
below Abstraction Abstraction p r a b c d = grind (arith, nat_tests, common_steps)
below Abstraction Individual p r a b c d = grind (arith, nat_tests, common_steps, b)
below Abstraction Int p r a b c d = grind (arith, nat_tests, common_steps, b)
below Abstraction Declared p r a b c d = grind (arith, nat_tests, common_steps, b)
below Individual Abstraction p r a b c d = grind (arith, nat_tests, common_steps, d)
below Individual Individual p r a b c d = grind (arith, nat_tests, common_steps)
below Individual Int p r a b c d = grind (arith, nat_tests, common_steps, b)
below Individual Declared p r a b c d = grind (arith, nat_tests, common_steps, b)
below Int Abstraction p r a b c d = grind (arith, nat_tests, common_steps, d)
below Int Individual p r a b c d = grind (arith, nat_tests, common_steps, d)
below Int Int p r a b c d = grind (arith, nat_tests, common_steps)
below Int Declared p r a b c d = grind (arith, nat_tests, common_steps, b)
below Declared Abstraction p r a b c d = grind (arith, nat_tests, common_steps, d)
below Declared Individual p r a b c d = grind (arith, nat_tests, common_steps, d)
below Declared Int p r a b c d = grind (arith, nat_tests, common_steps, d)
below Declared Declared p r a b c d = grind (arith, nat_tests, common_steps, b, d)

abbrev Agrees : Variable → Variable → Type 0
Agrees u v = follows (Some u) v ≡ nat_lt (rank u) (rank v)

pub follows_rank : (u v : Variable) (t w : List ℕ) → SpellsVariable u t → SpellsVariable v w → Agrees u v
follows_rank u v t w s r =
    let m = parts_made s.kind u t s.spelled in
    let n = parts_made r.kind v w r.spelled in
    subst (λ z. Agrees z v) (sym m.is) (subst (λ z. Agrees (made s.kind m.numbers) z) (sym n.is) (below s.kind r.kind m.numbers n.numbers m.sort m.id n.sort n.id))

below_end : (k : VariableKind) (p : ℕ × ℕ) → p.0 < 2 ^ 32 → p.1 < 2 ^ 32 → rank (made k p) < (3 + 2 ^ 32) * 2 ^ 32
below_end Abstraction p a b = omega (arith, b)
below_end Individual p a b = omega (arith, b)
below_end Int p a b = omega (arith, b)
below_end Declared p a b = omega (arith, a, b)

-- each variable with a text has a number below the end
pub rank_within : (v : Variable) (t : List ℕ) → SpellsVariable v t → rank v < (3 + 2 ^ 32) * 2 ^ 32
rank_within v t s =
    let m = parts_made s.kind v t s.spelled in
    subst (λ z. rank z < (3 + 2 ^ 32) * 2 ^ 32) (sym m.is) (below_end s.kind m.numbers m.sort m.id)

-- ---- variables above the last one are those from a number on
plain : (low : ℕ) (v : Variable) (t : List ℕ) → VariableFrom low v t → SpellsVariable v t
plain low v t s = record { kind = s.kind; spelled = s.spelled.spelled }

after_from : (last : Option Variable) → IsNumbered last → (v : Variable) (t : List ℕ) → VariableFrom (low_after last) v t → VariableAfter last v t
after_from None h v t s = record { spelled = plain 0 v t s; after = refl }
after_from (Some u) h v t s =
    let p = plain (low_after (Some u)) v t s in
    let from = s.spelled.from in
    record { spelled = p; after = follows_rank u v h.text t h.spelled p ∙ lt-ltb (rank u) (rank v) (omega (arith, from)) }

from_after : (last : Option Variable) → IsNumbered last → (v : Variable) (t : List ℕ) → VariableAfter last v t → VariableFrom (low_after last) v t
from_after None h v t s = record { kind = s.spelled.kind; spelled = record { spelled = s.spelled.spelled; from = omega arith } }
from_after (Some u) h v t s =
    let lower = ltb-true (rank u) (rank v) (sym (follows_rank u v h.text t h.spelled s.spelled) ∙ s.after) in
    record { kind = s.spelled.kind; spelled = record { spelled = s.spelled.spelled; from = omega (arith, lower) } }

pub variable_after : (last : Option Variable) → IsNumbered last → (text : List ℕ) → Lift is_digit (VariableAfter last) text (VariableFrom (low_after last)) text (λ v. v)
variable_after last h text = record {
  fails = λ left f. same_fails is_digit (VariableFrom (low_after last)) (VariableAfter last) (λ v t s. (v, after_from last h v t s)) (λ v t s. (v, from_after last h v t s)) text left f;
  reads = λ v rest r. same_reads is_digit (VariableFrom (low_after last)) (VariableAfter last) v v (after_from last h v) text rest r;
}

-- above the last one of all there is none
pub none_after : (u v : Variable) (t w : List ℕ) → SpellsVariable u t → (3 + 2 ^ 32) * 2 ^ 32 ≤ rank u + 1 → VariableAfter (Some u) v w → ⊥
none_after u v t w s h a =
    let lower = ltb-true (rank u) (rank v) (sym (follows_rank u v t w s a.spelled) ∙ a.after) in
    let high = rank_within v w a.spelled in
    omega (arith, lower, high, h)
