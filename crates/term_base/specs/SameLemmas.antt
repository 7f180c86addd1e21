-- The tests of specs/Same.antt are equality.
use Rattle.std.proofs.Common.{◌≡◌, ℕ, true, refl, ap, ◌∙◌, subst, arith}
use Rattle.std.proofs.Math.Bool.{Bool-set}
use Rattle.std.proofs.lemmas.Grind.{common_steps}
use Rattle.term_base.specs.declared.symbols.Sort.{Sort}
use Rattle.term_base.specs.declared.symbols.Sort.TheVariants.{Individual, Int, Declared, Truth}
use Rattle.term_base.specs.declared.variables.Kind.{Kind}
use Rattle.term_base.specs.declared.variables.Kind.TheVariants.{Abstraction, Ordinary}
use Rattle.term_base.specs.declared.variables.Variable.{Variable}
use Rattle.term_base.specs.Proper.{IsProper}
use Rattle.term_base.specs.Same.{same_sort, same_kind, same_variable}

pub same_sort-true : (r s : Sort) → same_sort r s ≡ true → r ≡ s
same_sort-true Individual Individual h = refl
same_sort-true Int Int h = refl
same_sort-true Truth Truth h = refl
same_sort-true (Declared m) (Declared n) h = let e : m ≡ n = grind (arith, common_steps) in ap Declared e
same_sort-true _ _ h = cc

pub same_kind-true : (r s : Kind) → same_kind r s ≡ true → r ≡ s
same_kind-true Abstraction Abstraction h = refl
same_kind-true Ordinary Ordinary h = refl
same_kind-true _ _ h = cc

abbrev proper_variable : (k : Kind) (s : Sort) (n : ℕ) → IsProper k s → Variable
proper_variable k s n p = record { kind = k; sort = s; id = n; proper = p }

proofs_equal : (k : Kind) (s : Sort) (p q : IsProper k s) → p ≡ q
proofs_equal k s p q = let one : IsProp (IsProper k s) = hlevel Bool-set in one p q

-- variables with one kind, one sort and one number are one
pub variables_equal : (v w : Variable) → v.kind ≡ w.kind → v.sort ≡ w.sort → v.id ≡ w.id → v ≡ w
variables_equal v w kinds sorts ids =
    let at_id = λ (p : IsProper v.kind v.sort). ap (λ (n : ℕ). proper_variable v.kind v.sort n p) ids in
    let at_sort = subst (λ (s : Sort). (p : IsProper v.kind s) → v ≡ proper_variable v.kind s w.id p) sorts
    (λ p. ap (proper_variable v.kind v.sort v.id) (proofs_equal v.kind v.sort v.proper p) ∙ at_id p) in
    subst (λ (k : Kind). (p : IsProper k w.sort) → v ≡ proper_variable k w.sort w.id p) kinds at_sort w.proper

pub same_variable-true : (v w : Variable) → same_variable v w ≡ true → v ≡ w
same_variable-true v w h = grind (arith, common_steps, same_sort-true, same_kind-true, variables_equal)

pub same_sort-refl : (s : Sort) → same_sort s s ≡ true
same_sort-refl Individual = refl
same_sort-refl Int = refl
same_sort-refl Truth = refl
same_sort-refl (Declared n) = grind (arith, common_steps)

pub same_kind-refl : (k : Kind) → same_kind k k ≡ true
same_kind-refl Abstraction = refl
same_kind-refl Ordinary = refl

pub same_variable-refl : (v : Variable) → same_variable v v ≡ true
same_variable-refl v = rw (same_kind-refl v.kind, same_sort-refl v.sort) (grind (arith, common_steps))
