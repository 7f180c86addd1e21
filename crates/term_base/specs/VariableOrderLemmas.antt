-- The order of variables is total, and variables of one rank are one.
use Rattle.std.proofs.Common.{◌≡◌, ◌≤◌, ℕ, refl, ap, sym, ◌∙◌, arith}
use Rattle.std.proofs.lemmas.Grind.{common_steps}
use Rattle.std.proofs.lemmas.Bool.Decides.{nat_tests}
use Rattle.std.proofs.lemmas.Cmp.{then_total, on_total, nat_cmp_total}
use Rattle.std.specs.Cmp.{IsTotalOrder}
use Rattle.std.specs.Ordering.{nat_cmp, ordering_then, ordering_index}
use Rattle.std.specs.declared.cmp.Ordering.{Ordering}
use Rattle.std.specs.declared.cmp.Ordering.TheVariants.{Less, Equal, Greater}
use Rattle.term_base.specs.declared.symbols.Sort.{Sort}
use Rattle.term_base.specs.declared.symbols.Sort.TheVariants.{Individual, Int, Declared, Truth}
use Rattle.term_base.specs.declared.variables.Kind.{Kind}
use Rattle.term_base.specs.declared.variables.Kind.TheVariants.{Abstraction, Ordinary}
use Rattle.term_base.specs.declared.variables.Variable.{Variable}
use Rattle.term_base.specs.SameLemmas.{variables_equal}
use Rattle.term_base.specs.VariableOrder.{kind_rank, kind_cmp, sort_rank, declared_number, sort_cmp, variable_cmp}

pub variable_cmp_total : IsTotalOrder variable_cmp
variable_cmp_total =
    then_total (on_total (λ (v : Variable). v.kind) (on_total kind_rank nat_cmp_total))
    (then_total (on_total (λ (v : Variable). v.sort) (then_total (on_total sort_rank nat_cmp_total) (on_total declared_number nat_cmp_total)))
    (on_total (λ (v : Variable). v.id) nat_cmp_total))

both_equal : (p q : Ordering) → ordering_then p q ≡ Equal → (p ≡ Equal) × (q ≡ Equal)
both_equal Equal q h = (refl, h)
both_equal Less q h = cc
both_equal Greater q h = cc

nat_cmp-equal : (m n : ℕ) → nat_cmp m n ≡ Equal → m ≡ n
nat_cmp-equal m n h = grind (arith, nat_tests, common_steps)

kind_rank-equal : (j k : Kind) → kind_rank j ≡ kind_rank k → j ≡ k
kind_rank-equal Abstraction Abstraction h = refl
kind_rank-equal Ordinary Ordinary h = refl
kind_rank-equal _ _ h = cc

sorts_equal : (r s : Sort) → sort_rank r ≡ sort_rank s → declared_number r ≡ declared_number s → r ≡ s
sorts_equal Individual Individual h k = refl
sorts_equal Int Int h k = refl
sorts_equal (Declared m) (Declared n) h k = ap Declared k
sorts_equal Truth Truth h k = refl
sorts_equal _ _ h k = cc

pub variable_cmp-equal : (v w : Variable) → variable_cmp v w ≡ Equal → v ≡ w
variable_cmp-equal v w h =
    let outer = both_equal (kind_cmp v.kind w.kind) (ordering_then (sort_cmp v.sort w.sort) (nat_cmp v.id w.id)) h in
    let inner = both_equal (sort_cmp v.sort w.sort) (nat_cmp v.id w.id) outer.1 in
    let sorts = both_equal (nat_cmp (sort_rank v.sort) (sort_rank w.sort)) (nat_cmp (declared_number v.sort) (declared_number w.sort)) inner.0 in
    variables_equal v w
    (kind_rank-equal v.kind w.kind (nat_cmp-equal (kind_rank v.kind) (kind_rank w.kind) outer.0))
    (sorts_equal v.sort w.sort (nat_cmp-equal (sort_rank v.sort) (sort_rank w.sort) sorts.0) (nat_cmp-equal (declared_number v.sort) (declared_number w.sort) sorts.1))
    (nat_cmp-equal v.id w.id inner.1)

own_reverse : (o : Ordering) → o ≡ Rattle.std.specs.Ordering.ordering_reverse o → o ≡ Equal
own_reverse Less h = cc
own_reverse Equal h = refl
own_reverse Greater h = cc

pub variable_cmp-refl : (v : Variable) → variable_cmp v v ≡ Equal
variable_cmp-refl v = own_reverse (variable_cmp v v) (variable_cmp_total.antisymm v v)

-- no variable is below itself
pub variable_cmp-irrefl : (v w : Variable) → variable_cmp v w ≡ Less → v ≡ w → ⊥
variable_cmp-irrefl v w h e = let r : variable_cmp v w ≡ Equal = ap (λ z. variable_cmp v z) (sym e) ∙ variable_cmp-refl v in cc

index_case : (u w v : Variable) → variable_cmp u w ≡ Less → (o : Ordering) → variable_cmp w v ≡ o → ordering_index (variable_cmp u v) ≤ ordering_index o
index_case u w v h Less e = let one : variable_cmp u v ≡ Less = variable_cmp_total.trans u w v h e in rw one (omega arith)
index_case u w v h Equal e =
    let one : variable_cmp u v ≡ Less = ap (variable_cmp u) (sym (variable_cmp-equal w v e)) ∙ h in rw one (omega arith)
index_case u w v h Greater e = index_at_most (variable_cmp u v) where
  index_at_most : (o : Ordering) → ordering_index o ≤ 2
  index_at_most Less = omega arith
  index_at_most Equal = omega arith
  index_at_most Greater = omega arith

-- of two variables the lower one compares lower with every variable
pub variable_cmp-rises : (u w v : Variable) → variable_cmp u w ≡ Less → ordering_index (variable_cmp u v) ≤ ordering_index (variable_cmp w v)
variable_cmp-rises u w v h = index_case u w v h (variable_cmp w v) refl
