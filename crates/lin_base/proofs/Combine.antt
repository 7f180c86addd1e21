-- The sum that a combination forms: its value, that it is well formed, and its first step that leaves the range.
use Rattle.std.specs.Prelude.{◌≡◌, ℤ, pos, ◌+ℤ◌, ◌≤ℤ◌, true, List, [], ◌∷◌, None}
use Rattle.std.specs.List.{list_all, AllByRecursion}
use Rattle.std.proofs.Common.{refl, arith}
use Rattle.std.proofs.lemmas.Int.{ints}
use Rattle.std.proofs.lemmas.Bool.{and_parts}
use Rattle.lin_base.specs.declared.sums.Lin.{Lin}
use Rattle.lin_base.specs.declared.wides.ArithmeticError.{ArithmeticError}
use Rattle.lin_base.specs.Sum.{Valuation, value, number}
use Rattle.lin_base.specs.Fact.{is_lin}
use Rattle.lin_base.specs.Steps.{first_wide, IsErrorAt}
use Rattle.lin_base.specs.Combine.{add_scaled, add_scaled_steps, combined, combined_onto, combined_onto_steps, total}
pub use Rattle.lin_base.specs.Combine.{IsSmall}
use Rattle.lin_base.proofs.Values.{value-add_scaled, value-number}
use Rattle.lin_base.proofs.Forming.{first_wide-append_none, IsErrorAt-append_some}
use Rattle.lin_base.proofs.WellFormed.{is_lin-add_scaled}

module _ (v : Valuation) where
  onto : (so_far : Lin) (parts : List (Lin × ℤ)) → value v (combined_onto so_far parts) ≡ value v so_far +ℤ total v parts
  onto so_far [] = omega (arith, ints)
  onto so_far ((t, k) ∷ parts) = omega (arith, ints, onto (add_scaled so_far k t) parts, value-add_scaled v so_far t k)

  pub value-combined : (parts : List (Lin × ℤ)) → value v (combined parts) ≡ total v parts
  value-combined parts = omega (arith, ints, onto (number (pos 0)) parts, value-number v (pos 0))

  small_total : (parts : List (Lin × ℤ)) → AllByRecursion (IsSmall v) parts → total v parts ≤ℤ pos 0
  small_total [] all = omega (arith, ints)
  small_total ((t, k) ∷ parts) all = let first = all.0 in let rest = small_total parts all.1 in omega (arith, ints, first, rest)

  pub small_combined : (parts : List (Lin × ℤ)) → AllByRecursion (IsSmall v) parts → value v (combined parts) ≤ℤ pos 0
  small_combined parts all = omega (arith, ints, value-combined parts, small_total parts all)

is_lin-onto : (so_far : Lin) (parts : List (Lin × ℤ)) → is_lin so_far ≡ true → list_all (λ e. is_lin e.0) parts ≡ true → is_lin (combined_onto so_far parts) ≡ true
is_lin-onto so_far [] h all = h
is_lin-onto so_far ((t, k) ∷ parts) h all =
    let both = and_parts (is_lin t) (list_all (λ e. is_lin e.0) parts) all in
    is_lin-onto (add_scaled so_far k t) parts (is_lin-add_scaled so_far k t h both.0) both.1

pub is_lin-combined : (parts : List (Lin × ℤ)) → list_all (λ e. is_lin e.0) parts ≡ true → is_lin (combined parts) ≡ true
is_lin-combined parts all = is_lin-onto (number (pos 0)) parts refl all

-- the error of a step is that of the whole
pub combined-error : (e : ArithmeticError) (so_far t : Lin) (k : ℤ) (rest : List (Lin × ℤ)) → IsErrorAt e (first_wide (add_scaled_steps so_far k t)) → IsErrorAt e (first_wide (combined_onto_steps so_far ((t, k) ∷ rest)))
combined-error e so_far t k rest h = IsErrorAt-append_some e (add_scaled_steps so_far k t) (combined_onto_steps (add_scaled so_far k t) rest) h

-- where a step stays in the range the rest decides
pub combined-narrow : (so_far t : Lin) (k : ℤ) (rest : List (Lin × ℤ)) → first_wide (add_scaled_steps so_far k t) ≡ None → first_wide (combined_onto_steps so_far ((t, k) ∷ rest)) ≡ first_wide (combined_onto_steps (add_scaled so_far k t) rest)
combined-narrow so_far t k rest h = first_wide-append_none (add_scaled_steps so_far k t) (combined_onto_steps (add_scaled so_far k t) rest) h
