-- The children that the search visits: their facts, and what is formed for them.
use Rattle.std.specs.Prelude.{◌≡◌, ◌^◌, ℕ, ℤ, pos, negsuc, ◌≤ℤ◌, true, false, List, Result, Ok, Err}
use Rattle.std.specs.Int.{w128}
use Rattle.std.specs.List.{list_all}
use Rattle.std.specs.Int.RustNames.{FitsSigned}
use Rattle.std.proofs.Common.{sym, subst, arith}
use Rattle.std.proofs.lemmas.Int.{ints}
use Rattle.std.proofs.lemmas.Bool.{lt-ltb}
use Rattle.lin_base.specs.declared.sums.Lin.{Lin}
use Rattle.lin_base.specs.Whole.{is_zero, is_in_range}
use Rattle.lin_base.specs.declared.facts.Fact.{Fact}
use Rattle.lin_base.specs.Fact.{is_fact, is_lin}
use Rattle.lin_base.specs.Sum.{coef, add_number}
use Rattle.lin_base.proofs.WellFormed.{is_lin-add_number}
use Rattle.cert_tree.specs.declared.sums.Side.{Side}
use Rattle.cert_tree.specs.Bounds.{is_side, moved_by}
use Rattle.cert_tree.specs.Children.{with_value}
use Rattle.cert_tree.specs.Points.{solved}
use Rattle.cert_tree.specs.Sides.{side_of}
use Rattle.cert_tree.proofs.Replacing.{positive-solved, occurs-solved, is_lin-solved, is_fact-with_value}
use Rattle.cert_tree.proofs.Pointing.{side_is, side_positive, side_lin, side_absent, occurs-add_number, is_fact-far_child}
use Rattle.cooper_rows.specs.declared.counting.BudgetError.{BudgetError}
use Rattle.cooper_rows.specs.Counted.{IsCause, Fits}
use Rattle.cooper_rows.proofs.Budgets.{counting, some_is_narrow, none_is_out}

pub nonzero_up : (b : ℤ) → pos 1 ≤ℤ b → is_zero b ≡ false
nonzero_up (pos n) h = grind (arith, ints, h)
nonzero_up (negsuc n) h = absurd (omega (arith, ints, h))

pub is_side-solved : (p : ℕ) (t : Lin) → is_zero (coef p t) ≡ false → is_lin t ≡ true → is_side p (side_of (solved p t)) ≡ true
is_side-solved p t h is = side_is p (solved p t).b (solved p t).rest (positive-solved p t h) (is_lin-solved p t is) (occurs-solved p t)

pub is_side-moved : (p : ℕ) (e : Side) (j : ℕ) → is_side p e ≡ true → is_side p (moved_by e j) ≡ true
is_side-moved p e j h =
    let is = side_lin p e h in
    side_is p e.b (add_number e.rest (pos j)) (side_positive p e h) (is_lin-add_number e.rest (pos j) is) (occurs-add_number p e.rest (pos j) is (side_absent p e h))

pub nonzero-side : (p : ℕ) (e : Side) → is_side p e ≡ true → is_zero e.b ≡ false
nonzero-side p e h = nonzero_up e.b (side_positive p e h)

pub is_fact-side : (p : ℕ) (e : Side) (facts : List Fact) → is_side p e ≡ true → list_all is_fact facts ≡ true → list_all is_fact (with_value p e.b e.rest facts) ≡ true
is_fact-side p e facts h all = is_fact-with_value p e.b e.rest facts (side_positive p e h) (side_lin p e h) all

-- an error of a call that counts nothing
pub fits_err : {A : Type 0} (r : Result A BudgetError) (e : BudgetError) (zs : List ℤ) (P : A → Type 0) → r ≡ Err e → IsCause e 0 0 zs → Fits r zs P
fits_err (Ok v) e zs P is h = absurd (cc)
fits_err (Err d) e zs P is h = let same : d ≡ e = cc in (tt, subst (λ f. IsCause f 0 0 zs) (sym same) h)

-- the numbers of an i128
pub in_range : (z : ℤ) → FitsSigned w128 z → is_in_range z ≡ true
in_range (pos n) f = lt-ltb n (2 ^ 127) f.sfits
in_range (negsuc n) f = lt-ltb n (2 ^ 127) f.sfits

pub ruleset placing = (counting, some_is_narrow, none_is_out, is_side-solved, is_side-moved, nonzero-side, is_fact-side, is_fact-far_child, in_range)
