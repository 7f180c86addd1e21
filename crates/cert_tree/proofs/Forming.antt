-- What a proof about sums that are formed one after the other wants.
use Rattle.std.specs.Prelude.{◌≡◌, ℤ, pos, negsuc, ◌≤ℤ◌, int_le, ◌&&◌, true, IsTrue, IfOk, IfSome, List, Option, Result, Ok, Err}
use Rattle.std.proofs.Common.{refl}
use Rattle.std.specs.declared.alloc.AllocError.{AllocError}
use Rattle.std.proofs.lemmas.Grind.{common_steps}
use Rattle.std.proofs.lemmas.Int.{to_z-of_z}
use Rattle.lin_base.specs.declared.sums.Lin.{Lin}
use Rattle.lin_base.specs.declared.wides.Wide.{Wide}
use Rattle.lin_base.specs.declared.wides.ArithmeticError.{ArithmeticError}
use Rattle.lin_base.specs.declared.wides.ArithmeticError.TheVariants.{Memory, Wide as TooWide}
use Rattle.lin_base.specs.Fact.{is_lin}
use Rattle.lin_base.specs.Sum.{negated}
use Rattle.lin_base.specs.Steps.{Forms}
use Rattle.std.proofs.lemmas.Bool.{and_from}
use Rattle.lin_base.proofs.Ring.{le_in}
use Rattle.lin_base.proofs.Forming.{first_wide-append_none, first_wide-append_some}
use Rattle.lin_base.proofs.WellFormed.{is_lin-scale, is_lin-add_number, is_lin-add_scaled}
use Rattle.cert_tree.specs.Narrow.{if_narrow, IsValueOf}

pub is_lin-negated : (t : Lin) → IsTrue (is_lin t) → IsTrue (is_lin (negated t))
is_lin-negated t h = is_lin-scale (negsuc 0) t h

pub ruleset forming = (common_steps, to_z-of_z, first_wide-append_none, first_wide-append_some, is_lin-scale, is_lin-negated)

-- the value of an answer that forms these steps
pub value_narrow : {A : Type 0} (r : Result A ArithmeticError) (o : Option A) (steps : List Wide) (a : A) → Forms r steps a → IsValueOf r o → o ≡ if_narrow steps a
value_narrow (Ok v) o steps a forms is = rw (is, forms.0.0, forms.0.1) refl
value_narrow (Err Memory) o steps a forms is = absurd is
value_narrow (Err (TooWide w)) o steps a forms is = rw (is, forms.1) refl

-- a fact about the value of an answer is one about the value, where there is one
pub narrow_keeps : {A : Type 0} (P : A → Type 0) (r : Result A ArithmeticError) (n : Result (Option A) AllocError) → IfOk r P → IfOk n (IsValueOf r) → IfOk n (λ o. IfSome o P)
narrow_keeps P r (Err e) h is = tt
narrow_keeps P (Ok v) (Ok o) h is = rw is h
narrow_keeps P (Err Memory) (Ok o) h is = absurd is
narrow_keeps P (Err (TooWide w)) (Ok o) h is = rw is tt

pub is_fact-divides : (m : ℤ) (t : Lin) → pos 2 ≤ℤ m → IsTrue (is_lin t) → (int_le (pos 2) m && is_lin t) ≡ true
is_fact-divides m t two is = and_from _ _ (le_in (pos 2) m two) is

pub ruleset narrowing = (common_steps, to_z-of_z, value_narrow, is_fact-divides, is_lin-add_number, is_lin-add_scaled)
