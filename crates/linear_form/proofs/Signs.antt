-- Equality of numbers whose signs change.
use Rattle.std.specs.Prelude.{◌≡◌, ℤ, pos, neg_ℤ, ◌+ℤ◌}
use Rattle.std.specs.Ordering.{int_eq}
use Rattle.std.proofs.Common.{sym, ◌∙◌, ap, arith}
use Rattle.std.proofs.Math.IntN.{neg_ℤ-neg_ℤ}
use Rattle.std.proofs.lemmas.Int.{ints}
use Rattle.std.proofs.lemmas.Grind.{common_steps}
use Rattle.std.proofs.lemmas.Bool.Decides.{Decides-int_eq, same_from_decides}

opposite : (a b : ℤ) → neg_ℤ a ≡ neg_ℤ b → a ≡ b
opposite a b e = sym (neg_ℤ-neg_ℤ a) ∙ ap neg_ℤ e ∙ neg_ℤ-neg_ℤ b

-- both signs change
pub both_turned : (a b : ℤ) → int_eq a b ≡ int_eq (neg_ℤ a) (neg_ℤ b)
both_turned a b =
    let d = Decides-int_eq (neg_ℤ a) (neg_ℤ b) in
    same_from_decides {P = a ≡ b} (int_eq a b) (int_eq (neg_ℤ a) (neg_ℤ b)) (Decides-int_eq a b) (λ h. opposite a b (d.0 h), λ e. d.1 (ap neg_ℤ e))

-- one sign changes
pub left_turned : (a b : ℤ) → int_eq (a +ℤ b) (pos 0) ≡ int_eq (neg_ℤ a) b
left_turned a b =
    let d = Decides-int_eq (neg_ℤ a) b in
    same_from_decides {P = a +ℤ b ≡ pos 0} (int_eq (a +ℤ b) (pos 0)) (int_eq (neg_ℤ a) b) (Decides-int_eq (a +ℤ b) (pos 0))
    (λ h. let e = d.0 h in omega (arith, ints, e), λ e. d.1 (omega (arith, ints, e)))

pub right_turned : (a b : ℤ) → int_eq (a +ℤ b) (pos 0) ≡ int_eq a (neg_ℤ b)
right_turned a b =
    let d = Decides-int_eq a (neg_ℤ b) in
    same_from_decides {P = a +ℤ b ≡ pos 0} (int_eq (a +ℤ b) (pos 0)) (int_eq a (neg_ℤ b)) (Decides-int_eq (a +ℤ b) (pos 0))
    (λ h. let e = d.0 h in omega (arith, ints, e), λ e. d.1 (omega (arith, ints, e)))

pub ruleset signs = (common_steps, both_turned, left_turned, right_turned)
