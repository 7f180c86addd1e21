-- The facts of a literal are true where the literal is, at the values that a valuation gives its symbols and variables.
use Rattle.std.specs.Prelude.{◌≡◌, ℕ, zero, suc, ℤ, pos, negsuc, ◌+ℤ◌, ◌-ℤ◌, ◌*ℤ◌, ◌≤ℤ◌, neg_ℤ, Bool, true, false, not, ◌&&◌, ◌||◌, int_le, List, [], ◌∷◌, if◌then◌else◌}
use Rattle.std.specs.List.{list_any}
use Rattle.std.proofs.Common.{refl, sym, ◌∙◌, ap, arith}
use Rattle.std.proofs.lemmas.Int.{ints}
use Rattle.std.proofs.lemmas.Bool.{cond_both, and_parts}
use Rattle.std.proofs.lemmas.List.Folds.{list_any-append}
use Rattle.term_base.specs.declared.terms.Term.{Term}
use Rattle.term_base.specs.declared.clauses.Literal.{Literal}
use Rattle.term_base.specs.declared.clauses.Literal.TheVariants.{Equal, Differ, AtMost}
use Rattle.term_base.specs.TermFolds.{fold-Var, fold-Num, fold-True, fold-Sum, fold-Scale, fold-App}
use Rattle.term_base.specs.TermInduction.{term_induction}
use Rattle.term_base.specs.TreeLemmas.{both_ways}
use Rattle.lin_base.specs.Whole.{is_zero, is_same}
use Rattle.lin_base.specs.Sum as sum
use Rattle.lin_base.specs.Sum.{Valuation, above, negated}
use Rattle.lin_base.specs.Fact.{holds}
use Rattle.lin_base.proofs.Ring.{one_mul, same_test, le_in, is_zero_out}
use Rattle.lin_base.proofs.Values.{value-add, value-scale, value-negated, value-number, value-add_number, value-above}
use Rattle.bg_view.specs.Unknowns.{Numbering}
use Rattle.bg_view.specs.Linear.{Formed, linear_step, linear, one_unknown, difference}
use Rattle.bg_view.specs.View.{Facts, truth_step, is_truth, yes, no, equal, differ, literal_view, negated_view, literals_facts}
use Rattle.bg_view.specs.Truth.{Symbols, Variables, value_step, value, literal_holds}

-- ---- tests of whole numbers
pub or_false : (b : Bool) → (b || false) ≡ b
or_false true = refl
or_false false = refl

not_in : (b : Bool) → (b ≡ true → ⊥) → not b ≡ true
not_in true h = absurd (h refl)
not_in false h = refl

not_out : (b : Bool) → not b ≡ true → b ≡ true → ⊥
not_out true h e = cc
not_out false h e = cc

at_most_zero : (a b : ℤ) → int_le (a -ℤ b) (pos 0) ≡ int_le a b
at_most_zero a b = same_test _ _ (λ e. le_in a b (omega (arith, ints, e))) (λ e. le_in (a -ℤ b) (pos 0) (omega (arith, ints, e)))

above_zero : (z : ℤ) → int_le (neg_ℤ z +ℤ pos 1) (pos 0) ≡ not (int_le z (pos 0))
above_zero z = same_test _ _
    (λ e. not_in (int_le z (pos 0)) (λ f. absurd (omega (arith, ints, e, f))))
    (λ e. le_in (neg_ℤ z +ℤ pos 1) (pos 0) (by_sign z (not_out (int_le z (pos 0)) e)))
  where
    by_sign : (z : ℤ) → (int_le z (pos 0) ≡ true → ⊥) → (neg_ℤ z +ℤ pos 1) ≤ℤ pos 0
    by_sign (pos zero) h = absurd (h refl)
    by_sign (pos (suc n)) h = omega (arith, ints)
    by_sign (negsuc n) h = absurd (h (le_in (negsuc n) (pos 0) (omega (arith, ints))))

or_in : (a b : Bool) → b ≡ true → (a || (b || false)) ≡ true
or_in true b h = refl
or_in false b h = or_false b ∙ h

not_zero : (z : ℤ) → (z ≡ pos 0 → ⊥) → not (is_zero z) ≡ true
not_zero z h = not_in (is_zero z) (λ e. h (is_zero_out z e))

apart_from_zero : (z : ℤ) → (int_le (z +ℤ pos 1) (pos 0) || (int_le (neg_ℤ z +ℤ pos 1) (pos 0) || false)) ≡ not (is_zero z)
apart_from_zero (pos zero) = refl
apart_from_zero (pos (suc n)) =
    or_in (int_le (pos (suc n) +ℤ pos 1) (pos 0)) (int_le (neg_ℤ (pos (suc n)) +ℤ pos 1) (pos 0)) (le_in (neg_ℤ (pos (suc n)) +ℤ pos 1) (pos 0) (omega (arith, ints)))
    ∙ sym (not_zero (pos (suc n)) (λ e. absurd (omega (arith, ints, e))))
apart_from_zero (negsuc n) =
    ap (λ b. b || (int_le (neg_ℤ (negsuc n) +ℤ pos 1) (pos 0) || false)) (le_in (negsuc n +ℤ pos 1) (pos 0) (omega (arith, ints)))
    ∙ sym (not_zero (negsuc n) (λ e. absurd (omega (arith, ints, e))))

module _ (n : Numbering) (v : Valuation) where
  -- the values that v gives symbols and variables
  abbrev pub at_symbols : Symbols
  at_symbols f = v (n.of_symbol f)

  abbrev pub at_variables : Variables
  at_variables x = v (n.of_variable x)

  abbrev at_term : Term → ℤ
  at_term = value at_symbols at_variables

  value-one_unknown : (x : ℕ) → sum.value v (one_unknown x) ≡ v x
  value-one_unknown x = omega (arith, ints, one_mul (v x))

  -- Linear has the value of the term
  pub value-linear : (t : Term) → sum.value v (linear n t).sum ≡ at_term t
  value-linear = term_induction (λ t. sum.value v (linear n t).sum ≡ at_term t)
      (λ x. ap (λ f. sum.value v f.sum) (fold-Var Formed (linear_step n) x) ∙ value-one_unknown (n.of_variable x) ∙ sym (fold-Var ℤ (value_step at_symbols at_variables) x))
      (λ k. ap (λ f. sum.value v f.sum) (fold-Num Formed (linear_step n) k) ∙ value-number v k ∙ sym (fold-Num ℤ (value_step at_symbols at_variables) k))
      (ap (λ f. sum.value v f.sum) (fold-True Formed (linear_step n)) ∙ value-number v (pos 0) ∙ sym (fold-True ℤ (value_step at_symbols at_variables)))
      (λ a b at_a at_b. ap (λ f. sum.value v f.sum) (fold-Sum Formed (linear_step n) a b) ∙ value-add v (linear n a).sum (linear n b).sum
      ∙ ap (λ z. z +ℤ sum.value v (linear n b).sum) at_a ∙ ap (λ z. at_term a +ℤ z) at_b ∙ sym (fold-Sum ℤ (value_step at_symbols at_variables) a b))
      (λ k a at_a. ap (λ f. sum.value v f.sum) (fold-Scale Formed (linear_step n) k a) ∙ value-scale v k (linear n a).sum
      ∙ ap (λ z. k *ℤ z) at_a ∙ sym (fold-Scale ℤ (value_step at_symbols at_variables) k a))
      (λ f ts _. ap (λ f. sum.value v f.sum) (fold-App Formed (linear_step n) f ts) ∙ value-one_unknown (n.of_symbol f) ∙ sym (fold-App ℤ (value_step at_symbols at_variables) f ts))

  value-difference : (s t : Term) → sum.value v (difference n s t).sum ≡ at_term s -ℤ at_term t
  value-difference s t = omega (arith, ints, value-add v (linear n s).sum (negated (linear n t).sum), value-negated v (linear n t).sum, value-linear s, value-linear t)

  value-truth : (t : Term) → is_truth t ≡ true → at_term t ≡ pos 0
  value-truth = term_induction (λ t. is_truth t ≡ true → at_term t ≡ pos 0)
      (λ x h. absurd (both_ways _ h (fold-Var Bool truth_step x)))
      (λ k h. absurd (both_ways _ h (fold-Num Bool truth_step k)))
      (λ h. fold-True ℤ (value_step at_symbols at_variables))
      (λ a b _ _ h. absurd (both_ways _ h (fold-Sum Bool truth_step a b)))
      (λ k a _ h. absurd (both_ways _ h (fold-Scale Bool truth_step k a)))
      (λ f ts _ h. absurd (both_ways _ h (fold-App Bool truth_step f ts)))

  truths_same : (s t : Term) → (is_truth s && is_truth t) ≡ true → is_same (at_term s) (at_term t) ≡ true
  truths_same s t h =
      let both = and_parts (is_truth s) (is_truth t) h in
      ap (λ z. is_same z (at_term t)) (value-truth s both.0) ∙ ap (is_same (pos 0)) (value-truth t both.1)

  -- some fact is true
  abbrev some : Facts → Bool
  some f = list_any (holds v) f.facts

  equation_means : (s t : Term) → some (if is_truth s && is_truth t then yes else equal (difference n s t)) ≡ is_same (at_term s) (at_term t)
  equation_means s t =
      cond_both (is_truth s && is_truth t) yes (equal (difference n s t)) (λ f. some f ≡ is_same (at_term s) (at_term t))
      (λ h. sym (truths_same s t h))
      (λ _. or_false _ ∙ ap is_zero (value-difference s t))

  disequation_means : (s t : Term) → some (if is_truth s && is_truth t then no else differ (difference n s t)) ≡ not (is_same (at_term s) (at_term t))
  disequation_means s t =
      cond_both (is_truth s && is_truth t) no (differ (difference n s t)) (λ f. some f ≡ not (is_same (at_term s) (at_term t)))
      (λ h. sym (ap not (truths_same s t h)))
      (λ _. let d = (difference n s t).sum in
      ap (λ z. int_le z (pos 0) || (int_le (sum.value v (above d)) (pos 0) || false)) (value-add_number v d (pos 1))
      ∙ ap (λ z. int_le (sum.value v d +ℤ pos 1) (pos 0) || (int_le z (pos 0) || false)) (value-above v d)
      ∙ apart_from_zero (sum.value v d)
      ∙ ap (λ z. not (is_zero z)) (value-difference s t))

  inequality_means : (s t : Term) → (int_le (sum.value v (difference n s t).sum) (pos 0) || false) ≡ int_le (at_term s) (at_term t)
  inequality_means s t = or_false _ ∙ ap (λ z. int_le z (pos 0)) (value-difference s t) ∙ at_most_zero (at_term s) (at_term t)

  strict_means : (s t : Term) → (int_le (sum.value v (above (difference n s t).sum)) (pos 0) || false) ≡ not (int_le (at_term s) (at_term t))
  strict_means s t =
      let d = (difference n s t).sum in
      or_false _ ∙ ap (λ z. int_le z (pos 0)) (value-above v d) ∙ above_zero (sum.value v d)
      ∙ ap (λ z. not (int_le z (pos 0))) (value-difference s t) ∙ ap not (at_most_zero (at_term s) (at_term t))

  pub literal_means : (l : Literal) → some (literal_view n l) ≡ literal_holds at_symbols at_variables l
  literal_means (Equal s t) = equation_means s t
  literal_means (Differ s t) = disequation_means s t
  literal_means (AtMost s t) = inequality_means s t

  -- and those of the negated literal where it is false
  pub negated_means : (l : Literal) → some (negated_view n l) ≡ not (literal_holds at_symbols at_variables l)
  negated_means (Equal s t) = disequation_means s t
  negated_means (Differ s t) = equation_means s t ∙ sym (not_not (is_same (at_term s) (at_term t)))
    where
      not_not : (b : Bool) → not (not b) ≡ b
      not_not true = refl
      not_not false = refl
  negated_means (AtMost s t) = strict_means s t

  pub literals_mean : (ls : List Literal) → list_any (holds v) (literals_facts n ls) ≡ list_any (literal_holds at_symbols at_variables) ls
  literals_mean [] = refl
  literals_mean (l ∷ ls) =
      list_any-append (holds v) (literal_view n l).facts (literals_facts n ls)
      ∙ ap (λ b. b || list_any (holds v) (literals_facts n ls)) (literal_means l)
      ∙ ap (λ b. literal_holds at_symbols at_variables l || b) (literals_mean ls)
