-- The values of parameters, and clauses without literals.
use Rattle.std.specs.Prelude.{◌≡◌, ◌<◌, ◌+◌, ℕ, zero, suc, ℤ, pos, Bool, true, false, ◌==◌, length, List, [], ◌∷◌, Option, Some}
use Rattle.std.specs.List.{list_any}
use Rattle.std.specs.List.Sorted.{IsStrictlyIncreasing}
use Rattle.std.proofs.Common.{refl, sym, ◌∙◌, ap, subst, arith, cond, get_or, slice_index}
use Rattle.std.proofs.lemmas.Bool.{false≢true}
use Rattle.std.proofs.lemmas.Bool.Decides.{nat_tests}
use Rattle.std.proofs.lemmas.List.Kept.{AllPairs-from_increasing}
use Rattle.term_base.specs.declared.clauses.Clause.{Clause}
use Rattle.term_base.specs.declared.clauses.Literal.{Literal}
use Rattle.cert_tree.specs.Laws.{valuation}
use Rattle.bg_view.specs.Truth.{Symbols, Variables, AreContradictory, GivesSymbols, literal_holds}
use Rattle.arithmetic_answers.specs.Decisions.{first_empty, has_no_literal, value_of}

-- ---- values
later_above : (s : ℕ) (symbols : List ℕ) → IsStrictlyIncreasing (s ∷ symbols) → (x : ℕ) → x < length symbols → s < get_or symbols x 0
later_above s symbols rises x within = AllPairs-from_increasing (s ∷ symbols) rises 0 (suc x) 0 (omega arith) (omega (arith, within))

tail_rises : (s : ℕ) (symbols : List ℕ) → IsStrictlyIncreasing (s ∷ symbols) → IsStrictlyIncreasing symbols
tail_rises s symbols rises k within =
    let next : suc k + 1 ≡ suc (k + 1) = omega arith in
    let above : slice_index (s ∷ symbols) (suc k) < slice_index (s ∷ symbols) (suc k + 1) = rises (suc k) (omega (arith, within)) in
    subst (λ (n : ℕ). slice_index (s ∷ symbols) (suc k) < slice_index (s ∷ symbols) n) next above

itself : (s : ℕ) → (s == s) ≡ true
itself s = grind (arith, nat_tests)

-- each symbol has the value of its place
pub gives_values : (symbols : List ℕ) (values : List ℤ) → IsStrictlyIncreasing symbols → GivesSymbols symbols (value_of symbols values) (valuation values)
gives_values [] values rises x within = absurd (omega (arith, within))
gives_values (s ∷ symbols) [] rises zero within = refl
gives_values (s ∷ symbols) [] rises (suc x) within = refl
gives_values (s ∷ symbols) (z ∷ values) rises zero within = sym (ap (λ b. cond b z (value_of symbols values s)) (itself s))
gives_values (s ∷ symbols) (z ∷ values) rises (suc x) within =
    let f = get_or symbols x 0 in
    let later = later_above s symbols rises x (omega (arith, within)) in
    let apart : (f == s) ≡ false = grind (arith, nat_tests, later) in
    gives_values symbols values (tail_rises s symbols rises) x (omega (arith, within)) ∙ sym (ap (λ b. cond b z (value_of symbols values f)) apart)

-- ---- empty clauses
no_literal : (p : Symbols) (w : Variables) (ls : List Literal) → has_no_literal ls ≡ true → list_any (literal_holds p w) ls ≡ true → ⊥
no_literal p w [] h t = false≢true t
no_literal p w (l ∷ ls) h t = false≢true h

-- clauses with an empty one contradict each other
pub empty_contradicts : (n : ℕ) (cs : List Clause) (k : ℕ) → first_empty n cs ≡ Some k → AreContradictory cs
empty_contradicts n [] k e p holds = cc
empty_contradicts n (c ∷ cs) k e p holds = by (λ i. empty_contradicts (suc n) cs k i p holds.1) (has_no_literal c.literals) refl e
  where
    by : (first_empty (suc n) cs ≡ Some k → ⊥) → (b : Bool) → has_no_literal c.literals ≡ b → cond {A = Option ℕ} b (Some n) (first_empty (suc n) cs) ≡ Some k → ⊥
    by later true h i = no_literal p (λ v. pos 0) c.literals h (holds.0 (λ v. pos 0))
    by later false h i = later i
