-- Facts with a sum put for a multiple of an unknown.
use Rattle.std.specs.Prelude.{◌≡◌, ℕ, ◌<◌, ◌+◌, ℤ, pos, negsuc, ◌≤ℤ◌, ◌*ℤ◌, Bool, true, false, not, ◌==◌, ◌||◌, int_lt, int_le, length, get_or, drop, map, List, [], ◌∷◌, ◌++◌}
use Rattle.std.specs.List.{filter, list_all, list_any}
use Rattle.std.proofs.Common.{refl, sym, ◌∙◌, arith, inl, inr}
use Rattle.std.proofs.lemmas.Int.{ints}
use Rattle.std.proofs.lemmas.Bool.{cond_both, cases_Bool, and_parts, and_from, true≢false}
use Rattle.std.proofs.lemmas.List.{at_drop_more}
use Rattle.lin_base.specs.declared.sums.Lin.{Lin}
use Rattle.lin_base.specs.declared.facts.Fact.{Fact}
use Rattle.lin_base.specs.declared.facts.Fact.TheVariants.{Divides}
use Rattle.lin_base.specs.Whole.{is_zero, is_same}
use Rattle.lin_base.specs.Fact.{is_fact, is_lin}
use Rattle.lin_base.specs.Sum.{Terms, coef, occurs, scale_terms, without, negated}
use Rattle.lin_base.specs.Change.{replace}
use Rattle.lin_base.specs.Steps.{replace_steps, replace_all_steps}
use Rattle.lin_base.proofs.Ring.{le_in}
use Rattle.lin_base.proofs.WellFormed.{is_fact-replace, is_lin-without}
use Rattle.cert_tree.specs.Points.{solved, made_positive, divides_part}
use Rattle.cert_tree.specs.Children.{with_value, solved_facts}
use Rattle.cert_tree.proofs.Truth.{positive_from}
use Rattle.cert_tree.proofs.Forming.{forming, is_lin-negated}

-- ---- x doesn't occur
absent-without : (x : ℕ) (ts : Terms) → list_any (λ e. e.0 == x) (filter (λ e. not (e.0 == x)) ts) ≡ false
absent-without x [] = refl
absent-without x ((y, k) ∷ ts) = elim (cases_Bool (y == x)) [
  | inl e ↦ rw e (absent-without x ts)
  | inr d ↦ rw d (rw d (absent-without x ts))
]

pub occurs-without : (x : ℕ) (t : Lin) → occurs x (without x t) ≡ false
occurs-without x t = absent-without x t.coefs

or_parts : (a b : Bool) → (a || b) ≡ false → (a ≡ false) × (b ≡ false)
or_parts true b h = absurd (true≢false h)
or_parts false b h = (refl, h)

absent-scale : (x : ℕ) (k : ℤ) (ts : Terms) → list_any (λ e. e.0 == x) ts ≡ false → list_any (λ e. e.0 == x) (scale_terms k ts) ≡ false
absent-scale x k [] h = refl
absent-scale x k ((y, l) ∷ ts) h =
    let both = or_parts (y == x) (list_any (λ e. e.0 == x) ts) h in
    let rest = absent-scale x k ts both.1 in
    cond_both (is_zero (k *ℤ l)) (scale_terms k ts) ((y, k *ℤ l) ∷ scale_terms k ts) (λ us. list_any (λ e. e.0 == x) us ≡ false) (λ _. rest) (λ _. rw both.0 rest)

pub occurs-negated : (x : ℕ) (t : Lin) → occurs x t ≡ false → occurs x (negated t) ≡ false
occurs-negated x t h = absent-scale x (negsuc 0) t.coefs h

-- ---- a list of facts, from a place on
pub replace_all_steps-drop : (x : ℕ) (a : ℤ) (t : Lin) (facts : List Fact) (i : ℕ) (d : Fact) → i < length facts
    → replace_all_steps x a t (drop i facts) ≡ replace_steps x a t (get_or facts i d) ++ replace_all_steps x a t (drop (i + 1) facts)
replace_all_steps-drop x a t facts i d h = at_drop_more (replace_all_steps x a t) facts i d h

pub replaced-drop : (x : ℕ) (a : ℤ) (t : Lin) (facts : List Fact) (i : ℕ) (d : Fact) → i < length facts
    → map (replace x a t) (drop i facts) ≡ replace x a t (get_or facts i d) ∷ map (replace x a t) (drop (i + 1) facts)
replaced-drop x a t facts i d h = at_drop_more (map (replace x a t)) facts i d h

-- ---- well-formed facts
pub each_replaced : (x : ℕ) (a : ℤ) (t : Lin) → pos 1 ≤ℤ a → is_lin t ≡ true → (facts : List Fact) → list_all is_fact facts ≡ true → list_all is_fact (map (replace x a t) facts) ≡ true
each_replaced x a t h is [] all = refl
each_replaced x a t h is (f ∷ fs) all =
    let both = and_parts (is_fact f) (list_all is_fact fs) all in
    and_from _ _ (is_fact-replace x a t f h is both.0) (each_replaced x a t h is fs both.1)

pub all-append : (xs ys : List Fact) → list_all is_fact xs ≡ true → list_all is_fact ys ≡ true → list_all is_fact (xs ++ ys) ≡ true
all-append [] ys h k = k
all-append (x ∷ xs) ys h k = let both = and_parts (is_fact x) (list_all is_fact xs) h in and_from _ _ both.0 (all-append xs ys both.1 k)

pub two_up : (b : ℤ) → pos 1 ≤ℤ b → is_same b (pos 1) ≡ false → pos 2 ≤ℤ b
two_up b h n = elim (cases_Bool (int_le (pos 2) b)) [
  | inl two ↦ omega (arith, ints, two)
  | inr low ↦ let e : b ≡ pos 1 = omega (arith, ints, low) in absurd (true≢false (sym (same_one b e) ∙ n))
]
  where
    same_one : (c : ℤ) → c ≡ pos 1 → is_same c (pos 1) ≡ true
    same_one c e = rw e refl

is_fact-divides_part : (b : ℤ) (s : Lin) → pos 1 ≤ℤ b → is_lin s ≡ true → list_all is_fact (divides_part b s) ≡ true
is_fact-divides_part b s h is = cond_both (is_same b (pos 1)) [] (Divides b s ∷ []) (λ fs. list_all is_fact fs ≡ true) (λ _. refl) (λ n. and_from _ _ (and_from _ _ (le_in (pos 2) b (two_up b h n)) is) refl)

pub is_fact-with_value : (p : ℕ) (b : ℤ) (s : Lin) (facts : List Fact) → pos 1 ≤ℤ b → is_lin s ≡ true → list_all is_fact facts ≡ true → list_all is_fact (with_value p b s facts) ≡ true
is_fact-with_value p b s facts h is all = all-append (map (replace p b s) facts) (divides_part b s) (each_replaced p b s h is facts all) (is_fact-divides_part b s h is)

pub ruleset replacing = (forming, is_fact-with_value)

-- ---- b*p = s
pub positive_side : (p : ℕ) (t : Lin) → is_zero (coef p t) ≡ false → pos 1 ≤ℤ (made_positive p t).b
positive_side p t n = elim (cases_Bool (int_lt (coef p t) (pos 0))) [
  | inl low ↦ rw low (omega (arith, ints, low))
  | inr high ↦ rw high (let up = positive_from (coef p t) high n in omega (arith, ints, up))
]

pub absent_side : (p : ℕ) (t : Lin) → occurs p (made_positive p t).rest ≡ false
absent_side p t = elim (cases_Bool (int_lt (coef p t) (pos 0))) [
  | inl low ↦ rw low (occurs-negated p (without p t) (occurs-without p t))
  | inr high ↦ rw high (occurs-without p t)
]

pub is_lin_side : (p : ℕ) (t : Lin) → is_lin t ≡ true → is_lin (made_positive p t).rest ≡ true
is_lin_side p t is = elim (cases_Bool (int_lt (coef p t) (pos 0))) [
  | inl low ↦ rw low (is_lin-negated (without p t) (is_lin-without p t is))
  | inr high ↦ rw high (is_lin-without p t is)
]

pub positive-solved : (p : ℕ) (t : Lin) → is_zero (coef p t) ≡ false → pos 1 ≤ℤ (solved p t).b
positive-solved p t n = positive_side p t n

pub occurs-solved : (p : ℕ) (t : Lin) → occurs p (solved p t).rest ≡ false
occurs-solved p t = occurs-negated p (made_positive p t).rest (absent_side p t)

pub is_lin-solved : (p : ℕ) (t : Lin) → is_lin t ≡ true → is_lin (solved p t).rest ≡ true
is_lin-solved p t is = is_lin-negated (made_positive p t).rest (is_lin_side p t is)

pub is_fact-solved_facts : (p : ℕ) (facts : List Fact) (t : Lin) → is_zero (coef p t) ≡ false → is_lin t ≡ true → list_all is_fact facts ≡ true → list_all is_fact (solved_facts p facts t) ≡ true
is_fact-solved_facts p facts t n is all = is_fact-with_value p (solved p t).b (solved p t).rest facts (positive-solved p t n) (is_lin-solved p t is) all

pub ruleset solving = (forming, positive-solved, occurs-solved, is_lin-solved)
