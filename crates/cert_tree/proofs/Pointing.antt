-- Lower bounds and test points are well formed.
use Rattle.std.specs.Prelude.{◌≡◌, ℕ, ◌<◌, ◌+◌, ◌==◌, ℤ, pos, neg_ℤ, ◌≤ℤ◌, ◌<ℤ◌, ◌*ℤ◌, true, false, not, ◌&&◌, int_le, int_lt, IsTrue, IfSome, option_map, length, get_or, drop, List, [], ◌∷◌, ◌++◌}
use Rattle.std.specs.List.{list_all, list_any}
use Rattle.std.proofs.Common.{refl, ◌∙◌, ap, arith, inl, inr}
use Rattle.std.proofs.lemmas.Int.{ints}
use Rattle.std.proofs.lemmas.Bool.{cond_both, cases_Bool, and_parts, and_from, not-true}
use Rattle.std.proofs.lemmas.List.{at_drop_more}
use Rattle.lin_base.specs.declared.sums.Lin.{Lin}
use Rattle.lin_base.specs.declared.facts.Fact.{Fact}
use Rattle.lin_base.specs.declared.facts.Fact.TheVariants.{AtMostZero, Zero, Divides, NotDivides}
use Rattle.lin_base.specs.Whole.{is_zero}
use Rattle.lin_base.specs.Fact.{is_fact, is_lin, is_ascending}
use Rattle.lin_base.specs.Sum.{Terms, coef, occurs, add_term, add_terms, add_number, number, without, is_reduced}
use Rattle.lin_base.proofs.Ring.{le_in, mul_positive}
use Rattle.lin_base.proofs.Merging.{ascending_parts, add_term-below}
use Rattle.lin_base.proofs.WellFormed.{is_fact-replace, is_lin-without, is_lin-add_number}
use Rattle.cert_tree.specs.declared.sums.Side.{Side}
use Rattle.cert_tree.specs.Points.{solved}
use Rattle.cert_tree.specs.Bounds.{bound_of, is_side}
use Rattle.cert_tree.specs.Children.{lower_bound, point, far_down, far_down_steps, far_child, far_child_steps}
use Rattle.cert_tree.proofs.Replacing.{occurs-without, positive-solved, occurs-solved, is_lin-solved, is_fact-with_value}

-- ---- a number added
add_terms-nil : (ts : Terms) → is_ascending ts ≡ true → add_terms ts [] ≡ ts
add_terms-nil [] h = refl
add_terms-nil ((x, k) ∷ ts) h =
    let parts = ascending_parts (x, k) ts h in
    ap (add_term x k) (add_terms-nil ts parts.1) ∙ add_term-below x k ts parts.0

pub occurs-add_number : (x : ℕ) (t : Lin) (c : ℤ) → is_lin t ≡ true → occurs x t ≡ false → occurs x (add_number t c) ≡ false
occurs-add_number x t c is h = ap (λ ts. list_any (λ e. e.0 == x) ts) (add_terms-nil t.coefs (and_parts (is_ascending t.coefs) (is_reduced t.coefs) is).0) ∙ h

-- ---- bounds
pub side_is : (p : ℕ) (b : ℤ) (t : Lin) → pos 1 ≤ℤ b → is_lin t ≡ true → occurs p t ≡ false → (int_le (pos 1) b && is_lin t && not (occurs p t)) ≡ true
side_is p b t h is absent = and_from _ _ (and_from _ _ (le_in (pos 1) b h) is) (ap not absent)

up : (a : ℤ) → int_lt a (pos 0) ≡ true → pos 1 ≤ℤ neg_ℤ a
up a h = omega (arith, ints, h)

pub one_up : (z : ℤ) → pos 0 <ℤ z → pos 1 ≤ℤ z
one_up z h = omega (arith, ints, h)

pub zero_up : (z : ℤ) → pos 1 ≤ℤ z → pos 0 <ℤ z
zero_up z h = omega (arith, ints, h)

pub lower_bound_is : (p : ℕ) (d : ℤ) (f : Fact) → is_fact f ≡ true → IfSome (option_map bound_of (lower_bound p d f)) (λ b. IsTrue (is_side p b.side))
lower_bound_is p d (AtMostZero t) is = elim (cases_Bool (int_lt (coef p t) (pos 0))) [
  | inl low ↦ rw low (side_is p (neg_ℤ (coef p t)) (without p t) (up (coef p t) low) (is_lin-without p t is) (occurs-without p t))
  | inr high ↦ rw high tt
]
lower_bound_is p d (Zero t) is = elim (cases_Bool (is_zero (coef p t))) [
  | inl none ↦ rw none tt
  | inr some ↦ rw some (side_is p (solved p t).b (solved p t).rest (positive-solved p t some) (is_lin-solved p t is) (occurs-solved p t))
]
lower_bound_is p d (Divides m t) is = tt
lower_bound_is p d (NotDivides m t) is = tt

-- there is a child for each bound
pub children_up : (p : ℕ) (d : ℤ) (f : Fact) → pos 1 ≤ℤ d → IfSome (lower_bound p d f) (λ b. IsTrue (int_le (pos 1) b.children))
children_up p d (AtMostZero t) h = elim (cases_Bool (int_lt (coef p t) (pos 0))) [
  | inl low ↦ rw low (le_in (pos 1) (neg_ℤ (coef p t) *ℤ d) (one_up (neg_ℤ (coef p t) *ℤ d) (mul_positive (neg_ℤ (coef p t)) d (zero_up (neg_ℤ (coef p t)) (up (coef p t) low)) (zero_up d h))))
  | inr high ↦ rw high tt
]
children_up p d (Zero t) h = elim (cases_Bool (is_zero (coef p t))) [
  | inl none ↦ rw none tt
  | inr some ↦ rw some refl
]
children_up p d (Divides m t) h = tt
children_up p d (NotDivides m t) h = tt

pub side_positive : (p : ℕ) (e : Side) → is_side p e ≡ true → pos 1 ≤ℤ e.b
side_positive p e h = let one = (and_parts (int_le (pos 1) e.b) (is_lin e.rest) (and_parts (int_le (pos 1) e.b && is_lin e.rest) (not (occurs p e.rest)) h).0).0 in omega (arith, ints, one)

pub side_lin : (p : ℕ) (e : Side) → is_side p e ≡ true → is_lin e.rest ≡ true
side_lin p e h = (and_parts (int_le (pos 1) e.b) (is_lin e.rest) (and_parts (int_le (pos 1) e.b && is_lin e.rest) (not (occurs p e.rest)) h).0).1

pub side_absent : (p : ℕ) (e : Side) → is_side p e ≡ true → occurs p e.rest ≡ false
side_absent p e h = not-true _ (and_parts (int_le (pos 1) e.b && is_lin e.rest) (not (occurs p e.rest)) h).1

-- ---- test points
pub is_fact-point : (p : ℕ) (facts : List Fact) (e : Side) (j : ℕ) → is_side p e ≡ true → list_all is_fact facts ≡ true → list_all is_fact (point p facts e.b e.rest j) ≡ true
is_fact-point p facts e j h all = is_fact-with_value p e.b (add_number e.rest (pos j)) facts (side_positive p e h) (is_lin-add_number e.rest (pos j) (side_lin p e h)) all

one_le_one : pos 1 ≤ℤ pos 1
one_le_one = omega (arith, ints)

is_fact-far_down : (p j : ℕ) (f : Fact) → is_fact f ≡ true → is_fact (far_down p j f) ≡ true
is_fact-far_down p j (AtMostZero t) is = cond_both (occurs p t) (AtMostZero (number (pos 0))) (AtMostZero t) (λ g. is_fact g ≡ true) (λ _. refl) (λ _. is)
is_fact-far_down p j (Zero t) is = is_fact-replace p (pos 1) (number (pos j)) (Zero t) one_le_one refl is
is_fact-far_down p j (Divides m t) is = is_fact-replace p (pos 1) (number (pos j)) (Divides m t) one_le_one refl is
is_fact-far_down p j (NotDivides m t) is = is_fact-replace p (pos 1) (number (pos j)) (NotDivides m t) one_le_one refl is

pub is_fact-far_child : (p : ℕ) (facts : List Fact) (j : ℕ) → list_all is_fact facts ≡ true → list_all is_fact (far_child p facts j) ≡ true
is_fact-far_child p [] j all = refl
is_fact-far_child p (f ∷ fs) j all =
    let both = and_parts (is_fact f) (list_all is_fact fs) all in
    and_from _ _ (is_fact-far_down p j f both.0) (is_fact-far_child p fs j both.1)

pub far_child_steps-drop : (p j : ℕ) (facts : List Fact) (i : ℕ) (f : Fact) → i < length facts
    → far_child_steps p (drop i facts) j ≡ far_down_steps p j (get_or facts i f) ++ far_child_steps p (drop (i + 1) facts) j
far_child_steps-drop p j facts i f h = at_drop_more (λ fs. far_child_steps p fs j) facts i f h

pub far_child-drop : (p j : ℕ) (facts : List Fact) (i : ℕ) (f : Fact) → i < length facts
    → far_child p (drop i facts) j ≡ far_down p j (get_or facts i f) ∷ far_child p (drop (i + 1) facts) j
far_child-drop p j facts i f h = at_drop_more (λ fs. far_child p fs j) facts i f h
