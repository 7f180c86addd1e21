-- The children of Least are facts over the other unknowns, well formed.
use Rattle.std.specs.Prelude.{◌≡◌, ℕ, zero, suc, if◌then◌else◌, ◌==◌, ℤ, pos, negsuc, ◌≤ℤ◌, Bool, true, false, int_le, int_lt, IsTrue, IfSome, option_map, List, [], ◌∷◌, ◌++◌, map, Option, Some, None}
use Rattle.std.specs.List.{list_all, filter_map, flat_map, cons_option, AllByRecursion}
use Rattle.std.proofs.Common.{refl, sym, ◌∙◌, ap, arith, inl, inr}
use Rattle.std.proofs.lemmas.Int.{ints}
use Rattle.std.proofs.lemmas.Bool.{cases_Bool, and_parts}
use Rattle.std.proofs.lemmas.List.{map-append}
use Rattle.std.proofs.lemmas.Simd.{map-map}
use Rattle.lin_base.specs.declared.facts.Fact.{Fact}
use Rattle.lin_base.specs.declared.facts.Fact.TheVariants.{AtMostZero, Zero, Divides, NotDivides}
use Rattle.lin_base.specs.declared.wides.Wide.{Wide}
use Rattle.lin_base.specs.Whole.{is_zero, is_in_range}
use Rattle.lin_base.specs.Numbers.{results}
use Rattle.lin_base.specs.Steps.{is_narrow}
use Rattle.lin_base.specs.Sum.{coef, each_unknown, add_number}
use Rattle.lin_base.specs.Fact.{sum_of, is_fact}
use Rattle.cert_tree.specs.Counting.{count_from, numbers_below}
use Rattle.cert_tree.specs.Points.{period}
use Rattle.cert_tree.specs.Sides.{side_of}
use Rattle.cert_tree.specs.Bounds.{bound_of, is_side}
use Rattle.cert_tree.specs.Children.{Bound, lower_bound, lower_bounds, bound_children, children_by, point_steps, bound_steps, far_child_steps, steps_by}
use Rattle.cert_tree.specs.Search.{Child, bound_child, far_child, least_children_of}
use Rattle.cert_tree.proofs.Pointing.{lower_bound_is, children_up, is_fact-point, is_fact-far_child}
use Rattle.cert_tree.proofs.Bounding.{period_up}
use Rattle.cert_tree.proofs.Truth.{all_append}
use Rattle.search_laws.proofs.Ranges.{InRange, range_parts, narrow_from, narrow_parts, narrow_both}
use Rattle.search_laws.proofs.Visits.{facts_of, formed_of, formed-append}
use Rattle.search_laws.proofs.Occurring.{Over, passes-without, passes-solved, passes-add_number, over-with_value, over-far_child}

-- facts that are well formed, over unknowns that pass
abbrev pub Fit : (ℕ → Bool) → List Fact → Type 0
Fit test facts = Over test facts × (list_all is_fact facts ≡ true)

pub all_made : (P : Child → Type 0) (f : ℕ → Child) → ((j : ℕ) → P (f j)) → (js : List ℕ) → AllByRecursion P (map f js)
all_made P f h [] = tt
all_made P f h (j ∷ js) = (h j, all_made P f h js)

-- a bound with a coefficient of at least 1, whose rest is without p and passes, and with a child
abbrev pub IsGood : (ℕ → Bool) → ℕ → Bound → Type 0
IsGood other p e = (is_side p (side_of e.side) ≡ true) × (each_unknown other e.side.rest ≡ true) × (pos 1 ≤ℤ e.children)

module _ (test other : ℕ → Bool) (p : ℕ) (more : (y : ℕ) → test y ≡ true → (y == p) ≡ false → other y ≡ true) where
  rest_passes : (d : ℤ) (f : Fact) → each_unknown test (sum_of f) ≡ true → IfSome (lower_bound p d f) (λ b. each_unknown other b.side.rest ≡ true)
  rest_passes d (AtMostZero t) h = elim (cases_Bool (int_lt (coef p t) (pos 0))) [
    | inl low ↦ rw low (passes-without test other p more t h)
    | inr high ↦ rw high tt
  ]
  rest_passes d (Zero t) h = elim (cases_Bool (is_zero (coef p t))) [
    | inl none ↦ rw none tt
    | inr some ↦ rw some (passes-solved test other p more t h)
  ]
  rest_passes d (Divides m t) h = tt
  rest_passes d (NotDivides m t) h = tt

  join : (o : Option Bound) → IfSome (option_map bound_of o) (λ b. IsTrue (is_side p b.side)) → IfSome o (λ b. IsTrue (int_le (pos 1) b.children)) → IfSome o (λ b. each_unknown other b.side.rest ≡ true) → IfSome o (IsGood other p)
  join None side up passes = tt
  join (Some e) side up passes = (side, passes, omega (arith, ints, up))

  consed : (o : Option Bound) (es : List Bound) → IfSome o (IsGood other p) → AllByRecursion (IsGood other p) es → AllByRecursion (IsGood other p) (cons_option o es)
  consed None es h all = all
  consed (Some e) es h all = (h, all)

  bounds_good : (d : ℤ) → pos 1 ≤ℤ d → (fs : List Fact) → Fit test fs → AllByRecursion (IsGood other p) (filter_map (lower_bound p d) fs)
  bounds_good d h [] fit = tt
  bounds_good d h (f ∷ fs) fit =
      let over = and_parts (each_unknown test (sum_of f)) (list_all (λ f. each_unknown test (sum_of f)) fs) fit.0 in
      let is = and_parts (is_fact f) (list_all is_fact fs) fit.1 in
      consed (lower_bound p d f) (filter_map (lower_bound p d) fs)
      (join (lower_bound p d f) (lower_bound_is p d f is.0) (children_up p d f h) (rest_passes d f over.0))
      (bounds_good d h fs (over.1, is.1))

  module _ (facts : List Fact) (fit : Fit test facts) where
    pub lower_bounds_good : AllByRecursion (IsGood other p) (lower_bounds p facts)
    lower_bounds_good = bounds_good (period p facts) (period_up p facts fit.1) facts fit

    bound_fit : (e : Bound) → IsGood other p e → (j : ℕ) → Fit other (bound_child p facts e j).facts
    bound_fit e good j = (
      over-with_value test other p more e.side.b (add_number e.side.rest (pos j)) (passes-add_number other e.side.rest (pos j) good.1) facts fit.0,
      is_fact-point p facts (side_of e.side) j good.0 fit.1,
    )

    far_fit : (j : ℕ) → Fit other (far_child p facts j).facts
    far_fit j = (over-far_child test other p more j facts fit.0, is_fact-far_child p facts j fit.1)

    abbrev FitChild : Child → Type 0
    FitChild c = Fit other c.facts

    bounds_fit : (es : List Bound) → AllByRecursion (IsGood other p) es → AllByRecursion FitChild (flat_map (λ b. map (bound_child p facts b) (numbers_below b.children)) es)
    bounds_fit [] all = tt
    bounds_fit (e ∷ es) all =
        let rest : List Child = flat_map (λ b. map (bound_child p facts b) (numbers_below b.children)) es in
        all_append FitChild (map (bound_child p facts e) (numbers_below e.children)) rest
        (all_made FitChild (bound_child p facts e) (bound_fit e all.0) (numbers_below e.children)) (bounds_fit es all.1)

    children_fit : (es : List Bound) → AllByRecursion (IsGood other p) es → AllByRecursion FitChild (least_children_of p facts es)
    children_fit [] all = all_made FitChild (far_child p facts) far_fit (numbers_below (period p facts))
    children_fit (e ∷ es) all = bounds_fit (e ∷ es) all

    -- each child of Least
    pub least_fit : AllByRecursion FitChild (least_children_of p facts (lower_bounds p facts))
    least_fit = children_fit (lower_bounds p facts) lower_bounds_good

-- ---- the facts of the children are those that the certificate's node has
module _ (p : ℕ) (facts : List Fact) where
  bound_facts : (es : List Bound) → facts_of (flat_map (λ b. map (bound_child p facts b) (numbers_below b.children)) es) ≡ flat_map (bound_children p facts) es
  bound_facts [] = refl
  bound_facts (e ∷ es) =
      let here : List Child = map (bound_child p facts e) (numbers_below e.children) in
      let rest : List Child = flat_map (λ b. map (bound_child p facts b) (numbers_below b.children)) es in
      map-append (λ (c : Child). c.facts) here rest
      ∙ ap (λ ss. ss ++ facts_of rest) (map-map (λ (c : Child). c.facts) (bound_child p facts e) (numbers_below e.children))
      ∙ ap (λ ss. bound_children p facts e ++ ss) (bound_facts es)

  pub children_facts : (es : List Bound) → facts_of (least_children_of p facts es) ≡ children_by p facts es
  children_facts [] = map-map (λ (c : Child). c.facts) (far_child p facts) (numbers_below (period p facts))
  children_facts (e ∷ es) = bound_facts (e ∷ es)

-- ---- where the numbers formed for the children are in the range, the node's steps are
module _ (p : ℕ) (facts : List Fact) where
  far_narrow : (js : List ℕ) → InRange (formed_of (map (far_child p facts) js)) → is_narrow (flat_map (far_child_steps p facts) js) ≡ true
  far_narrow [] h = refl
  far_narrow (j ∷ js) h =
      let here : List Wide = far_child_steps p facts j in
      let parts = range_parts (results here) (formed_of (map (far_child p facts) js)) h in
      narrow_both here (flat_map (far_child_steps p facts) js) (narrow_from here parts.0) (far_narrow js parts.1)

  module _ (e : Bound) where
    -- those before the first child
    abbrev first_steps : ℕ → List Wide
    first_steps j = if j == 0 then e.side.steps ++ e.count_steps else []

    abbrev steps_at : ℕ → List Wide
    steps_at = point_steps p facts e.side.b e.side.rest

    child_narrow : (j : ℕ) → InRange (bound_child p facts e j).formed → (is_narrow (first_steps j) ≡ true) × (is_narrow (steps_at j) ≡ true)
    child_narrow j h = narrow_parts (first_steps j) (steps_at j) (narrow_from (first_steps j ++ steps_at j) h)

    points_narrow : (js : List ℕ) → InRange (formed_of (map (bound_child p facts e) js)) → is_narrow (flat_map steps_at js) ≡ true
    points_narrow [] h = refl
    points_narrow (j ∷ js) h =
        let parts = range_parts (bound_child p facts e j).formed (formed_of (map (bound_child p facts e) js)) h in
        narrow_both (steps_at j) (flat_map steps_at js) (child_narrow j parts.0).1 (points_narrow js parts.1)

    children_of_bound : (z : ℤ) → pos 1 ≤ℤ z → InRange (formed_of (map (bound_child p facts e) (numbers_below z))) → is_narrow (e.side.steps ++ e.count_steps ++ flat_map steps_at (numbers_below z)) ≡ true
    children_of_bound (pos zero) h range = absurd (omega (arith, ints, h))
    children_of_bound (negsuc n) h range = absurd (omega (arith, ints, h))
    children_of_bound (pos (suc n)) h range =
        let first = range_parts (bound_child p facts e 0).formed (formed_of (map (bound_child p facts e) (count_from 1 n))) range in
        narrow_both (e.side.steps ++ e.count_steps) (flat_map steps_at (numbers_below (pos (suc n)))) (child_narrow 0 first.0).0 (points_narrow (numbers_below (pos (suc n))) range)

  bounds_narrow : (other : ℕ → Bool) (es : List Bound) → AllByRecursion (IsGood other p) es → InRange (formed_of (flat_map (λ b. map (bound_child p facts b) (numbers_below b.children)) es)) → is_narrow (flat_map (bound_steps p facts) es) ≡ true
  bounds_narrow other [] all range = refl
  bounds_narrow other (e ∷ es) all range =
      let here : List Child = map (bound_child p facts e) (numbers_below e.children) in
      let rest : List Child = flat_map (λ b. map (bound_child p facts b) (numbers_below b.children)) es in
      let parts = range_parts (formed_of here) (formed_of rest) (ap (list_all is_in_range) (sym (formed-append here rest)) ∙ range) in
      narrow_both (bound_steps p facts e) (flat_map (bound_steps p facts) es) (children_of_bound e e.children all.0.2 parts.0) (bounds_narrow other es all.1 parts.1)

  pub children_narrow : (other : ℕ → Bool) (es : List Bound) → AllByRecursion (IsGood other p) es → InRange (formed_of (least_children_of p facts es)) → is_narrow (steps_by p facts es) ≡ true
  children_narrow other [] all range = far_narrow (numbers_below (period p facts)) range
  children_narrow other (e ∷ es) all range = bounds_narrow other (e ∷ es) all range
