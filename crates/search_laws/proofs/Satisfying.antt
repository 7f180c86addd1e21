-- The values back from a satisfied leaf make the facts true, and a literal of each clause.
use Rattle.std.specs.Prelude.{◌≡◌, ℕ, zero, suc, ◌+◌, ◌≤◌, ◌==◌, pos, Bool, true, false, not, length, IsTrue, List, [], ◌∷◌, ◌++◌, map, Some, None}
use Rattle.std.specs.List.{list_all, list_any, filter, flat_map, position, position_from, AllByRecursion}
use Rattle.std.proofs.Common.{refl, sym, ◌∙◌, ap, subst, arith, inl, inr}
use Rattle.std.proofs.lemmas.Int.{ints}
use Rattle.std.proofs.lemmas.Bool.{cond_both, cases_Bool, and_parts, and_from, or_cases, not-false, eqb-true, false≢true, true≢false}
use Rattle.std.proofs.lemmas.Iterator.Adapters.{position_from-zero}
use Rattle.lin_base.specs.declared.facts.Fact.{Fact}
use Rattle.lin_base.specs.Sum.{Terms, Valuation, has_unknown, each_unknown, add_number}
use Rattle.lin_base.specs.Fact.{holds, sum_of, is_false, is_fact, clause_holds}
use Rattle.cert_tree.specs.declared.certs.Tree.{Tree}
use Rattle.cert_tree.specs.declared.certs.Tree.TheOpen.{Case, Solve, Least}
use Rattle.cert_tree.specs.declared.certs.Tree.TheViews.{roll-Tree}
use Rattle.lin_base.specs.Numbers.{results}
use Rattle.cert_tree.specs.Counting.{is_one_of, numbers_below}
use Rattle.cert_tree.specs.Points.{period, period_steps, solved}
use Rattle.cert_tree.specs.Sides.{side_of}
use Rattle.cert_tree.specs.Children.{Bound, with_each, lower_bounds}
use Rattle.cert_tree.specs.Laws.{AllHold}
use Rattle.cert_tree.specs.Ground.{Numbered, unknowns}
use Rattle.cert_tree.specs.Search.{closed, satisfied, Visit, Child, Choice, as_it_is, visit_each, node_of, choice_from, solve_child, bound_child, far_child, least_children_of, the_one, eliminate, searched}
use Rattle.cert_tree.proofs.Replacing.{positive-solved, all-append}
use Rattle.cert_tree.proofs.Pointing.{side_positive}
use Rattle.cert_tree.proofs.Truth.{all_append}
use Rattle.search_laws.proofs.Occurring.{Over, passes-occurring}
use Rattle.search_laws.proofs.Choices.{option_cases, or_left, or_right, choice_is, first_unknown}
use Rattle.search_laws.proofs.Visits.{GivesGood, node_satisfied, same_satisfied, each_satisfied}
use Rattle.search_laws.proofs.LeastChildren.{Fit, IsGood, least_fit, lower_bounds_good}
use Rattle.search_laws.proofs.Closing.{list_cases, chosen_passes, chosen_coefficient, solved_fit}
use Rattle.search_laws.proofs.Variables.{over_occurring, unknown_in}
use Rattle.search_laws.proofs.Solutions.{value_back, far_value_back}

-- ---- a leaf: no fact has an unknown, and none is false
none_from : {A : Type 0} (test : A → Bool) (i : ℕ) (xs : List A) → position_from test i xs ≡ None → AllByRecursion (λ x. test x ≡ false) xs
none_from test i [] h = tt
none_from test i (x ∷ xs) h = elim (cases_Bool (test x)) [
  | inl e ↦ let bad : Some i ≡ None = rw e at h in absurd (cc)
  | inr e ↦ (e, none_from test (i + 1) xs (rw e at h))
]

no_false : (facts : List Fact) → position is_false facts ≡ None → AllByRecursion (λ f. is_false f ≡ false) facts
no_false facts h = none_from is_false 0 facts (sym (position_from-zero is_false facts) ∙ h)

no_terms : (ts : Terms) → list_all (λ e. false) ts ≡ true → list_any (λ e. true) ts ≡ false
no_terms [] h = refl
no_terms (t ∷ ts) h = absurd (false≢true h)

abbrev nought : Valuation
nought x = pos 0

leaf_hold : (facts : List Fact) → AllByRecursion (λ f. is_false f ≡ false) facts → Over (λ x. false) facts → AllHold nought facts
leaf_hold [] all over = tt
leaf_hold (f ∷ fs) all over =
    let both = and_parts (each_unknown (λ x. false) (sum_of f)) (list_all (λ f. each_unknown (λ x. false) (sum_of f)) fs) over in
    let none : has_unknown (sum_of f) ≡ false = no_terms (sum_of f).coefs both.0 in
    let here : not (holds nought f) ≡ false = rw none at all.0 in
    (not-false (holds nought f) here, leaf_hold fs all.1 both.1)

leaf_holds : (facts : List Fact) (v : Valuation) → position is_false facts ≡ None → Over (λ x. false) facts → nought ≡ v → AllHold v facts
leaf_holds facts v none over same = subst (λ u. AllHold u facts) same (leaf_hold facts (no_false facts none) over)

not_closed : {A : Type 0} {a : A} (v : Valuation) → closed a ≡ satisfied v → ⊥
not_closed v e = cc

all_parts : (P : Child → Type 0) (xs ys : List Child) → AllByRecursion P (xs ++ ys) → AllByRecursion P xs × AllByRecursion P ys
all_parts P [] ys all = (tt, all)
all_parts P (x ∷ xs) ys all = let rest = all_parts P xs ys all.1 in ((all.0, rest.0), rest.1)

-- ---- one unknown less
length_filter : (test : ℕ → Bool) (xs : List ℕ) → length (filter test xs) ≤ length xs
length_filter test [] = omega arith
length_filter test (x ∷ xs) = let rest = length_filter test xs in cond_both (test x) (x ∷ filter test xs) (filter test xs) (λ ys. length ys ≤ suc (length xs)) (λ _. omega (arith, rest)) (λ _. omega (arith, rest))

abbrev others : ℕ → List ℕ → List ℕ
others p xs = filter (λ y. not (y == p)) xs

fewer_than : (p : ℕ) (xs : List ℕ) → is_one_of xs p ≡ true → suc (length (others p xs)) ≤ length xs
fewer_than p [] o = absurd (false≢true o)
fewer_than p (x ∷ xs) o = elim (cases_Bool (x == p)) [
  | inl same ↦ let rest = length_filter (λ y. not (y == p)) xs in rw same (omega (arith, rest))
  | inr other ↦ let rest = fewer_than p xs (rw other at o) in rw other (omega (arith, rest))
]

fewer : (p k : ℕ) (xs : List ℕ) → is_one_of xs p ≡ true → length xs ≤ suc k → length (others p xs) ≤ k
fewer p k xs o h = omega (arith, fewer_than p xs o, h)

other_in : (p y : ℕ) (xs : List ℕ) → is_one_of xs y ≡ true → (y == p) ≡ false → is_one_of (others p xs) y ≡ true
other_in p y [] h apart = absurd (false≢true h)
other_in p y (x ∷ xs) h apart =
    cond_both (not (x == p)) (x ∷ others p xs) (others p xs) (λ ys. is_one_of ys y ≡ true)
    (λ _. elim (or_cases (x == y) (is_one_of xs y) h) [ inl e ↦ or_left (x == y) _ e | inr more ↦ or_right (x == y) _ (other_in p y xs more apart) ])
    (λ gone. elim (or_cases (x == y) (is_one_of xs y) h) [
      | inl e ↦ absurd (true≢false (sym (not-false (x == p) gone) ∙ ap (λ z. z == p) (eqb-true x y e) ∙ apart))
      | inr more ↦ other_in p y xs more apart
    ])

-- ---- eliminations
-- of well-formed facts over at most k unknowns: the values found make them true
abbrev Satisfies : (List Fact → Visit Tree) → ℕ → Type 0
Satisfies visit k = (xs : List ℕ) (facts : List Fact) → length xs ≤ k → Fit (is_one_of xs) facts → (v : Valuation) → (visit facts).found ≡ satisfied v → AllHold v facts

module _ (k : ℕ) (visit : List Fact → Visit Tree) (good : Satisfies visit k) (xs : List ℕ) (facts : List Fact) (few : length xs ≤ suc k) (fit : Fit (is_one_of xs) facts) where
  abbrev Holds : Valuation → Type 0
  Holds v = AllHold v facts

  solve_satisfies : (c : Choice) → choice_from 0 facts ≡ Some c → (v : Valuation) → (node_of (λ ts. roll-Tree (Solve c.fact c.p (the_one ts))) [] (visit_each visit (solve_child c facts ∷ []))).found ≡ satisfied v → Holds v
  solve_satisfies c h v e =
      let below : Visit (List Tree) = visit_each visit (solve_child c facts ∷ []) in
      let child : Child = solve_child c facts in
      let occurs_ : is_one_of xs c.p ≡ true = passes-occurring (is_one_of xs) c.p c.sum (chosen_passes (is_one_of xs) facts fit c h) (choice_is facts c h).1 in
      let fits = solved_fit (is_one_of xs) facts fit c h (is_one_of (others c.p xs)) (λ y. other_in c.p y xs) in
      let up = positive-solved c.p c.sum (chosen_coefficient (is_one_of xs) facts fit c h) in
      let gives : GivesGood visit Holds child = λ w found.
      value_back w c.p (solved c.p c.sum).b (solved c.p c.sum).rest facts (omega (arith, ints, up)) (good (others c.p xs) child.facts (fewer c.p k xs occurs_ few) fits w found) in
      each_satisfied visit Holds (child ∷ []) v (gives, tt) (node_satisfied (λ ts. roll-Tree (Solve c.fact c.p (the_one ts))) [] below v e)

  module _ (p : ℕ) (occurs_ : is_one_of xs p ≡ true) where
    abbrev FitsAt : Child → Type 0
    FitsAt c = Fit (is_one_of (others p xs)) c.facts

    below_hold : (c : Child) → FitsAt c → (w : Valuation) → (visit c.facts).found ≡ satisfied w → AllHold w c.facts
    below_hold c fits w found = good (others p xs) c.facts (fewer p k xs occurs_ few) fits w found

    bound_gives : (e : Bound) → IsGood (is_one_of (others p xs)) p e → (j : ℕ) → FitsAt (bound_child p facts e j) → GivesGood visit Holds (bound_child p facts e j)
    bound_gives e is j fits w found =
        let up = side_positive p (side_of e.side) is.0 in
        value_back w p e.side.b (add_number e.side.rest (pos j)) facts (omega (arith, ints, up)) (below_hold (bound_child p facts e j) fits w found)

    bound_all : (e : Bound) → IsGood (is_one_of (others p xs)) p e → (js : List ℕ) → AllByRecursion FitsAt (map (bound_child p facts e) js) → AllByRecursion (GivesGood visit Holds) (map (bound_child p facts e) js)
    bound_all e is [] fits = tt
    bound_all e is (j ∷ js) fits = (bound_gives e is j fits.0, bound_all e is js fits.1)

    bounds_all : (es : List Bound) → AllByRecursion (IsGood (is_one_of (others p xs)) p) es → AllByRecursion FitsAt (flat_map (λ b. map (bound_child p facts b) (numbers_below b.children)) es)
        → AllByRecursion (GivesGood visit Holds) (flat_map (λ b. map (bound_child p facts b) (numbers_below b.children)) es)
    bounds_all [] is fits = tt
    bounds_all (e ∷ es) is fits =
        let here : List Child = map (bound_child p facts e) (numbers_below e.children) in
        let rest : List Child = flat_map (λ b. map (bound_child p facts b) (numbers_below b.children)) es in
        let parts = all_parts FitsAt here rest fits in
        all_append (GivesGood visit Holds) here rest (bound_all e is.0 (numbers_below e.children) parts.0) (bounds_all es is.1 parts.1)

    far_all : lower_bounds p facts ≡ [] → (js : List ℕ) → AllByRecursion FitsAt (map (far_child p facts) js) → AllByRecursion (GivesGood visit Holds) (map (far_child p facts) js)
    far_all none [] fits = tt
    far_all none (j ∷ js) fits = ((λ w found. far_value_back p facts j w fit.1 none (below_hold (far_child p facts j) fits.0 w found)), far_all none js fits.1)

    children_give : (es : List Bound) → lower_bounds p facts ≡ es → AllByRecursion (IsGood (is_one_of (others p xs)) p) es → AllByRecursion FitsAt (least_children_of p facts es) → AllByRecursion (GivesGood visit Holds) (least_children_of p facts es)
    children_give [] none is fits = far_all none (numbers_below (period p facts)) fits
    children_give (e ∷ es) some is fits = bounds_all (e ∷ es) is fits

    least_satisfies : (v : Valuation) → (node_of (λ ts. roll-Tree (Least p ts)) (results (period_steps p facts)) (visit_each visit (least_children_of p facts (lower_bounds p facts)))).found ≡ satisfied v → Holds v
    least_satisfies v e =
        let es : List Bound = lower_bounds p facts in
        let cs : List Child = least_children_of p facts es in
        let less : ℕ → Bool = is_one_of (others p xs) in
        let good_ = lower_bounds_good (is_one_of xs) less p (λ y. other_in p y xs) facts fit in
        let fits = least_fit (is_one_of xs) less p (λ y. other_in p y xs) facts fit in
        each_satisfied visit Holds cs v (children_give es refl good_ fits) (node_satisfied (λ ts. roll-Tree (Least p ts)) (results (period_steps p facts)) (visit_each visit cs) v e)

nothing_left : (xs : List ℕ) (facts : List Fact) → length xs ≤ 0 → Over (is_one_of xs) facts → Over (λ x. false) facts
nothing_left [] facts h over = over
nothing_left (x ∷ xs) facts h over = absurd (omega (arith, h))

pub eliminate_satisfies : (k : ℕ) → Satisfies (eliminate k) k
eliminate_satisfies zero xs facts few fit v e = elim (option_cases (position is_false facts)) [
  | inl none ↦ leaf_holds facts v none (nothing_left xs facts few fit.0) (same_satisfied {A = Tree} nought v (rw none at e))
  | inr some ↦ absurd (not_closed v (rw some.1 at e))
]
eliminate_satisfies (suc k) xs facts few fit v e = elim (option_cases (position is_false facts)) [
  | inr some ↦ absurd (not_closed v (rw (some.1, eliminate) at e))
  | inl none ↦ elim (option_cases (choice_from 0 facts)) [
    | inr c ↦ solve_satisfies k (eliminate k) (eliminate_satisfies k) xs facts few fit c.0 c.1 v (rw (none, eliminate, c.1) at e)
    | inl plain ↦ elim (list_cases (unknowns facts)) [
      | inl nil ↦
          leaf_holds facts v none (over_occurring (λ x. false) facts (λ y o. subst (λ ys. is_one_of ys y ≡ true) nil (unknown_in y facts o)))
          (same_satisfied {A = Tree} nought v (rw (none, eliminate, plain, nil) at e))
      | inr cons ↦ least_satisfies k (eliminate k) (eliminate_satisfies k) xs facts few fit cons.0 (first_unknown (is_one_of xs) facts cons.0 cons.1 cons.2 fit.0) v (rw (none, eliminate, plain, cons.2) at e)
    ]
  ]
]

-- ---- the clauses
-- the facts are true, and a literal of each clause
abbrev pub HoldWith : List Numbered → List Fact → Valuation → Type 0
HoldWith cs facts v = AllHold v facts × AllByRecursion (λ c. IsTrue (clause_holds v c.1)) cs

split_last : (v : Valuation) (facts : List Fact) (f : Fact) → AllHold v (facts ++ f ∷ []) → AllHold v facts × (holds v f ≡ true)
split_last v [] f all = (tt, all.0)
split_last v (g ∷ gs) f all = let rest = split_last v gs f all.1 in ((all.0, rest.0), rest.1)

module _ (c : Numbered) (rest : List Numbered) (facts : List Fact) (is : list_all is_fact facts ≡ true) (below : (more : List Fact) → list_all is_fact more ≡ true → (v : Valuation) → (searched rest more).found ≡ satisfied v → HoldWith rest more v) where
  cases_give : (fs : List Fact) → list_all is_fact fs ≡ true → ((v : Valuation) → list_any (holds v) fs ≡ true → list_any (holds v) c.1 ≡ true) → AllByRecursion (GivesGood (searched rest) (HoldWith (c ∷ rest) facts)) (map as_it_is (with_each facts fs))
  cases_give [] all some = tt
  cases_give (f ∷ fs) all some =
      let both = and_parts (is_fact f) (list_all is_fact fs) all in (
        (λ w found.
            let h = below (facts ++ f ∷ []) (all-append facts (f ∷ []) is (and_from _ _ both.0 refl)) w found in
            let parts = split_last w facts f h.0 in
            (parts.0, (some w (or_left (holds w f) (list_any (holds w) fs) parts.1), h.1))),
        cases_give fs both.1 (λ v h. some v (or_right (holds v f) (list_any (holds v) fs) h)),
      )

pub searched_satisfies : (cs : List Numbered) → AllByRecursion (λ c. list_all is_fact c.1 ≡ true) cs → (facts : List Fact) → list_all is_fact facts ≡ true → (v : Valuation) → (searched cs facts).found ≡ satisfied v → HoldWith cs facts v
searched_satisfies [] all facts is v e =
    let over = over_occurring (is_one_of (unknowns facts)) facts (λ y o. unknown_in y facts o) in
    (eliminate_satisfies (length (unknowns facts)) (unknowns facts) facts (omega arith) (over, is) v e, tt)
searched_satisfies (c ∷ rest) all facts is v e = elim (option_cases (position is_false facts)) [
  | inr some ↦ absurd (not_closed v (rw (some.1, searched) at e))
  | inl none ↦
      let children : List Child = map as_it_is (with_each facts c.1) in
      let give = cases_give c rest facts is (searched_satisfies rest all.1) c.1 all.0 (λ v h. h) in
      each_satisfied (searched rest) (HoldWith (c ∷ rest) facts) children v give (node_satisfied (λ ts. roll-Tree (Case c.0 ts)) [] (visit_each (searched rest) children) v (rw (none, searched) at e))
]
