-- A search that closes within the range gives a tree that stands.
use Rattle.std.specs.Prelude.{◌≡◌, ℕ, zero, suc, ◌==◌, nat_lt, pos, Bool, true, false, not, ◌&&◌, ◌⊎◌, length, List, [], ◌∷◌, ◌++◌, map, Some, slice_get}
use Rattle.std.specs.List.{list_all, position, AllByRecursion}
use Rattle.std.proofs.Common.{refl, sym, ◌∙◌, ap, subst, inl, inr}
use Rattle.std.proofs.lemmas.Bool.{and_parts, and_from, false≢true, ne_eqb, eqb-false}
use Rattle.lin_base.specs.declared.sums.Lin.{Lin}
use Rattle.lin_base.specs.declared.facts.Fact.{Fact}
use Rattle.lin_base.specs.declared.facts.Fact.TheVariants.{Zero}
use Rattle.lin_base.specs.Whole.{is_zero}
use Rattle.lin_base.specs.Sum.{coef, each_unknown}
use Rattle.lin_base.specs.Numbers.{results}
use Rattle.lin_base.specs.Fact.{sum_of, is_false, is_fact, is_lin}
use Rattle.lin_base.specs.Steps.{is_narrow}
use Rattle.lin_base.proofs.Occurring.{coef-occurring}
use Rattle.cert_tree.specs.declared.certs.Tree.{Tree}
use Rattle.cert_tree.specs.declared.certs.Tree.TheOpen.{Case, Solve, Least, Clash}
use Rattle.cert_tree.specs.declared.certs.Tree.TheViews.{roll-Tree}
use Rattle.cert_tree.specs.Counting.{is_free, is_one_of}
use Rattle.cert_tree.specs.Narrow.{some_and, option_then, if_narrow}
use Rattle.cert_tree.specs.Points.{period_steps, solved}
use Rattle.cert_tree.specs.Children.{with_each, zero_with, solve_steps, solved_facts, solve_child as solve_facts, lower_bounds, steps_by}
use Rattle.cert_tree.specs.Stands.{each_stands, is_open_case}
use Rattle.cert_tree.specs.Ground.{Numbered, unknowns}
use Rattle.cert_tree.specs.Search.{closed, Visit, Child, Choice, as_it_is, visit_each, node_of, choice_from, solve_child, least_children_of, the_one, eliminate, searched}
use Rattle.cert_tree.proofs.Nodes.{stands-clash, stands-solve, stands-least, stands-case}
use Rattle.cert_tree.proofs.RowsSound.{not_zero}
use Rattle.cert_tree.proofs.Replacing.{is_fact-solved_facts, all-append}
use Rattle.search_laws.proofs.Ranges.{InRange, range_parts, narrow_from, narrow_both}
use Rattle.search_laws.proofs.Occurring.{over-append, passes-solved, over-with_value}
use Rattle.search_laws.proofs.Choices.{option_cases, closing_fact, choice_is, first_unknown}
use Rattle.search_laws.proofs.Visits.{ClosesAt, stand, facts_of, node_closed, not_both, same_closed, each_closed}
use Rattle.search_laws.proofs.LeastChildren.{Fit, least_fit, lower_bounds_good, children_facts, children_narrow}

-- ---- lists
pub all_get : {A : Type 0} (test : A → Bool) (xs : List A) (n : ℕ) (a : A) → list_all test xs ≡ true → slice_get xs n ≡ Some a → test a ≡ true
all_get test [] n a all e = absurd (cc)
all_get test (x ∷ xs) zero a all e = let same : x ≡ a = cc in subst (λ y. test y ≡ true) same (and_parts (test x) (list_all test xs) all).0
all_get test (x ∷ xs) (suc n) a all e = all_get test xs n a (and_parts (test x) (list_all test xs) all).1 e

pub list_cases : {A : Type 0} (xs : List A) → (xs ≡ []) ⊎ ((a : A) × (more : List A) × (xs ≡ a ∷ more))
list_cases [] = inl refl
list_cases (a ∷ more) = inr (a, more, refl)

-- ---- the Zero fact that is solved has its parameter
module _ (test : ℕ → Bool) (facts : List Fact) (fit : Fit test facts) (c : Choice) (h : choice_from 0 facts ≡ Some c) where
  pub chosen_lin : is_lin c.sum ≡ true
  chosen_lin = all_get is_fact facts c.fact (Zero c.sum) fit.1 (choice_is facts c h).0

  pub chosen_passes : each_unknown test c.sum ≡ true
  chosen_passes = all_get (λ f. each_unknown test (sum_of f)) facts c.fact (Zero c.sum) fit.0 (choice_is facts c h).0

  pub chosen_coefficient : is_zero (coef c.p c.sum) ≡ false
  chosen_coefficient = not_zero (coef c.p c.sum) (coef-occurring c.p c.sum chosen_lin (choice_is facts c h).1)

  pub solved_fit : (other : ℕ → Bool) → ((y : ℕ) → test y ≡ true → (y == c.p) ≡ false → other y ≡ true) → Fit other (solve_child c facts).facts
  solved_fit other more = (
    over-with_value test other c.p more (solved c.p c.sum).b (solved c.p c.sum).rest (passes-solved test other c.p more c.sum chosen_passes) facts fit.0,
    is_fact-solved_facts c.p facts c.sum chosen_coefficient chosen_lin fit.1,
  )

solve_facts_are : (facts : List Fact) (n p : ℕ) (s : Lin) → slice_get facts n ≡ Some (Zero s) → is_zero (coef p s) ≡ false → is_narrow (solve_steps p facts s) ≡ true → solve_facts facts n p ≡ Some (solved_facts p facts s)
solve_facts_are facts n p s at_ nz narrow =
    ap (λ o. option_then (option_then o (zero_with p)) (λ t. if_narrow (solve_steps p facts t) (solved_facts p facts t))) at_
    ∙ rw (nz, narrow) refl

module _ (params : ℕ) (clauses : List (List Fact)) where
  more_used : (used : List ℕ) (p y : ℕ) → is_free params used y ≡ true → (y == p) ≡ false → is_free params (p ∷ used) y ≡ true
  more_used used p y h apart =
      let both = and_parts (nat_lt y params) (not (is_one_of used y)) h in
      let other : (p == y) ≡ false = ne_eqb p y (λ e. eqb-false y p apart (sym e)) in
      and_from _ _ both.0 (rw other both.1)

  the_one_stands : (used : List ℕ) (ts : List Tree) (facts : List Fact) → each_stands used (map (stand params clauses) ts) (facts ∷ []) ≡ true → stand params clauses (the_one ts) used facts ≡ true
  the_one_stands used [] facts h = absurd (false≢true h)
  the_one_stands used (t ∷ ts) facts h = (and_parts (stand params clauses t used facts) (each_stands used (map (stand params clauses) ts) []) h).0

  clash_stands : (used : List ℕ) (facts : List Fact) (n : ℕ) → position is_false facts ≡ Some n → stand params clauses (roll-Tree (Clash n)) used facts ≡ true
  clash_stands used facts n h =
      let f = closing_fact facts n h in
      stands-clash params clauses used facts n ∙ ap (λ o. some_and o is_false) f.1 ∙ f.2

  -- a visit of fitting facts that closes gives a tree that stands
  abbrev ClosesFit : (List Fact → Visit Tree) → Type 0
  ClosesFit visit = (used : List ℕ) (facts : List Fact) → Fit (is_free params used) facts → ClosesAt params clauses visit used facts

  module _ (visit : List Fact → Visit Tree) (closes : ClosesFit visit) (used : List ℕ) (facts : List Fact) (fit : Fit (is_free params used) facts) where
    abbrev Stands : Tree → Type 0
    Stands t = stand params clauses t used facts ≡ true

    solve_closes : (c : Choice) → choice_from 0 facts ≡ Some c → (t : Tree) → InRange (visit_each visit (solve_child c facts ∷ [])).formed
        → (node_of (λ ts. roll-Tree (Solve c.fact c.p (the_one ts))) [] (visit_each visit (solve_child c facts ∷ []))).found ≡ closed t → Stands t
    solve_closes c h t range e =
        let below : Visit (List Tree) = visit_each visit (solve_child c facts ∷ []) in
        let o = node_closed (λ ts. roll-Tree (Solve c.fact c.p (the_one ts))) [] below t e in
        let child = closes (c.p ∷ used) (solve_child c facts).facts (solved_fit (is_free params used) facts fit c h (is_free params (c.p ∷ used)) (more_used used c.p)) in
        let all = each_closed params clauses visit (c.p ∷ used) (solve_child c facts ∷ []) o.0 (child, tt) range o.1 in
        let steps = range_parts (solve_child c facts).formed [] all.1 in
        let made = solve_facts_are facts c.fact c.p c.sum (choice_is facts c h).0 (chosen_coefficient (is_free params used) facts fit c h) (narrow_from (solve_steps c.p facts c.sum) steps.0) in
        subst Stands o.2
        (stands-solve params clauses used facts c.fact c.p (the_one o.0)
        ∙ ap (λ s. some_and s (stand params clauses (the_one o.0) (c.p ∷ used))) made
        ∙ the_one_stands (c.p ∷ used) o.0 (solved_facts c.p facts c.sum) all.0)

    least_closes : (p : ℕ) (ps : List ℕ) → unknowns facts ≡ p ∷ ps → (t : Tree) → InRange (results (period_steps p facts) ++ (visit_each visit (least_children_of p facts (lower_bounds p facts))).formed)
        → (node_of (λ ts. roll-Tree (Least p ts)) (results (period_steps p facts)) (visit_each visit (least_children_of p facts (lower_bounds p facts)))).found ≡ closed t → Stands t
    least_closes p ps is t range e =
        let free : ℕ → Bool = is_free params used in
        let children : List Child = least_children_of p facts (lower_bounds p facts) in
        let below : Visit (List Tree) = visit_each visit children in
        let o = node_closed (λ ts. roll-Tree (Least p ts)) (results (period_steps p facts)) below t e in
        let parts = range_parts (results (period_steps p facts)) below.formed range in
        let fits = least_fit free (is_free params (p ∷ used)) p (more_used used p) facts fit in
        let all = each_closed params clauses visit (p ∷ used) children o.0 (each_closes p children fits) parts.1 o.1 in
        let narrow = children_narrow p facts (is_free params (p ∷ used)) (lower_bounds p facts) (lower_bounds_good free (is_free params (p ∷ used)) p (more_used used p) facts fit) all.1 in
        subst Stands o.2
        (stands-least params clauses used facts p o.0
        ∙ and_from _ _ (first_unknown free facts p ps is fit.0)
        (and_from _ _ (narrow_both (period_steps p facts) (steps_by p facts (lower_bounds p facts)) (narrow_from (period_steps p facts) parts.0) narrow)
        (subst (λ ss. each_stands (p ∷ used) (map (stand params clauses) o.0) ss ≡ true) (children_facts p facts (lower_bounds p facts)) all.0)))
      where
        each_closes : (p : ℕ) (cs : List Child) → AllByRecursion (λ c. Fit (is_free params (p ∷ used)) c.facts) cs → AllByRecursion (λ c. ClosesAt params clauses visit (p ∷ used) c.facts) cs
        each_closes p [] all = tt
        each_closes p (c ∷ cs) all = (closes (p ∷ used) c.facts all.0, each_closes p cs all.1)

  pub eliminate_closes : (k : ℕ) → ClosesFit (eliminate k)
  eliminate_closes zero used facts fit t range e = elim (option_cases (position is_false facts)) [
    | inl none ↦ absurd (not_both t (λ x. pos 0) (rw none at e))
    | inr some ↦ let same : roll-Tree (Clash some.0) ≡ t = same_closed (roll-Tree (Clash some.0)) t (rw some.1 at e) in subst (λ u. stand params clauses u used facts ≡ true) same (clash_stands used facts some.0 some.1)
  ]
  eliminate_closes (suc k) used facts fit t range e = elim (option_cases (position is_false facts)) [
    | inr some ↦ let same : roll-Tree (Clash some.0) ≡ t = same_closed (roll-Tree (Clash some.0)) t (rw (some.1, eliminate) at e) in subst (λ u. stand params clauses u used facts ≡ true) same (clash_stands used facts some.0 some.1)
    | inl none ↦ elim (option_cases (choice_from 0 facts)) [
      | inr c ↦ solve_closes (eliminate k) (eliminate_closes k) used facts fit c.0 c.1 t (rw (none, eliminate, c.1) at range) (rw (none, eliminate, c.1) at e)
      | inl plain ↦ elim (list_cases (unknowns facts)) [
        | inl nil ↦ absurd (not_both t (λ x. pos 0) (rw (none, eliminate, plain, nil) at e))
        | inr cons ↦ least_closes (eliminate k) (eliminate_closes k) used facts fit cons.0 cons.1 cons.2 t (rw (none, eliminate, plain, cons.2) at range) (rw (none, eliminate, plain, cons.2) at e)
      ]
    ]
  ]

  -- ---- the clauses
  -- a ground clause stands by its number among those of the extended pool, over parameters
  abbrev pub IsListed : Numbered → Type 0
  IsListed c = (slice_get clauses c.0 ≡ Some c.1) × Fit (is_free params []) c.1

  same_facts : (states : List (List Fact)) → facts_of (map as_it_is states) ≡ states
  same_facts [] = refl
  same_facts (s ∷ ss) = ap (λ us. s ∷ us) (same_facts ss)

  cases_close : (visit : List Fact → Visit Tree) → ((facts : List Fact) → Fit (is_free params []) facts → ClosesAt params clauses visit [] facts) → (facts : List Fact) → Fit (is_free params []) facts
      → (clause : List Fact) → Fit (is_free params []) clause → AllByRecursion (λ c. ClosesAt params clauses visit [] c.facts) (map as_it_is (with_each facts clause))
  cases_close visit closes facts fit [] all = tt
  cases_close visit closes facts fit (f ∷ fs) all =
      let over = and_parts (each_unknown (is_free params []) (sum_of f)) (list_all (λ f. each_unknown (is_free params []) (sum_of f)) fs) all.0 in
      let is = and_parts (is_fact f) (list_all is_fact fs) all.1 in
      (closes (facts ++ f ∷ []) (over-append (is_free params []) facts (f ∷ []) fit.0 (and_from _ _ over.0 refl), all-append facts (f ∷ []) fit.1 (and_from _ _ is.0 refl)), cases_close visit closes facts fit fs (over.1, is.1))

  pub searched_closes : (cs : List Numbered) → AllByRecursion IsListed cs → (facts : List Fact) → Fit (is_free params []) facts → ClosesAt params clauses (searched cs) [] facts
  searched_closes [] all facts fit t range e = eliminate_closes (length (unknowns facts)) [] facts fit t range e
  searched_closes (c ∷ rest) all facts fit t range e = elim (option_cases (position is_false facts)) [
    | inr some ↦ let same : roll-Tree (Clash some.0) ≡ t = same_closed (roll-Tree (Clash some.0)) t (rw (some.1, searched) at e) in subst (λ u. stand params clauses u [] facts ≡ true) same (clash_stands [] facts some.0 some.1)
    | inl none ↦
        let children : List Child = map as_it_is (with_each facts c.1) in
        let below : Visit (List Tree) = visit_each (searched rest) children in
        let o = node_closed (λ ts. roll-Tree (Case c.0 ts)) [] below t (rw (none, searched) at e) in
        let every = cases_close (searched rest) (searched_closes rest all.1) facts fit c.1 all.0.1 in
        let each_ = each_closed params clauses (searched rest) [] children o.0 every (rw (none, searched) at range) o.1 in
        subst (λ u. stand params clauses u [] facts ≡ true) o.2
        (stands-case params clauses [] facts c.0 o.0
        ∙ ap (λ s. some_and s (λ clause. is_open_case params [] clause && each_stands [] (map (stand params clauses) o.0) (with_each facts clause))) all.0.0
        ∙ and_from _ _ all.0.1.0 (subst (λ ss. each_stands [] (map (stand params clauses) o.0) ss ≡ true) (same_facts (with_each facts c.1)) each_.0))
  ]
