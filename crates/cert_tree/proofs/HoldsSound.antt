-- The check of values and the truth of the pool agree.
use Rattle.std.specs.Prelude.{◌≡◌, ℕ, zero, suc, ◌+◌, ◌<◌, ◌≤◌, ◌||◌, cond, ℤ, pos, ◌<ℤ◌, Bool, true, false, ◌==◌, nat_lt, nat_le, IsTrue, length, slice_index_or, List, [], ◌∷◌, map, ◌↔◌}
use Rattle.std.specs.List.{list_all, list_any, filter, AllByRecursion}
use Rattle.std.proofs.Common.{refl, sym, ◌∙◌, ap, subst, arith, inl, inr}
use Rattle.std.proofs.lemmas.Int.{ints}
use Rattle.std.proofs.lemmas.Bool.{and_parts, and_from, cond_both, cases_Bool, or_cases, both_ways, false≢true, eqb-true, eqb-false, eq-eqb, ltb-true, ltb-false, le-leb}
use Rattle.lin_base.specs.declared.facts.Fact.{Fact}
use Rattle.lin_base.specs.declared.facts.Pool.{Pool}
use Rattle.lin_base.specs.Sum.{Terms, Valuation, assigned, number, occurs}
use Rattle.lin_base.specs.Unknowns.{put_in, put_terms_in}
use Rattle.lin_base.specs.Fact.{clause_holds, sum_of, ClauseHoldsAt, HoldsAt}
use Rattle.lin_base.specs.Change.{replace}
use Rattle.lin_base.specs.Steps.{is_narrow}
use Rattle.lin_base.proofs.Ring.{one_mul}
use Rattle.lin_base.proofs.Values.{value-number}
use Rattle.lin_base.proofs.Truth.{same_holds}
use Rattle.cert_tree.specs.Counting.{is_one_of, occurs_in}
use Rattle.cert_tree.specs.Ground.{Numbered, variables, unknowns}
use Rattle.cert_tree.specs.Holds.{put_from, grounded_at, check_steps, clause_checks, Holds}
use Rattle.cert_tree.specs.Laws.{valuation}
use Rattle.cert_tree.proofs.Least.{EachProper}
use Rattle.cert_tree.proofs.RowsSound.{any_replace_at, proper_map}
use Rattle.cert_tree.proofs.GroundTruth.{AllTrue, AgreeOff, same_clause, ground_truth}

-- ---- the values, put over others
abbrev put_over : ℕ → List ℤ → Valuation → Valuation
put_over p [] w = w
put_over p (z ∷ values) w = assigned p z (put_over (suc p) values w)

one_positive : pos 0 <ℤ pos 1
one_positive = omega (arith, ints)

put_truth : (p : ℕ) (values : List ℤ) (clause : List Fact) (w : Valuation) → clause_holds w (put_from p values clause) ≡ clause_holds (put_over p values w) clause
put_truth p [] clause w = refl
put_truth p (z ∷ values) clause w =
    put_truth (suc p) values (map (replace p (pos 1) (number z)) clause) w
    ∙ any_replace_at (put_over (suc p) values w) p (pos 1) (number z) z one_positive (value-number (put_over (suc p) values w) z ∙ sym (one_mul z)) clause

put_proper : (p : ℕ) (values : List ℤ) (clause : List Fact) → EachProper clause → EachProper (put_from p values clause)
put_proper p [] clause all = all
put_proper p (z ∷ values) clause all = put_proper (suc p) values (map (replace p (pos 1) (number z)) clause) (proper_map p (pos 1) (number z) one_positive clause all)

-- over values that have them anyway they change nothing
put_same : (p : ℕ) (values : List ℤ) (v : Valuation) → ((i : ℕ) → i < length values → v (p + i) ≡ slice_index_or values i (pos 0)) → (y : ℕ) → put_over p values v y ≡ v y
put_same p [] v h y = refl
put_same p (z ∷ values) v h y =
    cond_both (y == p) z (put_over (suc p) values v y) (λ u. u ≡ v y)
    (λ e. let at_ : p + 0 ≡ y = omega (arith, eqb-true y p e) in sym (h 0 (omega arith)) ∙ ap v at_)
    (λ _. put_same (suc p) values v (λ i less. let at_ : suc p + i ≡ p + suc i = omega arith in ap v at_ ∙ h (suc i) (omega (arith, less))) y)

-- they hide what others have below
put_hides : (p : ℕ) (values : List ℤ) (v w : Valuation) (y : ℕ) → (p + length values ≤ y → v y ≡ w y) → (y < p → v y ≡ w y) → put_over p values v y ≡ put_over p values w y
put_hides p [] v w y above below = elim (cases_Bool (nat_lt y p)) [
  | inl less ↦ below (ltb-true y p less)
  | inr more ↦ above (omega (arith, ltb-false y p more))
]
put_hides p (z ∷ values) v w y above below =
    elim (cases_Bool (y == p)) [
      | inl e ↦ rw e refl
      | inr n ↦ rw n (put_hides (suc p) values v w y (λ h. above (omega (arith, h))) (λ h. below (omega (arith, h, eqb-false y p n))))
    ]

-- they have their own values
put_at : (p : ℕ) (values : List ℤ) (w : Valuation) (i : ℕ) → i < length values → put_over p values w (p + i) ≡ slice_index_or values i (pos 0)
put_at p [] w i h = absurd (omega (arith, h))
put_at p (z ∷ values) w zero h = cond_both (p + 0 == p) z (put_over (suc p) values w (p + 0)) (λ u. u ≡ z) (λ _. refl) (λ n. absurd (eqb-false (p + 0) p n (omega arith)))
put_at p (z ∷ values) w (suc i) h =
    cond_both (p + suc i == p) z (put_over (suc p) values w (p + suc i)) (λ u. u ≡ slice_index_or values i (pos 0))
    (λ e. absurd (omega (arith, eqb-true (p + suc i) p e)))
    (λ _. let at_ : p + suc i ≡ suc p + i = omega arith in ap (put_over (suc p) values w) at_ ∙ put_at (suc p) values w i (omega (arith, h)))

-- ---- each unknown of a clause is one of its unknowns
or_left : (a b : Bool) → a ≡ true → (a || b) ≡ true
or_left true b h = refl
or_left false b h = absurd (false≢true h)

or_right : (a b : Bool) → b ≡ true → (a || b) ≡ true
or_right true b h = refl
or_right false b h = h

in_put : (x y : ℕ) (ys : List ℕ) → is_one_of ys y ≡ true → is_one_of (put_in x ys) y ≡ true
in_put x y [] h = absurd (false≢true h)
in_put x y (z ∷ zs) h =
    let P : List ℕ → Type 0 = λ gs. is_one_of gs y ≡ true in
    cond_both (nat_lt x z) (x ∷ z ∷ zs) (cond (x == z) (z ∷ zs) (z ∷ put_in x zs)) P (λ _. or_right (x == y) (is_one_of (z ∷ zs) y) h)
    (λ _. cond_both (x == z) (z ∷ zs) (z ∷ put_in x zs) P (λ _. h)
    (λ _. elim (or_cases (z == y) (is_one_of zs y) h) [ inl e ↦ or_left (z == y) (is_one_of (put_in x zs) y) e | inr m ↦ or_right (z == y) (is_one_of (put_in x zs) y) (in_put x y zs m) ]))

put_in_has : (x : ℕ) (ys : List ℕ) → is_one_of (put_in x ys) x ≡ true
put_in_has x [] = or_left (x == x) false (eq-eqb x x refl)
put_in_has x (y ∷ ys) =
    let P : List ℕ → Type 0 = λ gs. is_one_of gs x ≡ true in
    cond_both (nat_lt x y) (x ∷ y ∷ ys) (cond (x == y) (y ∷ ys) (y ∷ put_in x ys)) P (λ _. or_left (x == x) (is_one_of (y ∷ ys) x) (eq-eqb x x refl))
    (λ _. cond_both (x == y) (y ∷ ys) (y ∷ put_in x ys) P (λ e. or_left (y == x) (is_one_of ys x) (eq-eqb y x (sym (eqb-true x y e))))
    (λ _. or_right (y == x) (is_one_of (put_in x ys) x) (put_in_has x ys)))

terms_in : (y : ℕ) (ts : Terms) (xs : List ℕ) → (list_any (λ e. e.0 == y) ts || is_one_of xs y) ≡ true → is_one_of (put_terms_in ts xs) y ≡ true
terms_in y [] xs h = h
terms_in y ((x, k) ∷ ts) xs h = elim (cases_Bool (x == y)) [
  | inl e ↦ subst (λ z. is_one_of (put_in x (put_terms_in ts xs)) z ≡ true) (eqb-true x y e) (put_in_has x (put_terms_in ts xs))
  | inr n ↦ in_put x y (put_terms_in ts xs) (terms_in y ts xs (rw n at h))
]

unknown_in : (y : ℕ) (facts : List Fact) → occurs_in y facts ≡ true → is_one_of (unknowns facts) y ≡ true
unknown_in y [] h = absurd (false≢true h)
unknown_in y (f ∷ fs) h = terms_in y (sum_of f).coefs (unknowns fs) (elim (or_cases (occurs y (sum_of f)) (occurs_in y fs) h) [
  | inl here ↦ or_left _ _ here
  | inr more ↦ or_right _ _ (unknown_in y fs more)
])

filtered_in : (test : ℕ → Bool) (y : ℕ) (xs : List ℕ) → test y ≡ true → is_one_of xs y ≡ true → is_one_of (filter test xs) y ≡ true
filtered_in test y [] t h = h
filtered_in test y (x ∷ xs) t h =
    cond_both (test x) (x ∷ filter test xs) (filter test xs) (λ gs. is_one_of gs y ≡ true)
    (λ _. elim (or_cases (x == y) (is_one_of xs y) h) [ inl e ↦ or_left _ _ e | inr m ↦ or_right _ _ (filtered_in test y xs t m) ])
    (λ n. elim (or_cases (x == y) (is_one_of xs y) h) [ inl e ↦ absurd (both_ways (test x) n (ap test (eqb-true x y e) ∙ t)) | inr m ↦ filtered_in test y xs t m ])

-- a clause's truth depends on the unknowns that occur
all_occur : (test : ℕ → Bool) (ts : Terms) → ((y : ℕ) → list_any (λ e. e.0 == y) ts ≡ true → test y ≡ true) → list_all (λ e. test e.0) ts ≡ true
all_occur test [] h = refl
all_occur test ((x, k) ∷ ts) h = and_from _ _ (h x (or_left (x == x) _ (eq-eqb x x refl))) (all_occur test ts (λ y o. h y (or_right (x == y) _ o)))

same_occurs : (v w : Valuation) (fs : List Fact) → ((y : ℕ) → occurs_in y fs ≡ true → v y ≡ w y) → clause_holds v fs ≡ clause_holds w fs
same_occurs v w [] h = refl
same_occurs v w (f ∷ fs) h =
    let here = same_holds (λ y. occurs y (sum_of f)) v w (λ y o. h y (or_left _ _ o)) f (all_occur (λ y. occurs y (sum_of f)) (sum_of f).coefs (λ y o. o)) in
    rw (here, same_occurs v w fs (λ y o. h y (or_right (occurs y (sum_of f)) _ o))) refl

module _ (params : ℕ) (values : List ℤ) (clause : List Fact) (proper : EachProper clause) (is_length : length values ≡ params) where
  abbrev put : List Fact
  put = put_from 0 values clause

  abbrev vars : List ℕ
  vars = variables params put

  abbrev nought : Valuation
  nought x = pos 0

  -- w without its values for the parameters, and with its values for the variables alone
  abbrev above_params : Valuation → Valuation
  above_params w y = cond (nat_lt y params) (pos 0) (w y)

  abbrev on_vars : Valuation → Valuation
  on_vars w y = cond (is_one_of vars y) (above_params w y) (pos 0)

  on_vars_off : (w : Valuation) → AgreeOff vars nought (on_vars w)
  on_vars_off w y h = rw h refl

  first : (w : Valuation) → clause_holds w put ≡ clause_holds (above_params w) put
  first w =
      put_truth 0 values clause w
      ∙ same_clause (put_over 0 values (above_params w)) (put_over 0 values w)
      (λ y. put_hides 0 values w (above_params w) y
      (λ h. cond_both (nat_lt y params) (pos 0) (w y) (λ u. w y ≡ u) (λ e. absurd (omega (arith, h, is_length, ltb-true y params e))) (λ _. refl))
      (λ h. absurd (omega (arith, h)))) clause
      ∙ sym (put_truth 0 values clause (above_params w))

  second : (w : Valuation) → clause_holds (above_params w) put ≡ clause_holds (on_vars w) put
  second w = same_occurs (above_params w) (on_vars w) put (λ y o.
      cond_both (is_one_of vars y) (above_params w y) (pos 0) (λ u. above_params w y ≡ u) (λ _. refl)
      (λ n. cond_both (nat_lt y params) (pos 0) (w y) (λ u. u ≡ pos 0) (λ _. refl)
      (λ ge. absurd (both_ways _ n (filtered_in (λ x. nat_le params x) y (unknowns put) (le-leb params y (ltb-false y params ge)) (unknown_in y put o))))))

  ground_all : AllTrue nought (grounded_at params values clause).clauses ↔ ((w : Valuation) → IsTrue (clause_holds w put))
  ground_all =
      let g = ground_truth vars 0 (0, put) nought (put_proper 0 values clause proper) in
      ((λ h w. first w ∙ second w ∙ g.0 h (on_vars w) (on_vars_off w)), (λ h. g.1 (λ w _. h w)))

  clause_truth : AllTrue nought (grounded_at params values clause).clauses ↔ ClauseHoldsAt params (valuation values) clause
  clause_truth = (
    (λ h v agree. same_clause (put_over 0 values v) v (λ y. sym (put_same 0 values v (λ i less. let at_ : 0 + i ≡ i = omega arith in ap v at_ ∙ agree i (omega (arith, less, is_length))) y)) clause ∙ sym (put_truth 0 values clause v) ∙ ground_all.0 h v),
    (λ ok. ground_all.1 (λ w. put_truth 0 values clause w ∙ ok (put_over 0 values w) (λ y below. let at_ : y ≡ 0 + y = omega arith in ap (put_over 0 values w) at_ ∙ put_at 0 values w y (omega (arith, below, is_length))))),
  )

all_from_list : (v : Valuation) (cs : List Numbered) → list_all (λ c. clause_holds v c.1) cs ≡ true → AllTrue v cs
all_from_list v [] h = tt
all_from_list v (c ∷ cs) h = let both = and_parts _ _ h in (both.0, all_from_list v cs both.1)

all_to_list : (v : Valuation) (cs : List Numbered) → AllTrue v cs → list_all (λ c. clause_holds v c.1) cs ≡ true
all_to_list v [] h = refl
all_to_list v (c ∷ cs) h = and_from _ _ h.0 (all_to_list v cs h.1)

each_true : (params : ℕ) (values : List ℤ) (clauses : List (List Fact)) → AllByRecursion EachProper clauses → length values ≡ params → list_all (clause_checks params values) clauses ≡ true → AllByRecursion (ClauseHoldsAt params (valuation values)) clauses
each_true params values [] proper e h = tt
each_true params values (c ∷ cs) proper e h =
    let both = and_parts _ _ h in
    let here = and_parts (is_narrow (check_steps params values c)) _ both.0 in
    ((clause_truth params values c proper.0 e).0 (all_from_list (λ x. pos 0) (grounded_at params values c).clauses here.1), each_true params values cs proper.1 e both.1)

each_checks : (params : ℕ) (values : List ℤ) (clauses : List (List Fact)) → AllByRecursion EachProper clauses → length values ≡ params → AllByRecursion (λ c. is_narrow (check_steps params values c) ≡ true) clauses → AllByRecursion (ClauseHoldsAt params (valuation values)) clauses → list_all (clause_checks params values) clauses ≡ true
each_checks params values [] proper e narrow ok = refl
each_checks params values (c ∷ cs) proper e narrow ok =
    and_from _ _ (and_from _ _ narrow.0 (all_to_list (λ x. pos 0) (grounded_at params values c).clauses ((clause_truth params values c proper.0 e).1 ok.0))) (each_checks params values cs proper.1 e narrow.1 ok.1)

-- **A pool is true at values that hold.**
pub holds_true : (pool : Pool) (values : List ℤ) → AllByRecursion EachProper pool.clauses → Holds pool values → HoldsAt pool (valuation values)
holds_true pool values proper h =
    let both = and_parts _ _ h in
    each_true pool.params values pool.clauses proper (eqb-true (length values) pool.params both.0) both.1

-- **And the other way, where no number of the check leaves the range.**
pub true_holds : (pool : Pool) (values : List ℤ) → AllByRecursion EachProper pool.clauses → length values ≡ pool.params → AllByRecursion (λ c. is_narrow (check_steps pool.params values c) ≡ true) pool.clauses → HoldsAt pool (valuation values) → Holds pool values
true_holds pool values proper e narrow ok =
    and_from _ _ (eq-eqb (length values) pool.params e) (each_checks pool.params values pool.clauses proper e narrow ok)
