-- The rows of Complete, literal by literal.
use Rattle.std.specs.Prelude.{◌≡◌, ℕ, ◌<◌, ◌≤◌, ◌+◌, ◌-◌, ℤ, pos, negsuc, ◌≤ℤ◌, ◌*ℤ◌, true, false, unsigned_abs, option_map, length, map, List, [], ◌∷◌, ◌++◌, Option, Some, None, Result, Ok, Err, IfOk, IsTrue}
use Rattle.std.specs.List.{list_all, list_any, flat_map, filter_map, cons_option}
use Rattle.std.proofs.Common.{refl, sym, ◌∙◌, ap, subst, arith, append_assoc}
use Rattle.std.proofs.lemmas.Int.{ints}
use Rattle.std.proofs.lemmas.List.{length-map, map-append}
use Rattle.lin_base.specs.declared.facts.Fact.{Fact}
use Rattle.lin_base.specs.declared.wides.Wide.{Wide}
use Rattle.lin_base.specs.declared.wides.ArithmeticError.{ArithmeticError}
use Rattle.lin_base.specs.Fact.{is_fact}
use Rattle.lin_base.specs.Numbers.{results}
use Rattle.lin_base.specs.Steps.{IsErrorAt, first_wide}
use Rattle.lin_base.specs.Sum.{above}
use Rattle.lin_base.proofs.Forming.{first_wide-append_none, IsErrorAt-append_some, IsErrorAt-append_none}
use Rattle.cert_tree.specs.declared.certs.Row.{Row}
use Rattle.cert_tree.specs.declared.sums.Side.{Side as Parts}
use Rattle.cert_tree.specs.declared.test_points.Bound.{Bound}
use Rattle.cert_tree.specs.Above.{above_bound}
use Rattle.cert_tree.specs.Complete.{upper, upper_steps, instances, lows, complete_rows, complete_steps, above_bound_steps, moved_steps, instances_steps, literal_steps, numbered_low_steps, lows_steps}
use Rattle.cert_tree.specs.Counting.{count_from, numbers_below}
use Rattle.cert_tree.specs.Points.{Side, period, period_steps}
use Rattle.cert_tree.specs.Rows.{bounds_above, row_clause}
use Rattle.cert_tree.specs.Sides.{side_of}
use Rattle.cert_tree.proofs.Bounding.{length-count_from}
use Rattle.cert_tree.proofs.Completion.{count_at, below_abs, complete_on, is_fact-complete}
use Rattle.cooper_rows.specs.declared.completing.Completed.{Completed}
use Rattle.cooper_rows.specs.declared.completing.Step.{Step}
use Rattle.cooper_rows.specs.declared.counting.BudgetError.{BudgetError}
use Rattle.cooper_rows.specs.Counted.{of_arithmetic, IsAfter, IsCause, Counted}
use Rattle.cooper_rows.specs.Rows.{completed, step_of, moved_row, bound_rows, literal_rows, uppers_rows, low_rows, lows_rows, rows_by, rows_steps}
use Rattle.cooper_rows.proofs.Budgets.{after_forms, after_start, after_taken, cause_forms, cause_taken, counted_as, counted_then, results-append}

-- ---- rows with their clauses
pub completed_is : (made : Completed) (clause : List Fact) (rows : List Row) → made.rows ≡ rows → made.clauses ≡ map (row_clause clause) made.rows → made ≡ completed clause rows
completed_is made clause rows are given =
    ap (λ cs. let m : Completed = record { rows = made.rows; clauses = cs } in m) given ∙ ap (completed clause) are

-- one list after the other
pub clauses-append : (clause : List Fact) (rows more : List Row) (cs ds : List (List Fact)) → cs ≡ map (row_clause clause) rows → ds ≡ map (row_clause clause) more → cs ++ ds ≡ map (row_clause clause) (rows ++ more)
clauses-append clause rows more cs ds first second = ap (λ es. es ++ ds) first ∙ ap (λ es. map (row_clause clause) rows ++ es) second ∙ sym (map-append (row_clause clause) rows more)

-- ---- as many as the numbers below
pub length-below : (z : ℤ) → pos 1 ≤ℤ z → length (numbers_below z) ≡ unsigned_abs z
length-below (pos n) h = length-count_from 0 n
length-below (negsuc n) h = absurd (omega (arith, ints, h))

pub bound_count : (n x : ℕ) (d : ℤ) (e : Parts) → pos 1 ≤ℤ (e.b *ℤ d) → length (bound_rows n x d e) ≡ unsigned_abs (e.b *ℤ d)
bound_count n x d e h = length-map (numbers_below (e.b *ℤ d)) _ ∙ length-below (e.b *ℤ d) h

pub lows_count : (n x : ℕ) (d : ℤ) (clause : List Fact) → list_any (bounds_above x) clause ≡ false → pos 1 ≤ℤ d → length (lows_rows n x d clause) ≡ unsigned_abs d
lows_count n x d clause none h = rw none (length-map (numbers_below d) _ ∙ length-below d h)

-- ---- the rows of Complete
of_bounds : (n x : ℕ) (d : ℤ) (o : Option Side) (es : List Side) → flat_map (instances n x d) (cons_option o es) ≡ literal_rows n x d o ++ flat_map (instances n x d) es
of_bounds n x d None es = refl
of_bounds n x d (Some e) es = refl

by_literal : (n x : ℕ) (d : ℤ) (fs : List Fact) → flat_map (instances n x d) (filter_map (upper x) fs) ≡ uppers_rows n x d fs
by_literal n x d [] = refl
by_literal n x d (f ∷ fs) = of_bounds n x d (upper x f) (filter_map (upper x) fs) ∙ ap (λ rs. literal_rows n x d (upper x f) ++ rs) (by_literal n x d fs)

pub complete_by : (n x : ℕ) (clause : List Fact) → complete_rows n x clause ≡ rows_by n x (period x clause) clause
complete_by n x clause = ap (λ rs. rs ++ lows n x clause) (by_literal n x (period x clause) clause)

-- the steps of the literal, then its rows
pub literal_counted : {A : Type 0} (n x : ℕ) (clause : List Fact) (d : ℤ) (o : Option Side) (side : Parts) (r : Result A BudgetError) (m0 m1 m2 : ℕ) (P : List Row → A → Type 0) → option_map side_of o ≡ Some side → IsAfter m1 m0 0 (results (upper_steps o))
    → Counted r m1 m2 (length (bound_rows n x d side)) (results (instances_steps x clause d side.b side.rest)) (P (bound_rows n x d side))
    → Counted r m0 m2 (length (literal_rows n x d o)) (results (literal_steps x clause d o)) (P (literal_rows n x d o))
literal_counted n x clause d None side r m0 m1 m2 P is a h = absurd (cc)
literal_counted n x clause d (Some e) side r m0 m1 m2 P is a h =
    let same : side ≡ side_of e = cc in
    let Q : Parts → Type 0 = λ s. Counted r m1 m2 (length (bound_rows n x d s)) (results (instances_steps x clause d s.b s.rest)) (P (bound_rows n x d s)) in
    let k = length (bound_rows n x d (side_of e)) in
    let count : k ≡ 0 + k = omega arith in
    counted_as r m0 m2 k (0 + k) (results (e.steps ++ instances_steps x clause d e.b e.rest)) (results e.steps ++ results (instances_steps x clause d e.b e.rest)) _ count (results-append e.steps (instances_steps x clause d e.b e.rest))
    (counted_then r m0 m1 m2 0 k (results e.steps) (results (instances_steps x clause d e.b e.rest)) _ a (subst Q same h))

-- the period, then the rows
pub complete_counted : (n x : ℕ) (clause : List Fact) (d : ℤ) (r : Result Completed BudgetError) (m0 m2 : ℕ) → d ≡ period x clause → IsAfter m0 m0 0 (results (period_steps x clause))
    → Counted r m0 m2 (length (rows_by n x d clause)) (results (rows_steps x d clause)) (λ v. v ≡ completed clause (rows_by n x d clause))
    → Counted r m0 m2 (length (complete_rows n x clause)) (results (complete_steps x clause)) (λ v. v ≡ completed clause (complete_rows n x clause))
complete_counted n x clause d r m0 m2 is a h =
    let D = period x clause in
    let Q : ℤ → Type 0 = λ z. Counted r m0 m2 (length (rows_by n x z clause)) (results (rows_steps x z clause)) (λ v. v ≡ completed clause (rows_by n x z clause)) in
    let R : List Row → Type 0 = λ rows. Counted r m0 m2 (length rows) (results (complete_steps x clause)) (λ v. v ≡ completed clause rows) in
    let k = length (rows_by n x D clause) in
    let count : k ≡ 0 + k = omega arith in
    subst R (sym (complete_by n x clause))
    (counted_as r m0 m2 k (0 + k) (results (complete_steps x clause)) (results (period_steps x clause) ++ results (rows_steps x D clause)) _ count (results-append (period_steps x clause) (rows_steps x D clause))
    (counted_then r m0 m0 m2 0 k (results (period_steps x clause)) (results (rows_steps x D clause)) _ a (subst Q is h)))

-- ---- one row after the other
pub append_nil : {A : Type 0} (xs : List A) → xs ++ [] ≡ xs
append_nil [] = refl
append_nil (x ∷ xs) = ap (λ ys. x ∷ ys) (append_nil xs)

pub count_none : (n j : ℕ) → n ≤ j → count_from j (n - j) ≡ []
count_none n j h = let none : n - j ≡ 0 = omega (arith, h) in ap (count_from j) none

pub rows_next : {A : Type 0} (f : ℕ → A) (n j : ℕ) (all made next : List A) (y : A) → j < n → all ≡ made ++ map f (count_from j (n - j)) → y ≡ f j → next ≡ made ++ y ∷ [] → all ≡ next ++ map f (count_from (j + 1) (n - (j + 1)))
rows_next f n j all made next y h was is grown =
    let rest = map f (count_from (j + 1) (n - (j + 1))) in
    was ∙ ap (λ js. made ++ map f js) (count_at n j h) ∙ sym (append_assoc made (f j ∷ []) rest) ∙ ap (λ z. made ++ z ∷ [] ++ rest) (sym is) ∙ ap (λ ms. ms ++ rest) (sym grown)

pub clauses_next : (clause : List Fact) (r : Row) (step : Step) (rows next : List Row) (cs ds : List (List Fact)) → cs ≡ map (row_clause clause) rows → step ≡ step_of clause r → next ≡ rows ++ step.row ∷ [] → ds ≡ cs ++ step.clause ∷ [] → ds ≡ map (row_clause clause) next
clauses_next clause r step rows next cs ds was is grown more =
    more
    ∙ ap (λ e. cs ++ e.clause ∷ []) is
    ∙ clauses-append clause rows (r ∷ []) cs (row_clause clause r ∷ []) was refl
    ∙ ap (map (row_clause clause)) (sym (grown ∙ ap (λ e. rows ++ e.row ∷ []) is))

pub rows_end : {A : Type 0} (f : ℕ → A) (n j : ℕ) (all made : List A) → n ≤ j → all ≡ made ++ map f (count_from j (n - j)) → made ≡ all
rows_end f n j all made h was = sym (was ∙ ap (λ js. made ++ map f js) (count_none n j h) ∙ append_nil made)

-- ---- the instances above a bound: the bound, then as many rows as are counted
module _ (n x : ℕ) (clause : List Fact) (d : ℤ) (e : Parts) where
  abbrev later : List Wide
  later = flat_map (moved_steps x clause e.b (above e.rest)) (numbers_below (e.b *ℤ d))

  pub bound_err : (f : ArithmeticError) (m : ℕ) → IsErrorAt f (first_wide (above_bound_steps d e.b e.rest)) → IsCause (of_arithmetic f) m (length (bound_rows n x d e)) (results (instances_steps x clause d e.b e.rest))
  bound_err f m h = cause_forms f m (length (bound_rows n x d e)) (instances_steps x clause d e.b e.rest) (IsErrorAt-append_some f (above_bound_steps d e.b e.rest) later h)

  pub take_err : (f : BudgetError) (m : ℕ) (b : Bound) → pos 1 ≤ℤ (e.b *ℤ d) → b ≡ above_bound d e → IsCause f m (unsigned_abs b.children) [] → IsCause f m (length (bound_rows n x d e)) (results (instances_steps x clause d e.b e.rest))
  take_err f m b up is h =
      let k : unsigned_abs b.children ≡ length (bound_rows n x d e) = ap (λ c. unsigned_abs c.children) is ∙ sym (bound_count n x d e up) in
      cause_taken f m m (length (bound_rows n x d e)) [] (results (instances_steps x clause d e.b e.rest)) (after_start m) (subst (λ l. IsCause f m l []) k h)

  pub made_err : (f : ArithmeticError) (m : ℕ) (b : Bound) (count : ℕ) → pos 1 ≤ℤ (e.b *ℤ d) → b ≡ above_bound d e → first_wide (above_bound_steps d e.b e.rest) ≡ None → count ≡ unsigned_abs b.children
      → IsErrorAt f (first_wide (flat_map (moved_steps x clause b.side.b b.side.rest) (count_from 0 count))) → IsCause (of_arithmetic f) m (length (bound_rows n x d e)) (results (instances_steps x clause d e.b e.rest))
  made_err f m b count up is narrow number h =
      let js : count_from 0 count ≡ numbers_below (e.b *ℤ d) = below_abs (e.b *ℤ d) count up (number ∙ ap (λ c. unsigned_abs c.children) is) in
      let S : Bound → Type 0 = λ c. IsErrorAt f (first_wide (flat_map (moved_steps x clause c.side.b c.side.rest) (count_from 0 count))) in
      let J : List ℕ → Type 0 = λ ks. IsErrorAt f (first_wide (flat_map (moved_steps x clause e.b (above e.rest)) ks)) in
      cause_forms f m (length (bound_rows n x d e)) (instances_steps x clause d e.b e.rest) (IsErrorAt-append_none f (above_bound_steps d e.b e.rest) later narrow (subst J js (subst S is h)))

  pub instances_ok : (m1 m0 : ℕ) (b : Bound) (count : ℕ) (made : Completed) → pos 1 ≤ℤ (e.b *ℤ d) → b ≡ above_bound d e → first_wide (above_bound_steps d e.b e.rest) ≡ None → IsAfter m1 m0 (unsigned_abs b.children) [] → count ≡ unsigned_abs b.children
      → first_wide (flat_map (moved_steps x clause b.side.b b.side.rest) (count_from 0 count)) ≡ None → made ≡ completed clause (map (moved_row n x b.side.b b.side.rest) (count_from 0 count))
      → IsAfter m1 m0 (length (bound_rows n x d e)) (results (instances_steps x clause d e.b e.rest)) × (made ≡ completed clause (bound_rows n x d e))
  instances_ok m1 m0 b count made up is narrow a number then_ given =
      let js : count_from 0 count ≡ numbers_below (e.b *ℤ d) = below_abs (e.b *ℤ d) count up (number ∙ ap (λ c. unsigned_abs c.children) is) in
      let k : unsigned_abs b.children ≡ length (bound_rows n x d e) = ap (λ c. unsigned_abs c.children) is ∙ sym (bound_count n x d e up) in
      let S : Bound → Type 0 = λ c. (first_wide (flat_map (moved_steps x clause c.side.b c.side.rest) (count_from 0 count)) ≡ None) × (made ≡ completed clause (map (moved_row n x c.side.b c.side.rest) (count_from 0 count))) in
      let J : List ℕ → Type 0 = λ ks. (first_wide (flat_map (moved_steps x clause e.b (above e.rest)) ks) ≡ None) × (made ≡ completed clause (map (moved_row n x e.b (above e.rest)) ks)) in
      let both = subst J js (subst S is (then_, given)) in
      let all : first_wide (instances_steps x clause d e.b e.rest) ≡ None = first_wide-append_none (above_bound_steps d e.b e.rest) later narrow ∙ both.0 in
      (after_taken m1 m0 m0 (length (bound_rows n x d e)) (results (instances_steps x clause d e.b e.rest)) (after_forms m0 (instances_steps x clause d e.b e.rest) all) (subst (λ l. IsAfter m1 m0 l []) k a), both.1)

-- ---- far down
module _ (n x : ℕ) (clause : List Fact) (d : ℤ) (none : list_any (bounds_above x) clause ≡ false) (up : pos 1 ≤ℤ d) where
  steps_are : lows_steps x clause d ≡ numbered_low_steps x clause (numbers_below d)
  steps_are = rw none refl

  rows_are : lows_rows n x d clause ≡ low_rows n x (numbers_below d)
  rows_are = rw none refl

  pub lows_take : (f : BudgetError) (m : ℕ) → IsCause f m (unsigned_abs d) [] → IsCause f m (length (lows_rows n x d clause)) (results (lows_steps x clause d))
  lows_take f m h = cause_taken f m m (length (lows_rows n x d clause)) [] (results (lows_steps x clause d)) (after_start m) (subst (λ l. IsCause f m l []) (sym (lows_count n x d clause none up)) h)

  pub lows_err : (f : ArithmeticError) (m count : ℕ) → count ≡ unsigned_abs d → IsErrorAt f (first_wide (numbered_low_steps x clause (count_from 0 count))) → IsCause (of_arithmetic f) m (length (lows_rows n x d clause)) (results (lows_steps x clause d))
  lows_err f m count number h =
      let J : List ℕ → Type 0 = λ ks. IsErrorAt f (first_wide (numbered_low_steps x clause ks)) in
      let S : List Wide → Type 0 = λ ss. IsErrorAt f (first_wide ss) in
      cause_forms f m (length (lows_rows n x d clause)) (lows_steps x clause d) (subst S (sym steps_are) (subst J (below_abs d count up number) h))

  pub lows_ok : (m1 m0 count : ℕ) (made : Completed) → IsAfter m1 m0 (unsigned_abs d) [] → count ≡ unsigned_abs d → first_wide (numbered_low_steps x clause (count_from 0 count)) ≡ None → made ≡ completed clause (low_rows n x (count_from 0 count))
      → IsAfter m1 m0 (length (lows_rows n x d clause)) (results (lows_steps x clause d)) × (made ≡ completed clause (lows_rows n x d clause))
  lows_ok m1 m0 count made a number then_ given =
      let J : List ℕ → Type 0 = λ ks. (first_wide (numbered_low_steps x clause ks) ≡ None) × (made ≡ completed clause (low_rows n x ks)) in
      let both = subst J (below_abs d count up number) (then_, given) in
      let all : first_wide (lows_steps x clause d) ≡ None = ap first_wide steps_are ∙ both.0 in
      (after_taken m1 m0 m0 (length (lows_rows n x d clause)) (results (lows_steps x clause d)) (after_forms m0 (lows_steps x clause d) all) (subst (λ l. IsAfter m1 m0 l []) (sym (lows_count n x d clause none up)) a), both.1 ∙ ap (completed clause) (sym rows_are))

-- a literal that bounds x above
pub lows_none : (n x : ℕ) (clause : List Fact) (d : ℤ) (m : ℕ) (made : Completed) → list_any (bounds_above x) clause ≡ true → made.rows ≡ [] → made.clauses ≡ []
    → IsAfter m m (length (lows_rows n x d clause)) (results (lows_steps x clause d)) × (made ≡ completed clause (lows_rows n x d clause))
lows_none n x clause d m made some rows clauses = rw some (after_start m, completed_is made clause [] rows (clauses ∙ sym (ap (map (row_clause clause)) rows)))

-- a literal that is no bound
pub literal_free : (n x : ℕ) (clause : List Fact) (d : ℤ) (o : Option Side) (m : ℕ) (made : Completed) → option_map side_of o ≡ None → made.rows ≡ [] → made.clauses ≡ []
    → IsAfter m m (length (literal_rows n x d o)) (results (literal_steps x clause d o)) × (made ≡ completed clause (literal_rows n x d o))
literal_free n x clause d None m made is rows clauses = (after_start m, completed_is made clause [] rows (clauses ∙ sym (ap (map (row_clause clause)) rows)))
literal_free n x clause d (Some e) m made is rows clauses = absurd (cc)

-- ---- well-formed clauses
pub complete_well : (n x : ℕ) (clause : List Fact) (r : Result Completed BudgetError) (m0 m1 k : ℕ) (zs : List ℤ) → list_all is_fact clause ≡ true → Counted r m0 m1 k zs (λ v. v ≡ completed clause (complete_rows n x clause)) → IfOk r (λ v. IsTrue (list_all (list_all is_fact) v.clauses))
complete_well n x clause (Err e) m0 m1 k zs all h = tt
complete_well n x clause (Ok v) m0 m1 k zs all h = subst (λ cs. IsTrue (list_all (list_all is_fact) cs)) (sym (ap (λ m. m.clauses) h.0.1 ∙ complete_on x clause n)) (is_fact-complete x clause all)
