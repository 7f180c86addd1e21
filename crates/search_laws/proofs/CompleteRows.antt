-- The rows of Complete stand on their clause where its steps stay in the range, and give clauses without the variable.
use Rattle.std.specs.Prelude.{◌≡◌, ℕ, ◌==◌, nat_lt, nat_le, ℤ, pos, ◌*ℤ◌, Bool, true, false, not, ◌&&◌, IsTrue, IfSome, option_map, List, [], ◌∷◌, ◌++◌, map, Option, Some, None}
use Rattle.std.specs.List.{list_all, list_any, filter_map, flat_map, cons_option, AllByRecursion}
use Rattle.std.proofs.Common.{refl, ap, inl, inr}
use Rattle.std.proofs.lemmas.Bool.{cases_Bool, and_parts, and_from}
use Rattle.lin_base.specs.declared.sums.Lin.{Lin}
use Rattle.lin_base.specs.declared.facts.Fact.{Fact}
use Rattle.lin_base.specs.declared.facts.Fact.TheVariants.{AtMostZero, Zero, Divides, NotDivides}
use Rattle.lin_base.specs.Whole.{is_zero, is_positive}
use Rattle.lin_base.specs.Sum.{coef, each_unknown, add_number, above}
use Rattle.lin_base.specs.Fact.{sum_of, is_fact, is_lin}
use Rattle.lin_base.specs.Steps.{is_narrow, add_number_steps, replace_all_steps}
use Rattle.lin_base.proofs.Ring.{le_in}
use Rattle.lin_base.proofs.WellFormed.{is_lin-above, is_lin-add_number}
use Rattle.cert_tree.specs.declared.certs.Row.{Row}
use Rattle.cert_tree.specs.declared.certs.Row.TheVariants.{Low}
use Rattle.cert_tree.specs.Counting.{occurs_in, numbers_below}
use Rattle.cert_tree.specs.Points.{Side, period, period_steps}
use Rattle.cert_tree.specs.Sides.{side_of}
use Rattle.cert_tree.specs.Bounds.{is_side}
use Rattle.cert_tree.specs.Rows.{may_stand_for, bounds_above, clause_of, row_clause, row_stands_on, low_steps}
use Rattle.cert_tree.specs.Complete.{upper, instance, instances, lows, complete_rows, complete_steps, moved_steps, above_bound_steps, instances_steps, literal_steps, uppers_steps, lows_steps, numbered_low_steps}
use Rattle.cert_tree.proofs.Pointing.{side_positive, side_lin}
use Rattle.cert_tree.proofs.Completion.{upper_is}
use Rattle.cert_tree.proofs.Rowing.{is_fact-instance_at, is_fact-low_at}
use Rattle.search_laws.proofs.Ranges.{narrow_parts}
use Rattle.search_laws.proofs.Occurring.{Over, passes-without, passes-made, passes-above, passes-add_number, over-instance_at, over-low_at}
use Rattle.search_laws.proofs.Choices.{or_right}
use Rattle.search_laws.proofs.LeastChildren.{Fit}
use Rattle.search_laws.proofs.Variables.{over_occurring}

-- ---- lists of rows
rows_append : (P : Row → Type 0) (xs ys : List Row) → AllByRecursion P xs → AllByRecursion P ys → AllByRecursion P (xs ++ ys)
rows_append P [] ys all more = more
rows_append P (x ∷ xs) ys all more = (all.0, rows_append P xs ys all.1 more)

-- the rest of a bound above passes
module _ (test other : ℕ → Bool) (x : ℕ) (more : (y : ℕ) → test y ≡ true → (y == x) ≡ false → other y ≡ true) where
  upper_passes : (f : Fact) → each_unknown test (sum_of f) ≡ true → IfSome (upper x f) (λ e. each_unknown other e.rest ≡ true)
  upper_passes (AtMostZero t) h = elim (cases_Bool (is_positive (coef x t))) [
    | inl up ↦ rw up (passes-without test other x more t h)
    | inr low ↦ rw low tt
  ]
  upper_passes (Zero t) h = elim (cases_Bool (is_zero (coef x t))) [
    | inl none ↦ rw none tt
    | inr some ↦ rw some (passes-made test other x more t h)
  ]
  upper_passes (Divides m t) h = tt
  upper_passes (NotDivides m t) h = tt

module _ (params n x : ℕ) (clause : List Fact) (test other : ℕ → Bool) (more : (y : ℕ) → test y ≡ true → (y == x) ≡ false → other y ≡ true) (fit : Fit test clause) (variable : nat_le params x ≡ true) (occurring : occurs_in x clause ≡ true) where
  -- the row is on the clause of number n, stands, and gives a clause that fits
  abbrev pub RowStands : Row → Type 0
  RowStands r = (clause_of r ≡ n) × (row_stands_on params clause r ≡ true) × Fit other (row_clause clause r)

  may : ℕ → Bool
  may = may_stand_for params x clause

  may_more : (y : ℕ) → occurs_in y clause ≡ true → (y == x) ≡ false → may_stand_for params x clause y ≡ true
  may_more y o apart = or_right (nat_lt y params) (not (y == x) && occurs_in y clause) (and_from _ _ (ap not apart) o)

  is_variable : (nat_le params x && occurs_in x clause) ≡ true
  is_variable = and_from _ _ variable occurring

  -- a bound above whose rest is over other variables of the clause
  abbrev IsAbove : Side → Type 0
  IsAbove e = (is_side x (side_of e) ≡ true) × (each_unknown (may_stand_for params x clause) e.rest ≡ true) × (each_unknown other e.rest ≡ true)

  instance_stands : (e : Side) → IsAbove e → (j : ℕ) → is_narrow (moved_steps x clause e.b (above e.rest) j) ≡ true → RowStands (instance n x e j)
  instance_stands e is j narrow =
      let t : Lin = add_number (above e.rest) (pos j) in
      let up = side_positive x (side_of e) is.0 in
      let lin : is_lin t ≡ true = is_lin-add_number (above e.rest) (pos j) (is_lin-above e.rest (side_lin x (side_of e) is.0)) in
      let passes = passes-add_number (may_stand_for params x clause) (above e.rest) (pos j) (passes-above (may_stand_for params x clause) e.rest is.1) in
      let new = passes-add_number other (above e.rest) (pos j) (passes-above other e.rest is.2) in
      let steps = narrow_parts (add_number_steps (above e.rest) (pos j)) (replace_all_steps x e.b t clause) narrow in
      let allowed = and_from _ _ (and_from _ _ (and_from _ _ is_variable (le_in (pos 1) e.b up)) lin) passes in
      (refl, and_from _ _ allowed steps.1, (over-instance_at test other x more e.b t new clause fit.0, is_fact-instance_at x e.b t clause up lin fit.1))

  instances_stand : (e : Side) → IsAbove e → (js : List ℕ) → is_narrow (flat_map (moved_steps x clause e.b (above e.rest)) js) ≡ true → AllByRecursion RowStands (map (instance n x e) js)
  instances_stand e is [] narrow = tt
  instances_stand e is (j ∷ js) narrow =
      let parts = narrow_parts (moved_steps x clause e.b (above e.rest) j) (flat_map (moved_steps x clause e.b (above e.rest)) js) narrow in
      (instance_stands e is j parts.0, instances_stand e is js parts.1)

  joined : (o : Option Side) → IfSome (option_map side_of o) (λ e. IsTrue (is_side x e)) → IfSome o (λ e. each_unknown (may_stand_for params x clause) e.rest ≡ true) → IfSome o (λ e. each_unknown other e.rest ≡ true) → IfSome o IsAbove
  joined None side passes new = tt
  joined (Some e) side passes new = (side, passes, new)

  literal_stands : (d : ℤ) (o : Option Side) (es : List Side) → IfSome o IsAbove → is_narrow (literal_steps x clause d o) ≡ true → AllByRecursion RowStands (flat_map (instances n x d) es) → AllByRecursion RowStands (flat_map (instances n x d) (cons_option o es))
  literal_stands d None es is narrow all = all
  literal_stands d (Some e) es is narrow all =
      let one = narrow_parts e.steps (instances_steps x clause d e.b e.rest) narrow in
      let two = narrow_parts (above_bound_steps d e.b e.rest) (flat_map (moved_steps x clause e.b (above e.rest)) (numbers_below (e.b *ℤ d))) one.1 in
      rows_append RowStands (instances n x d e) (flat_map (instances n x d) es) (instances_stand e is (numbers_below (e.b *ℤ d)) two.1) all

  uppers_stand : (d : ℤ) (fs : List Fact) → Over (λ y. occurs_in y clause) fs → Fit test fs → is_narrow (uppers_steps x clause d fs) ≡ true → AllByRecursion RowStands (flat_map (instances n x d) (filter_map (upper x) fs))
  uppers_stand d [] mine fits narrow = tt
  uppers_stand d (f ∷ fs) mine fits narrow =
      let steps = narrow_parts (literal_steps x clause d (upper x f)) (uppers_steps x clause d fs) narrow in
      let here = and_parts (each_unknown (λ y. occurs_in y clause) (sum_of f)) (list_all (λ f. each_unknown (λ y. occurs_in y clause) (sum_of f)) fs) mine in
      let over = and_parts (each_unknown test (sum_of f)) (list_all (λ f. each_unknown test (sum_of f)) fs) fits.0 in
      let is = and_parts (is_fact f) (list_all is_fact fs) fits.1 in
      literal_stands d (upper x f) (filter_map (upper x) fs)
      (joined (upper x f) (upper_is x f is.0) (upper_passes (λ y. occurs_in y clause) (may_stand_for params x clause) x may_more f here.0) (upper_passes test other x more f over.0))
      steps.0 (uppers_stand d fs here.1 (over.1, is.1) steps.1)

  lows_stand : list_any (bounds_above x) clause ≡ false → (js : List ℕ) → is_narrow (numbered_low_steps x clause js) ≡ true → AllByRecursion RowStands (map (λ j. Low n x (pos j)) js)
  lows_stand none [] narrow = tt
  lows_stand none (j ∷ js) narrow =
      let parts = narrow_parts (low_steps x (pos j) clause) (numbered_low_steps x clause js) narrow in
      let allowed = and_from _ _ is_variable (ap not none) in
      ((refl, and_from _ _ allowed parts.0, (over-low_at test other x more (pos j) clause fit.0, is_fact-low_at x (pos j) clause fit.1)), lows_stand none js parts.1)

  all_lows_stand : is_narrow (lows_steps x clause (period x clause)) ≡ true → AllByRecursion RowStands (lows n x clause)
  all_lows_stand narrow = elim (cases_Bool (list_any (bounds_above x) clause)) [
    | inl some ↦ rw some tt
    | inr none ↦ rw none (lows_stand none (numbers_below (period x clause)) (rw none at narrow))
  ]

  pub rows_stand : is_narrow (complete_steps x clause) ≡ true → AllByRecursion RowStands (complete_rows n x clause)
  rows_stand narrow =
      let d : ℤ = period x clause in
      let one = narrow_parts (period_steps x clause) (uppers_steps x clause d clause ++ lows_steps x clause d) narrow in
      let two = narrow_parts (uppers_steps x clause d clause) (lows_steps x clause d) one.1 in
      rows_append RowStands (flat_map (instances n x d) (filter_map (upper x) clause)) (lows n x clause)
      (uppers_stand d clause (over_occurring (λ y. occurs_in y clause) clause (λ y o. o)) fit two.0) (all_lows_stand two.1)
