-- Complete, literal by literal.
use Rattle.std.specs.Prelude.{◌≡◌, ℕ, suc, ◌<◌, ◌+◌, ◌-◌, ℤ, pos, negsuc, ◌≤ℤ◌, ◌*ℤ◌, Bool, true, false, IsTrue, IfSome, option_map, unsigned_abs, Result, length, get_or, drop, map, List, [], ◌∷◌, ◌++◌, Option, Some, None, if◌then◌else◌}
use Rattle.std.specs.List.{list_all, list_any, filter_map, flat_map, cons_option}
use Rattle.std.proofs.Common.{refl, sym, ◌∙◌, ap, subst, arith, add-one, inl, inr}
use Rattle.std.proofs.lemmas.Int.{ints}
use Rattle.std.proofs.lemmas.Bool.{cond_both, cases_Bool, and_parts, and_from}
use Rattle.std.proofs.lemmas.List.{at_drop_more, map-append}
use Rattle.std.proofs.lemmas.Simd.{map-map}
use Rattle.std.proofs.lemmas.List.Folds.{list_all-append}
use Rattle.lin_base.specs.declared.sums.Lin.{Lin}
use Rattle.lin_base.specs.declared.facts.Fact.{Fact}
use Rattle.lin_base.specs.declared.facts.Fact.TheVariants.{AtMostZero, Zero, Divides, NotDivides}
use Rattle.lin_base.specs.Whole.{is_zero, is_positive}
use Rattle.lin_base.specs.Fact.{is_fact, is_lin}
use Rattle.lin_base.specs.Sum.{coef, occurs, without, negated, add_number, above}
use Rattle.lin_base.proofs.Ring.{mul_positive}
use Rattle.lin_base.proofs.WellFormed.{is_lin-without, is_lin-add_number}
use Rattle.cert_tree.specs.declared.certs.Row.TheVariants.{Low}
use Rattle.cert_tree.specs.declared.sums.Side.{Side as Parts}
use Rattle.cert_tree.specs.Counting.{count_from, numbers_below}
use Rattle.cert_tree.specs.Points.{Side, made_positive, period, period_steps}
use Rattle.cert_tree.specs.Sides.{side_of}
use Rattle.cert_tree.specs.Bounds.{is_side}
use Rattle.cert_tree.specs.Rows.{row_clause, bounds_above, low_at, low_steps}
use Rattle.cert_tree.specs.Complete.{upper, upper_steps, instance, instances, lows, complete_rows, complete, complete_steps, moved_instance, moved_steps, instances_at, instances_steps, literal_instances, literal_steps, uppers_at, uppers_steps, lows_at, lows_steps, numbered_lows, numbered_low_steps}
use Rattle.lin_base.specs.declared.wides.ArithmeticError.{ArithmeticError}
use Rattle.lin_base.specs.Steps.{Forms, first_wide, IsErrorAt}
use Rattle.lin_base.proofs.Forming.{Forms-after, IsErrorAt-append_some}
use Rattle.cert_tree.proofs.Forming.{is_lin-negated}
use Rattle.cert_tree.proofs.Replacing.{occurs-without, occurs-negated, positive_side, absent_side, is_lin_side}
use Rattle.cert_tree.proofs.Pointing.{side_is, one_up, zero_up, side_positive, side_lin, side_absent, occurs-add_number}
use Rattle.cert_tree.proofs.Rowing.{is_fact-instance_at, is_fact-low_at}

-- ---- numbers in order
pub count_at : (n j : ℕ) → j < n → count_from j (n - j) ≡ j ∷ count_from (j + 1) (n - (j + 1))
count_at n j h = let e : n - j ≡ suc (n - (j + 1)) = omega (arith, h) in rw (e, add-one j) refl

pub below_abs : (z : ℤ) (n : ℕ) → pos 1 ≤ℤ z → n ≡ unsigned_abs z → count_from 0 n ≡ numbers_below z
below_abs (pos m) n up is = ap (count_from 0) is
below_abs (negsuc m) n up is = absurd (omega (arith, ints, up))

pub product_up : (a b : ℤ) → pos 1 ≤ℤ a → pos 1 ≤ℤ b → pos 1 ≤ℤ (a *ℤ b)
product_up a b h k = one_up (a *ℤ b) (mul_positive a b (zero_up a h) (zero_up b k))

-- ---- the clauses of Complete
module _ (x : ℕ) (clause : List Fact) where
  of_literal : (n : ℕ) (d : ℤ) (o : Option Side) (es : List Side)
      → map (row_clause clause) (flat_map (instances n x d) (cons_option o es)) ≡ literal_instances x clause d o ++ map (row_clause clause) (flat_map (instances n x d) es)
  of_literal n d None es = refl
  of_literal n d (Some e) es =
      map-append (row_clause clause) (instances n x d e) (flat_map (instances n x d) es)
      ∙ ap (λ cs. cs ++ map (row_clause clause) (flat_map (instances n x d) es)) (map-map (row_clause clause) (instance n x e) (numbers_below (e.b *ℤ d)))

  by_literal : (n : ℕ) (d : ℤ) (fs : List Fact) → map (row_clause clause) (flat_map (instances n x d) (filter_map (upper x) fs)) ≡ uppers_at x clause d fs
  by_literal n d [] = refl
  by_literal n d (f ∷ fs) = of_literal n d (upper x f) (filter_map (upper x) fs) ∙ ap (λ cs. literal_instances x clause d (upper x f) ++ cs) (by_literal n d fs)

  low_rows : (n : ℕ) (js : List ℕ) (b : Bool) → map (row_clause clause) (if b then [] else map (λ j. Low n x (pos j)) js) ≡ (if b then [] else numbered_lows x clause js)
  low_rows n js true = refl
  low_rows n js false = map-map (row_clause clause) (λ j. Low n x (pos j)) js

  pub complete_by_literal : (n : ℕ) → map (row_clause clause) (complete_rows n x clause) ≡ uppers_at x clause (period x clause) clause ++ lows_at x clause (period x clause)
  complete_by_literal n =
      map-append (row_clause clause) (flat_map (instances n x (period x clause)) (filter_map (upper x) clause)) (lows n x clause)
      ∙ ap (λ cs. cs ++ map (row_clause clause) (lows n x clause)) (by_literal n (period x clause) clause)
      ∙ ap (λ cs. uppers_at x clause (period x clause) clause ++ cs) (low_rows n (numbers_below (period x clause)) (list_any (bounds_above x) clause))

  -- whatever the clause's number
  pub complete_on : (n : ℕ) → map (row_clause clause) (complete_rows n x clause) ≡ complete x clause
  complete_on n = complete_by_literal n ∙ sym (complete_by_literal 0)

-- ---- bounds above
pub upper_is : (x : ℕ) (f : Fact) → is_fact f ≡ true → IfSome (option_map side_of (upper x f)) (λ e. IsTrue (is_side x e))
upper_is x (AtMostZero t) is = elim (cases_Bool (is_positive (coef x t))) [
  | inl up ↦ rw up (side_is x (coef x t) (without x t) (one_up (coef x t) (omega (arith, ints, up))) (is_lin-without x t is) (occurs-without x t))
  | inr low ↦ rw low tt
]
upper_is x (Zero t) is = elim (cases_Bool (is_zero (coef x t))) [
  | inl none ↦ rw none tt
  | inr some ↦ rw some (side_is x (made_positive x t).b (made_positive x t).rest (positive_side x t some) (is_lin_side x t is) (absent_side x t))
]
upper_is x (Divides m t) is = tt
upper_is x (NotDivides m t) is = tt

pub is_lin-above : (u : Lin) → is_lin u ≡ true → is_lin (above u) ≡ true
is_lin-above u is = is_lin-add_number (negated u) (pos 1) (is_lin-negated u is)

pub occurs-above : (x : ℕ) (u : Lin) → is_lin u ≡ true → occurs x u ≡ false → occurs x (above u) ≡ false
occurs-above x u is absent = occurs-add_number x (negated u) (pos 1) (is_lin-negated u is) (occurs-negated x u absent)

-- a bound moved above itself
pub is_side-above : (x : ℕ) (e : Parts) → is_side x e ≡ true → is_side x (record { b = e.b; rest = above e.rest }) ≡ true
is_side-above x e h = side_is x e.b (above e.rest) (side_positive x e h) (is_lin-above e.rest (side_lin x e h)) (occurs-above x e.rest (side_lin x e h) (side_absent x e h))

-- ---- well-formed clauses
abbrev Each : List (List Fact) → Type 0
Each cs = list_all (list_all is_fact) cs ≡ true

both : (cs ds : List (List Fact)) → Each cs → Each ds → Each (cs ++ ds)
both cs ds h k = list_all-append (list_all is_fact) cs ds ∙ and_from _ _ h k

module _ (x : ℕ) (clause : List Fact) (all : list_all is_fact clause ≡ true) where
  each_instance : (b : ℤ) (s : Lin) → pos 1 ≤ℤ b → is_lin s ≡ true → (js : List ℕ) → Each (map (moved_instance x clause b s) js)
  each_instance b s h is [] = refl
  each_instance b s h is (j ∷ js) = and_from _ _ (is_fact-instance_at x b (add_number s (pos j)) clause h (is_lin-add_number s (pos j) is) all) (each_instance b s h is js)

  each_of_literal : (d : ℤ) (o : Option Side) → IfSome (option_map side_of o) (λ e. IsTrue (is_side x e)) → Each (literal_instances x clause d o)
  each_of_literal d None h = refl
  each_of_literal d (Some e) h = each_instance e.b (above e.rest) (side_positive x (side_of e) h) (is_lin-above e.rest (side_lin x (side_of e) h)) (numbers_below (e.b *ℤ d))

  each_upper : (d : ℤ) (fs : List Fact) → list_all is_fact fs ≡ true → Each (uppers_at x clause d fs)
  each_upper d [] h = refl
  each_upper d (f ∷ fs) h =
      let parts = and_parts (is_fact f) (list_all is_fact fs) h in
      both (literal_instances x clause d (upper x f)) (uppers_at x clause d fs) (each_of_literal d (upper x f) (upper_is x f parts.0)) (each_upper d fs parts.1)

  each_low : (js : List ℕ) → Each (numbered_lows x clause js)
  each_low [] = refl
  each_low (j ∷ js) = and_from _ _ (is_fact-low_at x (pos j) clause all) (each_low js)

  each_lows : (d : ℤ) → Each (lows_at x clause d)
  each_lows d = cond_both (list_any (bounds_above x) clause) [] (numbered_lows x clause (numbers_below d)) Each (λ _. refl) (λ _. each_low (numbers_below d))

  pub is_fact-rows : (d : ℤ) → list_all (list_all is_fact) (uppers_at x clause d clause ++ lows_at x clause d) ≡ true
  is_fact-rows d = both (uppers_at x clause d clause) (lows_at x clause d) (each_upper d clause all) (each_lows d)

  pub is_fact-complete : list_all (list_all is_fact) (complete x clause) ≡ true
  is_fact-complete = subst Each (sym (complete_by_literal x clause 0)) (is_fact-rows (period x clause))

-- ---- the loops
module _ (x : ℕ) (clause : List Fact) where
  pub uppers_steps-drop : (d : ℤ) (fs : List Fact) (i : ℕ) (f : Fact) → i < length fs → uppers_steps x clause d (drop i fs) ≡ literal_steps x clause d (upper x (get_or fs i f)) ++ uppers_steps x clause d (drop (i + 1) fs)
  uppers_steps-drop d fs i f h = at_drop_more (uppers_steps x clause d) fs i f h

  pub uppers_at-drop : (d : ℤ) (fs : List Fact) (i : ℕ) (f : Fact) → i < length fs → uppers_at x clause d (drop i fs) ≡ literal_instances x clause d (upper x (get_or fs i f)) ++ uppers_at x clause d (drop (i + 1) fs)
  uppers_at-drop d fs i f h = at_drop_more (uppers_at x clause d) fs i f h

  pub moved_steps-at : (b : ℤ) (s : Lin) (n j : ℕ) → j < n → flat_map (moved_steps x clause b s) (count_from j (n - j)) ≡ moved_steps x clause b s j ++ flat_map (moved_steps x clause b s) (count_from (j + 1) (n - (j + 1)))
  moved_steps-at b s n j h = ap (flat_map (moved_steps x clause b s)) (count_at n j h)

  pub moved_instances-at : (b : ℤ) (s : Lin) (n j : ℕ) → j < n → map (moved_instance x clause b s) (count_from j (n - j)) ≡ moved_instance x clause b s j ∷ map (moved_instance x clause b s) (count_from (j + 1) (n - (j + 1)))
  moved_instances-at b s n j h = ap (map (moved_instance x clause b s)) (count_at n j h)

  pub low_steps-at : (n j : ℕ) → j < n → numbered_low_steps x clause (count_from j (n - j)) ≡ low_steps x (pos j) clause ++ numbered_low_steps x clause (count_from (j + 1) (n - (j + 1)))
  low_steps-at n j h = ap (numbered_low_steps x clause) (count_at n j h)

  pub lows-at : (n j : ℕ) → j < n → numbered_lows x clause (count_from j (n - j)) ≡ low_at x (pos j) clause ∷ numbered_lows x clause (count_from (j + 1) (n - (j + 1)))
  lows-at n j h = ap (numbered_lows x clause) (count_at n j h)

  -- ---- of a literal
  pub literal_from : (d : ℤ) (o : Option Side) (side : Parts) (r : Result (List (List Fact)) ArithmeticError) → option_map side_of o ≡ Some side → first_wide (upper_steps o) ≡ None
      → Forms r (instances_steps x clause d side.b side.rest) (instances_at x clause d side.b side.rest) → Forms r (literal_steps x clause d o) (literal_instances x clause d o)
  literal_from d None side r is none formed = absurd (cc)
  literal_from d (Some e) side r is none formed =
      let same : side ≡ side_of e = cc in
      let P : Parts → Type 0 = λ s. Forms r (instances_steps x clause d s.b s.rest) (instances_at x clause d s.b s.rest) in
      Forms-after r e.steps (instances_steps x clause d e.b e.rest) (instances_at x clause d e.b e.rest) none (subst P same formed)

  pub literal_none : (d : ℤ) (o : Option Side) → option_map side_of o ≡ None → (first_wide (literal_steps x clause d o) ≡ None) × (literal_instances x clause d o ≡ [])
  literal_none d None is = (refl, refl)
  literal_none d (Some e) is = absurd (cc)

  pub literal_err : (d : ℤ) (o : Option Side) (e : ArithmeticError) → IsErrorAt e (first_wide (upper_steps o)) → IsErrorAt e (first_wide (literal_steps x clause d o))
  literal_err d None e h = h
  literal_err d (Some side) e h = IsErrorAt-append_some e side.steps (instances_steps x clause d side.b side.rest) h

  -- ---- far down
  pub lows_none : (d : ℤ) → list_any (bounds_above x) clause ≡ true → (first_wide (lows_steps x clause d) ≡ None) × (lows_at x clause d ≡ [])
  lows_none d h = rw h (refl, refl)

  pub lows_some : (d : ℤ) (n : ℕ) (r : Result (List (List Fact)) ArithmeticError) → list_any (bounds_above x) clause ≡ false → pos 1 ≤ℤ d → n ≡ unsigned_abs d
      → Forms r (numbered_low_steps x clause (count_from 0 n)) (numbered_lows x clause (count_from 0 n)) → Forms r (lows_steps x clause d) (lows_at x clause d)
  lows_some d n r h up is formed =
      let P : List ℕ → Type 0 = λ js. Forms r (numbered_low_steps x clause js) (numbered_lows x clause js) in
      rw h (subst P (below_abs d n up is) formed)

  -- ---- all of Complete
  pub complete_forms : (d : ℤ) (r : Result (List (List Fact)) ArithmeticError) → d ≡ period x clause → first_wide (period_steps x clause) ≡ None
      → Forms r (uppers_steps x clause d clause ++ lows_steps x clause d) (uppers_at x clause d clause ++ lows_at x clause d) → Forms r (complete_steps x clause) (complete x clause)
  complete_forms d r is none formed =
      let P : ℤ → Type 0 = λ z. Forms r (uppers_steps x clause z clause ++ lows_steps x clause z) (uppers_at x clause z clause ++ lows_at x clause z) in
      let Q : List (List Fact) → Type 0 = λ cs. Forms r (uppers_steps x clause (period x clause) clause ++ lows_steps x clause (period x clause)) cs in
      Forms-after r (period_steps x clause) (uppers_steps x clause (period x clause) clause ++ lows_steps x clause (period x clause)) (complete x clause) none (subst Q (sym (complete_by_literal x clause 0)) (subst P is formed))
