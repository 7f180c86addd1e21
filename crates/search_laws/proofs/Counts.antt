-- A grounding never has fewer clauses than there were: each Complete has a row.
use Rattle.std.specs.Prelude.{◌≡◌, ℕ, zero, suc, ◌+◌, ◌≤◌, ℤ, pos, negsuc, ◌≤ℤ◌, ◌*ℤ◌, true, false, length, List, [], ◌∷◌, ◌++◌, map, Option, Some, None}
use Rattle.std.specs.List.{list_all, list_any, filter_map, flat_map, cons_option, enumerate_from}
use Rattle.std.proofs.Common.{◌∙◌, ap, arith, inl, inr}
use Rattle.std.proofs.lemmas.Int.{ints}
use Rattle.std.proofs.lemmas.Bool.{cases_Bool, or_cases, false≢true}
use Rattle.std.proofs.lemmas.List.{length-append, length-map}
use Rattle.std.proofs.lemmas.List.FromFn.{length-enumerate_from}
use Rattle.lin_base.specs.declared.facts.Fact.{Fact}
use Rattle.lin_base.specs.declared.facts.Fact.TheVariants.{AtMostZero, Zero, Divides, NotDivides}
use Rattle.lin_base.specs.Sum.{coef, without}
use Rattle.lin_base.specs.Fact.{is_fact}
use Rattle.cert_tree.specs.declared.certs.Row.{Row}
use Rattle.cert_tree.specs.declared.certs.Row.TheVariants.{Low}
use Rattle.cert_tree.specs.Counting.{numbers_below, occurs_in}
use Rattle.cert_tree.specs.Points.{Side, period}
use Rattle.cert_tree.specs.Rows.{bounds_above, row_clause}
use Rattle.cert_tree.specs.Complete.{upper, instance, instances, lows, complete_rows, complete_steps}
use Rattle.cert_tree.specs.Ground.{Numbered, Grounding, variables, then_ground, ground_each, ground_by, ground_clause}
use Rattle.cert_tree.proofs.Completion.{product_up, complete_on, is_fact-complete}
use Rattle.cert_tree.proofs.Bounding.{period_up}
use Rattle.search_laws.proofs.GroundFacts.{AreFacts, enumerated_facts}

-- ---- Complete has a row
one_below : (z : ℤ) → pos 1 ≤ℤ z → 1 ≤ length (numbers_below z)
one_below (pos zero) h = absurd (omega (arith, ints, h))
one_below (pos (suc n)) h = omega arith
one_below (negsuc n) h = absurd (omega (arith, ints, h))

one_made : (f : ℕ → Row) (z : ℤ) → pos 1 ≤ℤ z → 1 ≤ length (map f (numbers_below z))
one_made f z h = omega (arith, one_below z h, length-map (numbers_below z) f)

one_left : (xs ys : List Row) → 1 ≤ length xs → 1 ≤ length (xs ++ ys)
one_left xs ys h = omega (arith, h, length-append xs ys)

one_right : (xs ys : List Row) → 1 ≤ length ys → 1 ≤ length (xs ++ ys)
one_right xs ys h = omega (arith, h, length-append xs ys)

module _ (n x : ℕ) (d : ℤ) (up : pos 1 ≤ℤ d) where
  later_row : (o : Option Side) (es : List Side) → 1 ≤ length (flat_map (instances n x d) es) → 1 ≤ length (flat_map (instances n x d) (cons_option o es))
  later_row None es h = h
  later_row (Some e) es h = one_right (instances n x d e) (flat_map (instances n x d) es) h

  first_row : (f : Fact) (es : List Side) → bounds_above x f ≡ true → 1 ≤ length (flat_map (instances n x d) (cons_option (upper x f) es))
  first_row (AtMostZero t) es h =
      let e : Side = record { b = coef x t; rest = without x t; steps = [] } in
      rw h (one_left (instances n x d e) (flat_map (instances n x d) es) (one_made (instance n x e) (coef x t *ℤ d) (product_up (coef x t) d (omega (arith, ints, h)) up)))
  first_row (Zero t) es h = absurd (false≢true h)
  first_row (Divides m t) es h = absurd (false≢true h)
  first_row (NotDivides m t) es h = absurd (false≢true h)

  upper_row : (fs : List Fact) → list_any (bounds_above x) fs ≡ true → 1 ≤ length (flat_map (instances n x d) (filter_map (upper x) fs))
  upper_row [] h = absurd (false≢true h)
  upper_row (f ∷ fs) h = elim (or_cases (bounds_above x f) (list_any (bounds_above x) fs) h) [
    | inl here ↦ first_row f (filter_map (upper x) fs) here
    | inr more ↦ later_row (upper x f) (filter_map (upper x) fs) (upper_row fs more)
  ]

pub one_row : (n x : ℕ) (clause : List Fact) → list_all is_fact clause ≡ true → 1 ≤ length (complete_rows n x clause)
one_row n x clause all =
    let d : ℤ = period x clause in
    let up = period_up x clause all in
    let above : List Row = flat_map (instances n x d) (filter_map (upper x) clause) in
    elim (cases_Bool (list_any (bounds_above x) clause)) [
      | inl some ↦ one_left above (lows n x clause) (upper_row n x d up clause some)
      | inr none ↦ one_right above (lows n x clause) (rw none (one_made (λ j. Low n x (pos j)) d up))
    ]

-- ---- groundings
-- a well-formed clause gives at least one
abbrev GivesOne : (ℕ → Numbered → Grounding) → Type 0
GivesOne make = (next : ℕ) (c : Numbered) → list_all is_fact c.1 ≡ true → 1 ≤ length (make next c).clauses

each_grows : (make : ℕ → Numbered → Grounding) → GivesOne make → (next : ℕ) (ns : List Numbered) → AreFacts ns → length ns ≤ length (ground_each make next ns).clauses
each_grows make gives next [] all = omega arith
each_grows make gives next (n ∷ ns) all =
    let g : Grounding = make next n in
    let rest : Grounding = ground_each make (next + length g.rows) ns in
    omega (arith, gives next n all.0, each_grows make gives (next + length g.rows) ns all.1, length-append g.clauses rest.clauses)

pub by_gives : (xs : List ℕ) → GivesOne (ground_by xs)
by_gives [] next c all = omega arith
by_gives (x ∷ xs) next c all =
    let rows : List Row = complete_rows c.0 x c.1 in
    let made : List (List Fact) = map (row_clause c.1) rows in
    let ns : List Numbered = enumerate_from next made in
    let more : Grounding = then_ground (record { rows = rows; clauses = []; steps = complete_steps x c.1 }) (ground_each (ground_by xs) (next + length rows) ns) in
    let are = ap (list_all (list_all is_fact)) (complete_on x c.1 c.0) ∙ is_fact-complete x c.1 all in
    let grows = each_grows (ground_by xs) (by_gives xs) (next + length rows) ns (enumerated_facts next made are) in
    elim (occurs_in x c.1) as (λ b. 1 ≤ length (let g : Grounding = elim b [ true ↦ more | false ↦ ground_by xs next c ] in g.clauses)) [
      | true ↦ omega (arith, grows, one_row c.0 x c.1 all, length-map rows (row_clause c.1), length-enumerate_from next made)
      | false ↦ by_gives xs next c all
    ]

pub by_grows : (xs : List ℕ) (next : ℕ) (ns : List Numbered) → AreFacts ns → length ns ≤ length (ground_each (ground_by xs) next ns).clauses
by_grows xs next ns all = each_grows (ground_by xs) (by_gives xs) next ns all

pub clauses_grow : (params next : ℕ) (ns : List Numbered) → AreFacts ns → length ns ≤ length (ground_each (ground_clause params) next ns).clauses
clauses_grow params next ns all = each_grows (ground_clause params) (λ k c is. by_gives (variables params c.1) k c is) next ns all
