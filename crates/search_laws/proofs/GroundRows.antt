-- The rows of the grounding extend the pool: each ground clause stands by its number, and is over parameters.
use Rattle.std.specs.Prelude.{◌≡◌, ℕ, zero, suc, ◌+◌, ◌==◌, nat_lt, nat_le, Bool, true, false, length, List, [], ◌∷◌, ◌++◌, map, Option, Some, None, slice_get}
use Rattle.std.specs.List.{list_all, enumerate_from, AllByRecursion}
use Rattle.std.proofs.Common.{refl, sym, ◌∙◌, ap, subst, arith, inl, inr}
use Rattle.std.proofs.lemmas.Bool.{and_parts, and_from, or_cases, eqb-false, ne_eqb, false≢true}
use Rattle.std.proofs.lemmas.List.{length-append}
use Rattle.lin_base.specs.declared.facts.Fact.{Fact}
use Rattle.lin_base.specs.Sum.{occurs, each_unknown}
use Rattle.lin_base.specs.Fact.{sum_of, is_fact}
use Rattle.lin_base.specs.Steps.{is_narrow}
use Rattle.cert_tree.specs.declared.certs.Row.{Row}
use Rattle.cert_tree.specs.Counting.{is_free, occurs_in}
use Rattle.cert_tree.specs.Narrow.{option_then}
use Rattle.cert_tree.specs.Rows.{clause_of, row_clause, row_stands_on, row_on, row_over, extended}
use Rattle.cert_tree.specs.Complete.{complete_rows, complete_steps}
use Rattle.cert_tree.proofs.RowsSound.{or_none}
use Rattle.cert_tree.specs.Ground.{Numbered, Grounding, variables, unknowns, then_ground, ground_each, ground_by, ground_clause}
use Rattle.search_laws.proofs.Ranges.{narrow_parts}
use Rattle.search_laws.proofs.Occurring.{Over, over-weaker, passes-absent}
use Rattle.search_laws.proofs.LeastChildren.{Fit}
use Rattle.search_laws.proofs.GroundFacts.{enumerated_facts}
use Rattle.search_laws.proofs.Variables.{is_param_or, all_filtered, over_variables}
use Rattle.search_laws.proofs.CompleteRows.{RowStands, rows_stand}
use Rattle.search_laws.proofs.Closing.{IsListed}

-- ---- elements by number
-- the second list has the elements of the first at their numbers
abbrev Keeps : List (List Fact) → List (List Fact) → Type 0
Keeps cs more = (n : ℕ) (c : List Fact) → slice_get cs n ≡ Some c → slice_get more n ≡ Some c

keeps_append : (cs ds : List (List Fact)) → Keeps cs (cs ++ ds)
keeps_append [] ds n a e = absurd (cc)
keeps_append (c ∷ cs) ds zero a e = e
keeps_append (c ∷ cs) ds (suc n) a e = keeps_append cs ds n a e

last_at : (cs : List (List Fact)) (c : List Fact) → slice_get (cs ++ c ∷ []) (length cs) ≡ Some c
last_at [] c = refl
last_at (d ∷ cs) c = last_at cs c

length_snoc : (cs : List (List Fact)) (c : List Fact) → length (cs ++ c ∷ []) ≡ length cs + 1
length_snoc cs c = length-append cs (c ∷ [])

-- clauses by their numbers
abbrev IsAt : List (List Fact) → Numbered → Type 0
IsAt cs c = slice_get cs c.0 ≡ Some c.1

all_kept : (cs more : List (List Fact)) → Keeps cs more → (ns : List Numbered) → AllByRecursion (IsAt cs) ns → AllByRecursion (IsAt more) ns
all_kept cs more keeps [] all = tt
all_kept cs more keeps (n ∷ ns) all = (keeps n.0 n.1 all.0, all_kept cs more keeps ns all.1)

enumerated : (all : List (List Fact)) (n : ℕ) (cs : List (List Fact)) → ((i : ℕ) (c : List Fact) → slice_get cs i ≡ Some c → slice_get all (n + i) ≡ Some c) → AllByRecursion (IsAt all) (enumerate_from n cs)
enumerated all n [] h = tt
enumerated all n (c ∷ cs) h =
    let here : n + 0 ≡ n = omega arith in
    (ap (slice_get all) (sym here) ∙ h 0 c refl, enumerated all (n + 1) cs (λ i d e. let next : n + 1 + i ≡ n + suc i = omega arith in ap (slice_get all) next ∙ h (suc i) d e))

module _ (params : ℕ) where
  -- ---- the rows on one clause
  abbrev RowsExtend : List Row → List Fact → List (List Fact) → Type 0
  RowsExtend rows clause cs =
      (more : List (List Fact)) × (extended params rows cs ≡ Some more) × (length more ≡ length cs + length rows) × Keeps cs more × AllByRecursion (IsAt more) (enumerate_from (length cs) (map (row_clause clause) rows))

  row_gives : (row : Row) (clause : List Fact) (cs : List (List Fact)) → slice_get cs (clause_of row) ≡ Some clause → row_stands_on params clause row ≡ true → row_over params cs row ≡ Some (row_clause clause row)
  row_gives row clause cs at_ stands_ = ap (row_on params row) at_ ∙ rw stands_ refl

  rows_extend : (n : ℕ) (clause : List Fact) (rows : List Row) → AllByRecursion (λ r. (clause_of r ≡ n) × (row_stands_on params clause r ≡ true)) rows → (cs : List (List Fact)) → slice_get cs n ≡ Some clause → RowsExtend rows clause cs
  rows_extend n clause [] all cs at_ = let same : length cs ≡ length cs + 0 = omega arith in (cs, refl, same, (λ n c e. e), tt)
  rows_extend n clause (row ∷ rows) all cs at_ =
      let c : List Fact = row_clause clause row in
      let given = row_gives row clause cs (ap (slice_get cs) all.0.0 ∙ at_) all.0.1 in
      let keeps : Keeps cs (cs ++ c ∷ []) = keeps_append cs (c ∷ []) in
      let rest = rows_extend n clause rows all.1 (cs ++ c ∷ []) (keeps n clause at_) in
      let more : List (List Fact) = rest.0 in
      let long : length more ≡ length cs + suc (length rows) = omega (arith, rest.2, length_snoc cs c) in (
        more,
        ap (λ o. option_then o (λ d. extended params rows (cs ++ d ∷ []))) given ∙ rest.1,
        long,
        (λ i d e. rest.3 i d (keeps i d e)),
        (rest.3 (length cs) c (last_at cs c), subst (λ k. AllByRecursion (IsAt more) (enumerate_from k (map (row_clause clause) rows))) (length_snoc cs c) rest.4),
      )

  -- ---- groundings
  -- the rows of a grounding extend the clauses, and its clauses stand by their numbers among the extended ones, over parameters
  abbrev Extends : Grounding → List (List Fact) → Type 0
  Extends g cs = (more : List (List Fact)) × (extended params g.rows cs ≡ Some more) × (length more ≡ length cs + length g.rows) × Keeps cs more × AllByRecursion (IsListed params more) g.clauses

  -- a grounding of a clause for which something is ready
  abbrev GroundsFrom : (ℕ → Numbered → Grounding) → (List Fact → Type 0) → Type 0
  GroundsFrom make Ready = (next : ℕ) (c : Numbered) (cs : List (List Fact)) → next ≡ length cs → slice_get cs c.0 ≡ Some c.1 → Ready c.1 → is_narrow (make next c).steps ≡ true → Extends (make next c) cs

  through_option : (o : Option (List Fact)) (f g : List Fact → Option (List (List Fact))) (h : List (List Fact) → Option (List (List Fact))) → ((c : List Fact) → f c ≡ option_then (g c) h) → option_then o f ≡ option_then (option_then o g) h
  through_option None f g h each = refl
  through_option (Some c) f g h each = each c

  extended_append : (rows more : List Row) (cs : List (List Fact)) → extended params (rows ++ more) cs ≡ option_then (extended params rows cs) (extended params more)
  extended_append [] more cs = refl
  extended_append (row ∷ rows) more cs =
      through_option (row_over params cs row) (λ c. extended params (rows ++ more) (cs ++ c ∷ [])) (λ c. extended params rows (cs ++ c ∷ [])) (extended params more)
      (λ c. extended_append rows more (cs ++ c ∷ []))

  listed_kept : (cs more : List (List Fact)) → Keeps cs more → (ns : List Numbered) → AllByRecursion (IsListed params cs) ns → AllByRecursion (IsListed params more) ns
  listed_kept cs more keeps [] all = tt
  listed_kept cs more keeps (n ∷ ns) all = ((keeps n.0 n.1 all.0.0, all.0.1), listed_kept cs more keeps ns all.1)

  listed_append : (more : List (List Fact)) (ms ns : List Numbered) → AllByRecursion (IsListed params more) ms → AllByRecursion (IsListed params more) ns → AllByRecursion (IsListed params more) (ms ++ ns)
  listed_append more [] ns all rest = rest
  listed_append more (m ∷ ms) ns all rest = (all.0, listed_append more ms ns all.1 rest)

  -- one grounding, and another one after it
  then_extends : (g h : Grounding) (cs : List (List Fact)) → (first : Extends g cs) → Extends h first.0 → Extends (then_ground g h) cs
  then_extends g h cs first second = (
    second.0,
    extended_append g.rows h.rows cs ∙ ap (λ o. option_then o (extended params h.rows)) first.1 ∙ second.1,
    (let long : length second.0 ≡ length cs + (length g.rows + length h.rows) = omega (arith, first.2, second.2) in ap (λ k. length second.0) (length-append g.rows h.rows) ∙ long ∙ ap (λ k. length cs + k) (sym (length-append g.rows h.rows))),
    (λ n c e. second.3 n c (first.3 n c e)),
    listed_append second.0 g.clauses h.clauses (listed_kept first.0 second.0 second.3 g.clauses first.4) second.4,
  )

  each_extends : (make : ℕ → Numbered → Grounding) (Ready : List Fact → Type 0) → GroundsFrom make Ready → (ns : List Numbered) (next : ℕ) (cs : List (List Fact)) → next ≡ length cs
      → AllByRecursion (IsAt cs) ns → AllByRecursion (λ n. Ready n.1) ns → is_narrow (ground_each make next ns).steps ≡ true → Extends (ground_each make next ns) cs
  each_extends make Ready grounds [] next cs is at_ ready narrow = let same : length cs ≡ length cs + 0 = omega arith in (cs, refl, same, (λ n c e. e), tt)
  each_extends make Ready grounds (n ∷ ns) next cs is at_ ready narrow =
      let g : Grounding = make next n in
      let rest : Grounding = ground_each make (next + length g.rows) ns in
      let parts = narrow_parts g.steps rest.steps narrow in
      let first : Extends g cs = grounds next n cs is at_.0 ready.0 parts.0 in
      let long : next + length g.rows ≡ length first.0 = omega (arith, is, first.2) in
      then_extends g rest cs first (each_extends make Ready grounds ns (next + length g.rows) first.0 long (all_kept cs first.0 first.3 ns at_.1) ready.1 parts.1)

  -- ---- a clause, down by its variables
  abbrev ReadyBy : List ℕ → List Fact → Type 0
  ReadyBy xs clause = Fit (is_param_or params xs) clause

  without_first : (x : ℕ) (xs : List ℕ) (y : ℕ) → is_param_or params (x ∷ xs) y ≡ true → (y == x) ≡ false → is_param_or params xs y ≡ true
  without_first x xs y h apart =
      let other : (x == y) ≡ false = ne_eqb x y (λ e. eqb-false y x apart (sym e)) in
      rw other at h

  absent_over : (x : ℕ) (xs : List ℕ) (fs : List Fact) → occurs_in x fs ≡ false → Over (is_param_or params (x ∷ xs)) fs → Over (is_param_or params xs) fs
  absent_over x xs [] o h = refl
  absent_over x xs (f ∷ fs) o h =
      let test : ℕ → Bool = is_param_or params (x ∷ xs) in
      let both = and_parts (each_unknown test (sum_of f)) (list_all (λ f. each_unknown test (sum_of f)) fs) h in
      let none = or_none (occurs x (sum_of f)) (occurs_in x fs) o in
      and_from _ _ (passes-absent test (is_param_or params xs) x (without_first x xs) (sum_of f) none.0 both.0) (absent_over x xs fs none.1 both.1)

  only_params : (y : ℕ) → is_param_or params [] y ≡ true → is_free params [] y ≡ true
  only_params y h = elim (or_cases (nat_lt y params) false h) [ inl below ↦ and_from _ _ below refl | inr none ↦ absurd (false≢true none) ]

  -- what the rows on a clause say of each
  fits_of : (n x : ℕ) (clause : List Fact) (test other : ℕ → Bool) (more : (y : ℕ) → test y ≡ true → (y == x) ≡ false → other y ≡ true) (fit : Fit test clause) (variable : nat_le params x ≡ true) (occurring : occurs_in x clause ≡ true)
      → (rows : List Row) (k : ℕ) → AllByRecursion (RowStands params n x clause test other more fit variable occurring) rows
      → AllByRecursion (λ r. (clause_of r ≡ n) × (row_stands_on params clause r ≡ true)) rows × AllByRecursion (λ e. Fit other e.1) (enumerate_from k (map (row_clause clause) rows))
  fits_of n x clause test other more fit variable occurring [] k all = (tt, tt)
  fits_of n x clause test other more fit variable occurring (r ∷ rs) k all =
      let rest = fits_of n x clause test other more fit variable occurring rs (k + 1) all.1 in
      (((all.0.0, all.0.1), rest.0), (all.0.2, rest.1))

  -- the clause replaced by Complete, and so on
  abbrev completed : ℕ → List ℕ → ℕ → Numbered → Grounding
  completed x xs next c =
      let rows = complete_rows c.0 x c.1 in
      then_ground (record { rows = rows; clauses = []; steps = complete_steps x c.1 })
      (ground_each (ground_by xs) (next + length rows) (enumerate_from next (map (row_clause c.1) rows)))

  completed_extends : (x : ℕ) (xs : List ℕ) → nat_le params x ≡ true → GroundsFrom (ground_by xs) (ReadyBy xs) → (next : ℕ) (c : Numbered) (cs : List (List Fact)) → next ≡ length cs → slice_get cs c.0 ≡ Some c.1 → ReadyBy (x ∷ xs) c.1
      → occurs_in x c.1 ≡ true → is_narrow (completed x xs next c).steps ≡ true → Extends (completed x xs next c) cs
  completed_extends x xs first rest_grounds next c cs is at_ fit o narrow =
      let rows : List Row = complete_rows c.0 x c.1 in
      let made : Grounding = record { rows = rows; clauses = []; steps = complete_steps x c.1 } in
      let ns : List Numbered = enumerate_from next (map (row_clause c.1) rows) in
      let rest : Grounding = ground_each (ground_by xs) (next + length rows) ns in
      let parts = narrow_parts (complete_steps x c.1) rest.steps narrow in
      let stand_ = rows_stand params c.0 x c.1 (is_param_or params (x ∷ xs)) (is_param_or params xs) (without_first x xs) fit first o parts.0 in
      let known = fits_of c.0 x c.1 (is_param_or params (x ∷ xs)) (is_param_or params xs) (without_first x xs) fit first o rows next stand_ in
      let ext = rows_extend c.0 c.1 rows known.0 cs at_ in
      let numbered : AllByRecursion (IsAt ext.0) ns = subst (λ k. AllByRecursion (IsAt ext.0) (enumerate_from k (map (row_clause c.1) rows))) (sym is) ext.4 in
      let long : next + length rows ≡ length ext.0 = omega (arith, is, ext.2) in
      then_extends made rest cs (ext.0, ext.1, ext.2, ext.3, tt) (each_extends (ground_by xs) (ReadyBy xs) rest_grounds ns (next + length rows) ext.0 long numbered known.1 parts.1)

  by_extends : (xs : List ℕ) → list_all (λ x. nat_le params x) xs ≡ true → GroundsFrom (ground_by xs) (ReadyBy xs)
  by_extends [] variable next c cs is at_ fit narrow =
      let same : length cs ≡ length cs + 0 = omega arith in
      (cs, refl, same, (λ n d e. e), ((at_, (over-weaker (is_param_or params []) (is_free params []) only_params c.1 fit.0, fit.1)), tt))
  by_extends (x ∷ xs) variable next c cs is at_ fit narrow =
      let both = and_parts (nat_le params x) (list_all (λ x. nat_le params x) xs) variable in
      (elim (occurs_in x c.1) as (λ b. occurs_in x c.1 ≡ b → (let g : Grounding = elim b [ true ↦ completed x xs next c | false ↦ ground_by xs next c ] in is_narrow g.steps ≡ true → Extends g cs)) [
        | true ↦ (λ o n. completed_extends x xs both.0 (by_extends xs both.1) next c cs is at_ fit o n)
        | false ↦ (λ o n. by_extends xs both.1 next c cs is at_ (absent_over x xs c.1 o fit.0, fit.1) n)
      ]) refl narrow

  -- ---- the pool
  clause_extends : GroundsFrom (ground_clause params) (λ c. list_all is_fact c ≡ true)
  clause_extends next c cs is at_ all narrow = by_extends (variables params c.1) (all_filtered (λ x. nat_le params x) (unknowns c.1)) next c cs is at_ (over_variables params c.1, all) narrow

  pub grounding_extends : (clauses : List (List Fact)) → list_all (list_all is_fact) clauses ≡ true → (let g : Grounding = ground_each (ground_clause params) (length clauses) (enumerate_from 0 clauses) in is_narrow g.steps ≡ true → Extends g clauses)
  grounding_extends clauses all narrow =
      each_extends (ground_clause params) (λ c. list_all is_fact c ≡ true) clause_extends (enumerate_from 0 clauses) (length clauses) clauses refl
      (enumerated clauses 0 clauses (λ i c e. let same : 0 + i ≡ i = omega arith in ap (slice_get clauses) same ∙ e)) (enumerated_facts 0 clauses all) narrow
