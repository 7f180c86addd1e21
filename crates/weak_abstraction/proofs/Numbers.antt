-- The new variables: their numbers are above those of the clause, no two are one, and each goes back to its term.
use Rattle.std.proofs.Common.{◌≡◌, ◌≢◌, inl, inr, ◌+◌, ◌<◌, ◌≤◌, ℕ, suc, Bool, true, false, ◌&&◌, List, [], ◌∷◌, map, if◌then◌else◌, refl, ap, sym, ◌∙◌, arith}
use Rattle.term_base.specs.declared.symbols.Symbol.{Symbol}
use Rattle.term_base.specs.declared.terms.Purity.{Purity}
use Rattle.term_base.specs.declared.terms.Purity.TheVariants.{Pure, Impure, Foreground}
use Rattle.term_base.specs.declared.variables.Variable.{Variable}
use Rattle.term_base.specs.Same.{same_variable}
use Rattle.term_base.specs.SameLemmas.{same_variable-true, same_variable-refl}
use Rattle.term_base.specs.Trees.{Tree, Trees, var, node, none, more, same_tree, occurs, any_occurs}
use Rattle.term_base.specs.TreeLemmas.{or-true, true_or_false, both_ways, same_tree-true, same_tree-refl}
use Rattle.term_base.specs.Purity.{foreground, ordinary, purity}
use Rattle.term_base.specs.Substitution.{put_in}
use Rattle.term_base.specs.Clauses.{is_well_sorted}
use Rattle.term_base.specs.Lits.{Lit, disequation, put_clause, lit_occurs, clause_occurs}
use Rattle.weak_abstraction.specs.Abstraction.{EachName, StandsFor, VariablesDiffer, TermsDiffer, definition, from_itself, put_back}
use Rattle.weak_abstraction.specs.Abstracted.{next_number, next_of_each, literal_number, first_number, variable_for, place, variable_of, numbered}
use Rattle.weak_abstraction.proofs.Choices.{EachTree}
use Rattle.weak_abstraction.proofs.Different.{IsAmong, AreDifferent}
use Rattle.weak_abstraction.proofs.Found.{plain_foreground, plain_integer, IsTarget}

pub name_weaken : (P Q : (Variable × Tree) → Type 0) → ((p : Variable × Tree) → P p → Q p) → (ps : List (Variable × Tree)) → EachName P ps → EachName Q ps
name_weaken P Q w [] h = tt
name_weaken P Q w (p ∷ ps) h = (w p h.0, name_weaken P Q w ps h.1)

pub name_both : (P Q R : (Variable × Tree) → Type 0) → ((p : Variable × Tree) → P p → Q p → R p) → (ps : List (Variable × Tree)) → EachName P ps → EachName Q ps → EachName R ps
name_both P Q R w [] h k = tt
name_both P Q R w (p ∷ ps) h k = (w p h.0 k.0, name_both P Q R w ps h.1 k.1)

-- variables of two numbers are two
other_variable : (v w : Variable) → (v.id ≡ w.id → ⊥) → same_variable v w ≡ false
other_variable v w d = elim (true_or_false (same_variable v w)) [
  | inl p ↦ absurd (d (ap (λ (z : Variable). z.id) (same_variable-true v w p)))
  | inr q ↦ q
]

not_same_tree : (t u : Tree) → t ≢ u → same_tree t u ≡ false
not_same_tree t u d = elim (true_or_false (same_tree t u)) [ inl p ↦ absurd (d (same_tree-true t u p)) | inr q ↦ q ]

not_same : (v w : Variable) → (v ≡ w → ⊥) → same_variable v w ≡ false
not_same v w d = elim (true_or_false (same_variable v w)) [ inl p ↦ absurd (d (same_variable-true v w p)) | inr q ↦ q ]

-- ---- numbers of variables

mutual
  pub low_in : (v : Variable) (t : Tree) → occurs v t ≡ true → v.id < next_number t
  low_in v (var w) h = let e : w.id ≡ v.id = ap (λ (z : Variable). z.id) (same_variable-true w v h) in omega arith
  low_in v (node f xs) h = low_each v xs h

  low_each : (v : Variable) (xs : Trees) → any_occurs v xs ≡ true → v.id < next_of_each xs
  low_each v none h = absurd (both_ways false h refl)
  low_each v (more x xs) h = elim (or-true (occurs v x) (any_occurs v xs) h) [
    | inl p ↦ (let a = low_in v x p in omega arith)
    | inr q ↦ (let a = low_each v xs q in omega arith)
  ]

low_literal : (v : Variable) (l : Lit) → lit_occurs v l ≡ true → v.id < literal_number l
low_literal v l h = elim (or-true (occurs v l.left) (occurs v l.right) h) [
  | inl p ↦ (let a = low_in v l.left p in omega arith)
  | inr q ↦ (let a = low_in v l.right q in omega arith)
]

-- a variable of a clause has a lower number than the first new one
pub low_clause : (v : Variable) (c : List Lit) → clause_occurs v c ≡ true → v.id < first_number c
low_clause v [] h = absurd (both_ways false h refl)
low_clause v (l ∷ ls) h = elim (or-true (lit_occurs v l) (clause_occurs v ls) h) [
  | inl p ↦ (let a = low_literal v l p in omega arith)
  | inr q ↦ (let a = low_clause v ls q in omega arith)
]

not_in_clause : (v : Variable) (c : List Lit) → first_number c ≤ v.id → clause_occurs v c ≡ false
not_in_clause v c h = elim (true_or_false (clause_occurs v c)) [ inl p ↦ (let a = low_clause v c p in absurd (omega arith)) | inr q ↦ q ]

not_in_term : (v : Variable) (t : Tree) → next_number t ≤ v.id → occurs v t ≡ false
not_in_term v t h = elim (true_or_false (occurs v t)) [ inl p ↦ (let a = low_in v t p in absurd (omega arith)) | inr q ↦ q ]

-- ---- kinds

-- what is not Foreground has a variable that stands for it
stands : (p : Purity) (n : ℕ) → (p ≡ Foreground → ⊥) → StandsFor (variable_for p n) p
stands Pure n h = refl
stands Impure n h = (refl, refl)
stands Foreground n h = absurd (h refl)

not_foreground : (f o : Bool) → f ≡ false → (if f then Foreground else (if o then Impure else Pure)) ≡ Foreground → ⊥
not_foreground true o h e = cc
not_foreground false true h e = cc
not_foreground false false h e = cc

module _ (S : List Symbol) where
  -- the numbers are from the first one on
  ids_from : (m n : ℕ) (ts : List Tree) → m ≤ n → EachName (λ p. m ≤ p.0.id) (numbered S n ts)
  ids_from m n [] h = tt
  ids_from m n (t ∷ ts) h = (h, ids_from m (n + 1) ts (omega arith))

  -- a fact of each term
  pub of_terms : (P : Tree → Type 0) (n : ℕ) (ts : List Tree) → EachTree P ts → EachName (λ p. P p.1) (numbered S n ts)
  of_terms P n [] h = tt
  of_terms P n (t ∷ ts) h = (h.0, of_terms P (n + 1) ts h.1)

  pub all_stand : (m n : ℕ) (ts : List Tree) → EachTree (IsTarget S m) ts → EachName (λ p. StandsFor p.0 (purity S p.1)) (numbered S n ts)
  all_stand m n [] h = tt
  all_stand m n (t ∷ ts) h =
      (stands (purity S t) n (not_foreground (foreground S t) (ordinary t) (plain_foreground S t h.0.0)), all_stand m (n + 1) ts h.1)

  pub all_distinct : (n : ℕ) (ts : List Tree) → VariablesDiffer (numbered S n ts)
  all_distinct n [] = tt
  all_distinct n (t ∷ ts) =
      let v = variable_for (purity S t) n in (
        name_weaken (λ q. n + 1 ≤ q.0.id) (λ q. v ≢ q.0)
            (λ q h e. let k : n ≡ q.0.id = ap (λ (z : Variable). z.id) e in absurd (omega arith))
            (numbered S (n + 1) ts) (ids_from (n + 1) (n + 1) ts (omega arith)),
        all_distinct (n + 1) ts,
      )

  pub all_terms_differ : (n : ℕ) (ts : List Tree) → AreDifferent ts → TermsDiffer (numbered S n ts)
  all_terms_differ n [] d = tt
  all_terms_differ n (t ∷ ts) d = (of_terms (λ u. t ≢ u) (n + 1) ts d.0, all_terms_differ (n + 1) ts d.1)

  -- the clause has none of the variables
  pub all_new : (c : List Lit) (ts : List Tree) → EachName (λ p. clause_occurs p.0 c ≡ false) (numbered S (first_number c) ts)
  all_new c ts =
      let n = first_number c in
      name_weaken (λ p. n ≤ p.0.id) (λ p. clause_occurs p.0 c ≡ false) (λ p h. not_in_clause p.0 c h) (numbered S n ts) (ids_from n n ts (omega arith))

  -- nor has a term
  pub all_apart : (n : ℕ) (ts : List Tree) → EachTree (IsTarget S n) ts → EachName (λ p. EachName (λ q. occurs p.0 q.1 ≡ false) (numbered S n ts)) (numbered S n ts)
  all_apart n ts h =
      let names = numbered S n ts in
      let low = of_terms (IsTarget S n) n ts h in
      name_weaken (λ p. n ≤ p.0.id) (λ p. EachName (λ q. occurs p.0 q.1 ≡ false) names)
      (λ p from. name_weaken (λ q. IsTarget S n q.1) (λ q. occurs p.0 q.1 ≡ false)
      (λ q is. let a = is.1 in not_in_term p.0 q.1 (omega arith)) names low)
      names (ids_from n n ts (omega arith))

  -- ---- putting back

  -- a variable of a lower number stays
  pub low_fixed : (n : ℕ) (ts : List Tree) (v : Variable) → v.id < n → put_back (numbered S n ts) v ≡ var v
  low_fixed n [] v h = refl
  low_fixed n (t ∷ ts) v h =
      let w = variable_for (purity S t) n in
      ap (λ (z : Bool). if z then t else put_back (numbered S (n + 1) ts) v) (other_variable w v (λ e. let k : n ≡ v.id = e in absurd (omega arith)))
      ∙ low_fixed (n + 1) ts v (omega arith)

  place_here : (t u : Tree) (ts : List Tree) → same_tree t u ≡ true → place u (t ∷ ts) ≡ 0
  place_here t u ts h = ap (λ (z : Bool). if z then 0 else suc (place u ts)) h

  place_behind : (t u : Tree) (ts : List Tree) → same_tree t u ≡ false → place u (t ∷ ts) ≡ suc (place u ts)
  place_behind t u ts h = ap (λ (z : Bool). if z then 0 else suc (place u ts)) h

  back_here : (n : ℕ) (t u : Tree) (ts : List Tree) → same_tree t u ≡ true → put_back (numbered S n (t ∷ ts)) (variable_of S n (t ∷ ts) u) ≡ u
  back_here n t u ts h =
      let e : t ≡ u = same_tree-true t u h in
      let w = variable_for (purity S t) n in
      let is : variable_of S n (t ∷ ts) u ≡ w =
      ap (λ (k : ℕ). variable_for (purity S u) (n + k)) (place_here t u ts h)
      ∙ ap (variable_for (purity S u)) (let none_before : n + 0 ≡ n = omega arith in none_before)
      ∙ ap (λ (z : Tree). variable_for (purity S z) n) (sym e) in
      ap (put_back (numbered S n (t ∷ ts))) is
      ∙ ap (λ (z : Bool). if z then t else put_back (numbered S (n + 1) ts) w) (same_variable-refl w)
      ∙ e

  back_behind : (n : ℕ) (t u : Tree) (ts : List Tree) → same_tree t u ≡ false → put_back (numbered S (n + 1) ts) (variable_of S (n + 1) ts u) ≡ u
      → put_back (numbered S n (t ∷ ts)) (variable_of S n (t ∷ ts) u) ≡ u
  back_behind n t u ts h back =
      let w = variable_for (purity S t) n in
      let x = variable_of S (n + 1) ts u in
      let numbers : n + suc (place u ts) ≡ (n + 1) + place u ts = omega arith in
      let is : variable_of S n (t ∷ ts) u ≡ x =
      ap (λ (k : ℕ). variable_for (purity S u) (n + k)) (place_behind t u ts h) ∙ ap (variable_for (purity S u)) numbers in
      ap (put_back (numbered S n (t ∷ ts))) is
      ∙ ap (λ (z : Bool). if z then t else put_back (numbered S (n + 1) ts) x)
      (other_variable w x (λ e. let k : n ≡ (n + 1) + place u ts = e in absurd (omega arith)))
      ∙ back

  -- the variable of one of the terms goes back to it
  pub goes_back : (n : ℕ) (ts : List Tree) (u : Tree) → IsAmong u ts → put_back (numbered S n ts) (variable_of S n ts u) ≡ u
  goes_back n [] u m = absurd m
  goes_back n (t ∷ ts) u m = elim (true_or_false (same_tree t u)) [
    | inl h ↦ back_here n t u ts h
    | inr h ↦ back_behind n t u ts h (elim m [
      | inl e ↦ absurd (both_ways (same_tree t u) (ap (same_tree t) (sym e) ∙ same_tree-refl t) h)
      | inr k ↦ goes_back (n + 1) ts u k
    ])
  ]

  -- each of the names is that of its term
  pub all_placed : (n : ℕ) (ts : List Tree) → AreDifferent ts → EachName (λ p. p.0 ≡ variable_of S n ts p.1) (numbered S n ts)
  all_placed n [] d = tt
  all_placed n (t ∷ ts) d = (
    sym (ap (λ (k : ℕ). variable_for (purity S t) (n + k)) (place_here t t ts (same_tree-refl t))
        ∙ ap (variable_for (purity S t)) (let none_before : n + 0 ≡ n = omega arith in none_before)),
    name_both (λ p. t ≢ p.1) (λ p. p.0 ≡ variable_of S (n + 1) ts p.1) (λ p. p.0 ≡ variable_of S n (t ∷ ts) p.1)
        (λ p other e. e ∙ sym (
        ap (λ (k : ℕ). variable_for (purity S p.1) (n + k)) (place_behind t p.1 ts (not_same_tree t p.1 other))
        ∙ ap (variable_for (purity S p.1)) (let numbers : n + suc (place p.1 ts) ≡ (n + 1) + place p.1 ts = omega arith in numbers)))
        (numbered S (n + 1) ts) (of_terms (λ u. t ≢ u) (n + 1) ts d.0) (all_placed (n + 1) ts d.1),
  )

-- where no two variables are one, each goes back to its term
distinct_back : (ps : List (Variable × Tree)) → VariablesDiffer ps → EachName (λ p. put_back ps p.0 ≡ p.1) ps
distinct_back [] d = tt
distinct_back (p ∷ ps) d = (
  ap (λ (z : Bool). if z then p.1 else put_back ps p.0) (same_variable-refl p.0),
  name_both (λ q. p.0 ≢ q.0) (λ q. put_back ps q.0 ≡ q.1) (λ q. put_back (p ∷ ps) q.0 ≡ q.1)
      (λ q other back. ap (λ (z : Bool). if z then p.1 else put_back ps q.0) (not_same p.0 q.0 other) ∙ back)
      ps d.0 (distinct_back ps d.1),
)

definitions_back : (s : Variable → Tree) (ps : List (Variable × Tree)) → EachName (λ p. s p.0 ≡ p.1) ps → EachName (λ p. put_in s p.1 ≡ p.1) ps
    → put_clause s (map definition ps) ≡ map from_itself ps
definitions_back s [] h k = refl
definitions_back s (p ∷ ps) h k =
    ap (λ (z : Tree). disequation z (put_in s p.1) ∷ put_clause s (map definition ps)) h.0
    ∙ ap (λ (z : Tree). disequation p.1 z ∷ put_clause s (map definition ps)) k.0
    ∙ ap (λ (z : List Lit). from_itself p ∷ z) (definitions_back s ps h.1 k.1)

-- the literals x != t become t != t
pub all_back : (S : List Symbol) (n : ℕ) (ts : List Tree) → EachTree (IsTarget S n) ts
    → EachName (λ p. put_in (put_back (numbered S n ts)) p.1 ≡ p.1) (numbered S n ts)
    → put_clause (put_back (numbered S n ts)) (map definition (numbered S n ts)) ≡ map from_itself (numbered S n ts)
all_back S n ts h stay = definitions_back (put_back (numbered S n ts)) (numbered S n ts) (distinct_back (numbered S n ts) (all_distinct S n ts)) stay

-- each literal x != t is well sorted
pub all_sorted : (S : List Symbol) (m n : ℕ) (ts : List Tree) → EachTree (IsTarget S m) ts → is_well_sorted S (map definition (numbered S n ts)) ≡ true
all_sorted S m n [] h = refl
all_sorted S m n (t ∷ ts) h =
    ap (λ (z : Bool). z && is_well_sorted S (map definition (numbered S (n + 1) ts))) (plain_integer S t h.0.0)
    ∙ all_sorted S m (n + 1) ts h.1
