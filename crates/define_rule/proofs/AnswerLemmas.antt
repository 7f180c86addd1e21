-- What is said of the next term: its form and its sort.
use Rattle.std.proofs.Common.{◌≡◌, ◌⊎◌, inl, inr, Result, Ok, Err, IfOk, Bool, true, false, ◌&&◌, List, [], ◌∷◌, ◌++◌, if◌then◌else◌, refl, ap, sym, ◌∙◌, subst}
use Rattle.std.specs.Prelude.{Option, Some, None, IfSome, option_map}
use Rattle.std.specs.Option.{is_some, option_or, option_map_or}
use Rattle.term_base.specs.declared.symbols.Sort.{Sort}
use Rattle.term_base.specs.declared.symbols.Sort.TheVariants.{Int}
use Rattle.term_base.specs.declared.symbols.Symbol.{Symbol}
use Rattle.term_base.specs.declared.terms.Term.{Term}
use Rattle.term_base.specs.declared.variables.Variable.{Variable}
use Rattle.term_base.specs.Same.{same_sort, same_variable}
use Rattle.term_base.specs.SameLemmas.{same_sort-true, same_variable-true}
use Rattle.term_base.specs.SimpleTest.{is_pure_tree}
use Rattle.term_base.specs.Trees.{Tree, Trees, var, node, none, more, tree}
use Rattle.term_base.specs.TreeLemmas.{and-true, both_ways}
use Rattle.term_base.specs.Sorting.{has_sort, have_sorts, arity, result_sort, sort, sorts}
use Rattle.term_base.specs.Purity.{foreground_head}
use Rattle.term_base.specs.Substitution.{put_in, put_all}
use Rattle.term_base.specs.SubstLemmas.{sort-put_in}
use Rattle.term_base.specs.Lits.{Relation, equal, differ, at_most, Lit, put_clause}
use Rattle.term_base.specs.Clauses.{are_alike, are_sides, is_lit_sorted, is_well_sorted}
use Rattle.define_rule.specs.Pins.{is_ground, are_ground, is_pin, pin_in, pinned, pin, is_pinned, are_pinned}
use Rattle.define_rule.specs.Form.{is_ground_application}
use Rattle.define_rule.specs.NextTerm.{subterms, subterms_of_each, in_order, is_integer_head, is_definable, first_definable, is_definition, without_trivial, next_term}

-- ---- choices

pub chosen : (b : Bool) (t g : Tree) → (if b then Some t else None) ≡ Some g → (b ≡ true) × (t ≡ g)
chosen true t g h = let e : t ≡ g = cc in (refl, e)
chosen false t g h = cc

pub or_some : (o p : Option Tree) (g : Tree) → option_or o p ≡ Some g → (o ≡ Some g) ⊎ (p ≡ Some g)
or_some None p g h = inr h
or_some (Some t) p g h = inl h

mapped : (f : Tree → Tree) (o : Option Tree) (u : Tree) → option_map f o ≡ Some u → (t : Tree) × ((o ≡ Some t) × (f t ≡ u))
mapped f None u h = cc
mapped f (Some t) u h = let e : f t ≡ u = cc in (t, (refl, e))

otherwise : (b : Bool) (o : Option Tree) (u : Tree) → (if b then None else o) ≡ Some u → o ≡ Some u
otherwise true o u h = cc
otherwise false o u h = h

-- ---- sorts

has_sort-true : (o : Option Sort) (s : Sort) → has_sort o s ≡ true → o ≡ Some s
has_sort-true None s h = cc
has_sort-true (Some r) s h = ap Some (same_sort-true r s h)

fits : (b : Bool) (r s : Sort) → (if b then Some r else None) ≡ Some s → b ≡ true
fits true r s h = refl
fits false r s h = cc

abbrev Has : Option Sort → Type 0
Has o = (s : Sort) × (o ≡ Some s)

alike_sorted : (o p : Option Sort) → are_alike o p ≡ true → Has o × Has p
alike_sorted None p h = absurd (both_ways false h refl)
alike_sorted (Some r) p h = ((r, refl), (r, has_sort-true p r h))

sides_sorted : (r : Relation) (o p : Option Sort) → are_sides r o p ≡ true → Has o × Has p
sides_sorted equal o p h = alike_sorted o p h
sides_sorted differ o p h = alike_sorted o p h
sides_sorted at_most o p h =
    let two = and-true (has_sort o Int) (has_sort p Int) h in
    ((Int, has_sort-true o Int two.0), (Int, has_sort-true p Int two.1))

-- a fact of each tree of a list
abbrev pub EachOf : (Tree → Type 0) → List Tree → Type 0
EachOf P [] = Unit {0}
EachOf P (t ∷ ts) = P t × EachOf P ts

pub each_append : (P : Tree → Type 0) (ts us : List Tree) → EachOf P ts → EachOf P us → EachOf P (ts ++ us)
each_append P [] us p q = q
each_append P (t ∷ ts) us p q = (p.0, each_append P ts us p.1 q)

module _ (S : List Symbol) where
  abbrev Sorted : Tree → Type 0
  Sorted t = Has (sort S t)

  mutual
    each_sorted : (t : Tree) (r : Sort) → sort S t ≡ Some r → EachOf Sorted (subterms t)
    each_sorted (var v) r h = ((r, h), tt)
    each_sorted (node f xs) r h =
        each_append Sorted (subterms_of_each xs) (node f xs ∷ [])
        (all_sorted xs (arity S f) (fits (have_sorts (sorts S xs) (arity S f)) (result_sort S f) r h)) ((r, h), tt)

    all_sorted : (xs : Trees) (ss : List Sort) → have_sorts (sorts S xs) ss ≡ true → EachOf Sorted (subterms_of_each xs)
    all_sorted none ss h = tt
    all_sorted (more x xs) [] h = absurd (both_ways false h refl)
    all_sorted (more x xs) (s ∷ ss) h =
        let two = and-true (has_sort (sort S x) s) (have_sorts (sorts S xs) ss) h in
        each_append Sorted (subterms x) (subterms_of_each xs) (each_sorted x s (has_sort-true (sort S x) s two.0)) (all_sorted xs ss two.1)

  -- the subterms of a well sorted clause are well sorted
  clause_sorted : (c : List Lit) → is_well_sorted S c ≡ true → EachOf Sorted (in_order c)
  clause_sorted [] h = tt
  clause_sorted (l ∷ ls) h =
      let two = and-true (is_lit_sorted S l) (is_well_sorted S ls) h in
      let sides = sides_sorted l.relation (sort S l.left) (sort S l.right) two.0 in
      each_append Sorted (subterms l.left) (subterms l.right ++ in_order ls) (each_sorted l.left sides.0.0 sides.0.1)
      (each_append Sorted (subterms l.right) (in_order ls) (each_sorted l.right sides.1.0 sides.1.1) (clause_sorted ls two.1))

  -- ---- pinned terms

  by_variable : (v x : Variable) (t g : Tree) → (if same_variable x v && is_pin S t then Some t else None) ≡ Some g
      → (is_pin S g ≡ true) × (has_sort (sort S t) x.sort ≡ true → sort S g ≡ Some v.sort)
  by_variable v x t g h =
      let k = chosen (same_variable x v && is_pin S t) t g h in
      let two = and-true (same_variable x v) (is_pin S t) k.0 in
      let e : t ≡ g = k.1 in (
        ap (is_pin S) (sym e) ∙ two.1,
        (λ alike. ap (sort S) (sym e) ∙ has_sort-true (sort S t) x.sort alike ∙ ap (λ (u : Variable). Some u.sort) (same_variable-true x v two.0)),
      )

  pin_in-some : (v : Variable) (r : Relation) (s t g : Tree) → pin_in S v r s t ≡ Some g
      → (is_pin S g ≡ true) × (are_sides r (sort S s) (sort S t) ≡ true → sort S g ≡ Some v.sort)
  pin_in-some v equal s t g h = cc
  pin_in-some v at_most s t g h = cc
  pin_in-some v differ (node f xs) t g h = cc
  pin_in-some v differ (var x) t g h = by_variable v x t g h

  pinned-some : (c : List Lit) (v : Variable) (g : Tree) → pinned S c v ≡ Some g → (is_pin S g ≡ true) × (is_well_sorted S c ≡ true → sort S g ≡ Some v.sort)
  pinned-some [] v g h = cc
  pinned-some (l ∷ ls) v g h = elim (or_some (pin_in S v l.relation l.left l.right) (pinned S ls v) g h) [
    | inl a ↦ (let k = pin_in-some v l.relation l.left l.right g a in (k.0, (λ w. k.1 (and-true (is_lit_sorted S l) (is_well_sorted S ls) w).0)))
    | inr b ↦ (let k = pinned-some ls v g b in (k.0, (λ w. k.1 (and-true (is_lit_sorted S l) (is_well_sorted S ls) w).1)))
  ]

  module _ (c : List Lit) where
    sort_of : is_well_sorted S c ≡ true → (v : Variable) (o : Option Tree) → pinned S c v ≡ o → sort S (option_map_or (λ g. g) o (var v)) ≡ Some v.sort
    sort_of w v None e = refl
    sort_of w v (Some g) e = (pinned-some c v g e).1 w

    -- a pinned term has the sort of its variable
    pin_sort : is_well_sorted S c ≡ true → (v : Variable) → sort S (pin S c v) ≡ Some v.sort
    pin_sort w v = sort_of w v (pinned S c v) refl

    closed_of : (v : Variable) (o : Option Tree) → pinned S c v ≡ o → is_some o ≡ true → is_ground (option_map_or (λ g. g) o (var v)) ≡ true
    closed_of v None e h = absurd (both_ways false h refl)
    closed_of v (Some g) e h = (and-true (is_ground g) (is_pure_tree S g) (pinned-some c v g e).0).0

    mutual
      -- no variable is left where all are pinned
      closed_put : (t : Tree) → is_pinned S c t ≡ true → is_ground (put_in (pin S c) t) ≡ true
      closed_put (var v) h = closed_of v (pinned S c v) refl h
      closed_put (node f xs) h = closed_all xs h

      closed_all : (xs : Trees) → are_pinned S c xs ≡ true → are_ground (put_all (pin S c) xs) ≡ true
      closed_all none h = refl
      closed_all (more x xs) h =
          let two = and-true (is_pinned S c x) (are_pinned S c xs) h in
          ap (λ (b : Bool). b && are_ground (put_all (pin S c) xs)) (closed_put x two.0) ∙ closed_all xs two.1

    -- ---- the first term to define

    first_case : (P : Tree → Type 0) (u : Tree) (o : Option Tree) (t : Tree) → (o ≡ Some t → (is_definable S c t ≡ true) × P t) → P u
        → (b : Bool) → is_definable S c u ≡ b → (if b then Some u else o) ≡ Some t → (is_definable S c t ≡ true) × P t
    first_case P u o t rest p true d h = let e : u ≡ t = cc in subst (λ (z : Tree). (is_definable S c z ≡ true) × P z) e (d, p)
    first_case P u o t rest p false d h = rest h

    pub first-some : (P : Tree → Type 0) (ts : List Tree) → EachOf P ts → (t : Tree) → first_definable S c ts ≡ Some t → (is_definable S c t ≡ true) × P t
    first-some P [] each t h = cc
    first-some P (u ∷ us) each t h =
        first_case P u (first_definable S c us) t (first-some P us each.1 t) each.0 (is_definable S c u) refl h

    form_of : (t : Tree) → is_definable S c t ≡ true → is_ground_application S (put_in (pin S c) t) ≡ true
    form_of (var v) d = absurd (both_ways false d refl)
    form_of (node f xs) d =
        let two = and-true (is_integer_head S f) (are_pinned S c xs) d in
        ap (λ (b : Bool). b && are_ground (put_all (pin S c) xs)) two.0 ∙ closed_all xs two.1

    integer_sort : (t : Tree) → is_definable S c t ≡ true → Sorted t → sort S t ≡ Some Int
    integer_sort (var v) d has = absurd (both_ways false d refl)
    integer_sort (node f xs) d has =
        let two = and-true (is_integer_head S f) (are_pinned S c xs) d in
        let head = and-true (foreground_head S f) (same_sort (result_sort S f) Int) two.0 in
        ap (λ (b : Bool). if b then Some (result_sort S f) else None) (fits (have_sorts (sorts S xs) (arity S f)) (result_sort S f) has.0 has.1)
        ∙ ap Some (same_sort-true (result_sort S f) Int head.1)

    each_nothing : (ts : List Tree) → EachOf (λ t. Unit {0}) ts
    each_nothing [] = tt
    each_nothing (t ∷ ts) = (tt, each_nothing ts)

    -- the next term comes from a term of the clause
    pub from_clause : (u : Tree) → next_term S c ≡ Some u → (t : Tree) × ((first_definable S c (in_order c) ≡ Some t) × (put_in (pin S c) t ≡ u))
    from_clause u h =
        mapped (put_in (pin S c)) (first_definable S c (in_order c)) u
        (otherwise (is_definition S (without_trivial (put_clause (pin S c) c))) (option_map (put_in (pin S c)) (first_definable S c (in_order c))) u h)

    next_form : (u : Tree) → next_term S c ≡ Some u → is_ground_application S u ≡ true
    next_form u h =
        let f = from_clause u h in
        let d = first-some (λ t. Unit {0}) (in_order c) (each_nothing (in_order c)) f.0 f.1.0 in
        ap (is_ground_application S) (sym f.1.1) ∙ form_of f.0 d.0

    next_sort : is_well_sorted S c ≡ true → (u : Tree) → next_term S c ≡ Some u → sort S u ≡ Some Int
    next_sort w u h =
        let f = from_clause u h in
        let d = first-some Sorted (in_order c) (clause_sorted c w) f.0 f.1.0 in
        ap (sort S) (sym f.1.1) ∙ sort-put_in S (pin S c) (pin_sort w) f.0 ∙ integer_sort f.0 d.0 d.1

    -- ---- the answer of the code

    of_found : (P : Tree → Type 0) → ((u : Tree) → next_term S c ≡ Some u → P u) → (o : Option Term) → option_map tree o ≡ next_term S c → IfSome o (λ t. P (tree t))
    of_found P each None e = tt
    of_found P each (Some t) e = each (tree t) (sym e)

    pub of_answer : {E : Type 0} (P : Tree → Type 0) → ((u : Tree) → next_term S c ≡ Some u → P u)
        → (r : Result (Option Term) E) → IfOk r (λ o. option_map tree o ≡ next_term S c) → IfOk r (λ o. IfSome o (λ t. P (tree t)))
    of_answer P each (Ok o) e = of_found P each o e
    of_answer P each (Err x) e = tt

    pub answer_form : {E : Type 0} (r : Result (Option Term) E) → IfOk r (λ o. option_map tree o ≡ next_term S c) → IfOk r (λ o. IfSome o (λ t. is_ground_application S (tree t) ≡ true))
    answer_form r e = of_answer (λ (u : Tree). is_ground_application S u ≡ true) next_form r e

    pub answer_sort : {E : Type 0} (r : Result (Option Term) E) → IfOk r (λ o. option_map tree o ≡ next_term S c) → is_well_sorted S c ≡ true → IfOk r (λ o. IfSome o (λ t. sort S (tree t) ≡ Some Int))
    answer_sort r e w = of_answer (λ (u : Tree). sort S u ≡ Some Int) (next_sort w) r e
