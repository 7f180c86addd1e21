-- An abstraction as a step is an abstraction: its literals x != t give the names.
use Rattle.std.specs.Prelude.{◌≡◌, ◌≢◌, true, false, not, ◌&&◌, List, [], ◌∷◌, ◌++◌, map, take, drop, length}
use Rattle.std.specs.List.{list_all}
use Rattle.std.proofs.Common.{refl, sym, ◌∙◌, ap, subst}
use Rattle.std.proofs.lemmas.List.{map-append, take-append-drop}
use Rattle.std.proofs.lemmas.Bool.{not-true}
use Rattle.term_base.specs.declared.symbols.Sort.TheVariants.{Int}
use Rattle.term_base.specs.declared.symbols.Symbol.{Symbol}
use Rattle.term_base.specs.declared.terms.Purity.{Purity}
use Rattle.term_base.specs.declared.terms.Purity.TheVariants.{Pure, Impure, Foreground}
use Rattle.term_base.specs.declared.variables.Kind.{Kind}
use Rattle.term_base.specs.declared.variables.Kind.TheVariants.{Abstraction, Ordinary}
use Rattle.term_base.specs.declared.variables.Variable.{Variable}
use Rattle.term_base.specs.Same.{same_kind, same_sort, same_variable}
use Rattle.term_base.specs.SameLemmas.{same_kind-true, same_sort-true, same_variable-refl}
use Rattle.term_base.specs.Trees.{Tree, var, node, same_tree, occurs}
use Rattle.term_base.specs.TreeLemmas.{and-true, same_tree-true}
use Rattle.term_base.specs.Purity.{purity}
use Rattle.term_base.specs.Lits.{Relation, equal, differ, at_most, Lit, put_lit, put_clause, clause_occurs}
use Rattle.weak_abstraction.specs.Abstraction as weak
use Rattle.weak_abstraction.specs.Abstraction.{EachName, StandsFor, VariablesDiffer, IsAbstraction, definition, from_itself}
use Rattle.step_rules.specs.Literals.{same_relation, same_lit, same_lits}
use Rattle.step_rules.specs.Abstraction.{stands_for, is_apart, is_named, is_disequation, is_definition, differs_from_all, are_distinct, put_back, goes_back, puts_back, abstracts, is_abstraction}
use Rattle.proof_steps.proofs.Abstractions.{put_clause-agree, back-agree}

abbrev Names : Type 0
Names = List (Variable × Tree)

-- ---- literals that are one
same_relation-true : (r s : Relation) → same_relation r s ≡ true → r ≡ s
same_relation-true equal equal h = refl
same_relation-true differ differ h = refl
same_relation-true at_most at_most h = refl
same_relation-true _ _ h = cc

same_lit-true : (l m : Lit) → same_lit l m ≡ true → l ≡ m
same_lit-true l m h =
    let one = and-true (same_relation l.relation m.relation) (same_tree l.left m.left && same_tree l.right m.right) h in
    let two = and-true (same_tree l.left m.left) (same_tree l.right m.right) one.1 in
    let relations : l.relation ≡ m.relation = same_relation-true l.relation m.relation one.0 in
    let lefts : l.left ≡ m.left = same_tree-true l.left m.left two.0 in
    let rights : l.right ≡ m.right = same_tree-true l.right m.right two.1 in
    ap (λ r. let k : Lit = record { relation = r; left = l.left; right = l.right } in k) relations
    ∙ ap (λ t. let k : Lit = record { relation = m.relation; left = t; right = l.right } in k) lefts
    ∙ ap (λ t. let k : Lit = record { relation = m.relation; left = m.left; right = t } in k) rights

same_lits-true : (ls ms : List Lit) → same_lits ls ms ≡ true → ls ≡ ms
same_lits-true [] [] h = refl
same_lits-true (l ∷ ls) (m ∷ ms) h =
    let two = and-true (same_lit l m) (same_lits ls ms) h in
    ap (λ k. k ∷ ls) (same_lit-true l m two.0) ∙ ap (λ ks. m ∷ ks) (same_lits-true ls ms two.1)
same_lits-true _ _ h = cc

-- ---- the names of literals x != t
abbrev names_from : Tree → Tree → Names → Names
names_from (var v) t ns = (v, t) ∷ ns
names_from (node f xs) t ns = ns

abbrev names_of : List Lit → Names
names_of [] = []
names_of (l ∷ ls) = names_from l.left l.right (names_of ls)

module _ (signature : List Symbol) (c all : List Lit) where
  named-back : (r : Relation) (s t : Tree) (ns : Names) → (is_disequation r && is_named signature c all s t) ≡ true →
      map definition (names_from s t ns) ≡ record { relation = r; left = s; right = t } ∷ map definition ns
  named-back differ (var v) t ns h = refl
  named-back differ (node f xs) t ns h = cc
  named-back equal s t ns h = cc
  named-back at_most s t ns h = cc

  names-back : (ds : List Lit) → list_all (is_definition signature c all) ds ≡ true → map definition (names_of ds) ≡ ds
  names-back [] h = refl
  names-back (l ∷ ls) h =
      let two = and-true (is_definition signature c all l) (list_all (is_definition signature c all) ls) h in
      named-back l.relation l.left l.right (names_of ls) two.0 ∙ ap (λ ms. l ∷ ms) (names-back ls two.1)

-- ---- what the tests tell of the names
ordinary_kind : (k : Kind) → not (same_kind k Abstraction) ≡ true → k ≡ Ordinary
ordinary_kind Abstraction h = cc
ordinary_kind Ordinary h = refl

fits-back : (v : Variable) (p : Purity) → stands_for v p ≡ true → StandsFor v p
fits-back v Pure h = same_kind-true v.kind Abstraction h
fits-back v Impure h =
    let two = and-true (not (same_kind v.kind Abstraction)) (same_sort v.sort Int) h in
    (ordinary_kind v.kind two.0, same_sort-true v.sort Int two.1)
fits-back v Foreground h = cc

apart-back : (v : Variable) (ns : Names) → is_apart (map definition ns) v ≡ true → EachName (λ q. occurs v q.1 ≡ false) ns
apart-back v [] h = tt
apart-back v (q ∷ ns) h =
    let two = and-true (not (occurs v q.1)) (is_apart (map definition ns) v) h in
    (not-true (occurs v q.1) two.0, apart-back v ns two.1)

module _ (signature : List Symbol) (c : List Lit) (all : Names) where
  abbrev Told : Variable × Tree → Type 0
  Told p = StandsFor p.0 (purity signature p.1) × ((clause_occurs p.0 c ≡ false) × EachName (λ q. occurs p.0 q.1 ≡ false) all)

  told-one : (p : Variable × Tree) → is_definition signature c (map definition all) (definition p) ≡ true → Told p
  told-one p h =
      let one = and-true (stands_for p.0 (purity signature p.1)) (not (clause_occurs p.0 c) && is_apart (map definition all) p.0) h in
      let two = and-true (not (clause_occurs p.0 c)) (is_apart (map definition all) p.0) one.1 in
      (fits-back p.0 (purity signature p.1) one.0, (not-true (clause_occurs p.0 c) two.0, apart-back p.0 all two.1))

  told-each : (ns : Names) → list_all (is_definition signature c (map definition all)) (map definition ns) ≡ true → EachName Told ns
  told-each [] h = tt
  told-each (p ∷ ns) h =
      let two = and-true (is_definition signature c (map definition all) (definition p)) (list_all (is_definition signature c (map definition all)) (map definition ns)) h in
      (told-one p two.0, told-each ns two.1)

  kinds-of : (ns : Names) → EachName Told ns → EachName (λ p. StandsFor p.0 (purity signature p.1)) ns
  kinds-of [] h = tt
  kinds-of (p ∷ ns) h = (h.0.0, kinds-of ns h.1)

  new-of : (ns : Names) → EachName Told ns → EachName (λ p. clause_occurs p.0 c ≡ false) ns
  new-of [] h = tt
  new-of (p ∷ ns) h = (h.0.1.0, new-of ns h.1)

  apart-of : (ns : Names) → EachName Told ns → EachName (λ p. EachName (λ q. occurs p.0 q.1 ≡ false) all) ns
  apart-of [] h = tt
  apart-of (p ∷ ns) h = (h.0.1.1, apart-of ns h.1)

different-back : (v w : Variable) → not (same_variable v w) ≡ true → v ≢ w
different-back v w h = λ e.
    let same : same_variable v w ≡ true = ap (same_variable v) (sym e) ∙ same_variable-refl v in
    let other : same_variable v w ≡ false = not-true (same_variable v w) h in cc

differs-back : (p : Variable × Tree) (ns : Names) → differs_from_all (definition p) (map definition ns) ≡ true → EachName (λ q. p.0 ≢ q.0) ns
differs-back p [] h = tt
differs-back p (q ∷ ns) h =
    let two = and-true (not (same_variable p.0 q.0)) (differs_from_all (definition p) (map definition ns)) h in
    (different-back p.0 q.0 two.0, differs-back p ns two.1)

distinct-back : (ns : Names) → are_distinct (map definition ns) ≡ true → VariablesDiffer ns
distinct-back [] h = tt
distinct-back (p ∷ ns) h =
    let two = and-true (differs_from_all (definition p) (map definition ns)) (are_distinct (map definition ns)) h in
    (differs-back p ns two.0, distinct-back ns two.1)

-- ---- putting back
module _ (ds : List Lit) where
  goes-back-one : (p : Variable × Tree) → goes_back ds (definition p) ≡ true → put_lit (put_back ds) (definition p) ≡ from_itself p
  goes-back-one p h = same_lit-true (put_lit (put_back ds) (definition p)) (from_itself p) h

  go-back-all : (ns : Names) → list_all (goes_back ds) (map definition ns) ≡ true → put_clause (put_back ds) (map definition ns) ≡ map from_itself ns
  go-back-all [] h = refl
  go-back-all (p ∷ ns) h =
      let two = and-true (goes_back ds (definition p)) (list_all (goes_back ds) (map definition ns)) h in
      ap (λ k. k ∷ put_clause (put_back ds) (map definition ns)) (goes-back-one p two.0) ∙ ap (λ ks. from_itself p ∷ ks) (go-back-all ns two.1)

module _ (signature : List Symbol) (c body : List Lit) (ns : Names) (h : abstracts signature c body (map definition ns) ≡ true) where
  abbrev ds : List Lit
  ds = map definition ns

  tests : ((list_all (is_definition signature c ds) ds && are_distinct ds) ≡ true) × (puts_back c body ds ≡ true)
  tests = and-true (list_all (is_definition signature c ds) ds && are_distinct ds) (puts_back c body ds) h

  firsts : (list_all (is_definition signature c ds) ds ≡ true) × (are_distinct ds ≡ true)
  firsts = and-true (list_all (is_definition signature c ds) ds) (are_distinct ds) tests.0

  lasts : (same_lits (put_clause (put_back ds) body) c ≡ true) × (list_all (goes_back ds) ds ≡ true)
  lasts = and-true (same_lits (put_clause (put_back ds) body) c) (list_all (goes_back ds) ds) tests.1

  whole : put_clause (weak.put_back ns) (body ++ ds) ≡ c ++ map from_itself ns
  whole =
      sym (put_clause-agree (put_back ds) (weak.put_back ns) (back-agree ns) (body ++ ds))
      ∙ map-append (put_lit (put_back ds)) body ds
      ∙ ap (λ ks. ks ++ put_clause (put_back ds) ds) (same_lits-true (put_clause (put_back ds) body) c lasts.0)
      ∙ ap (λ ks. c ++ ks) (go-back-all ds ns lasts.1)

  of-names : (d : List Lit) → d ≡ body ++ ds → IsAbstraction signature c d
  of-names d shape =
      let told = told-each signature c ns ns firsts.0 in record {
        names = ns;
        body = body;
        shape = shape;
        kinds = kinds-of signature c ns ns told;
        distinct = distinct-back ns firsts.1;
        new = new-of signature c ns ns told;
        apart = apart-of signature c ns ns told;
        back = ap (put_clause (weak.put_back ns)) shape ∙ whole;
      }

-- an abstraction as a step is an abstraction
pub from_step : (signature : List Symbol) (c d : List Lit) → is_abstraction signature c d ≡ true → IsAbstraction signature c d
from_step signature c d h =
    let body = take (length c) d in
    let rest = drop (length c) d in
    let one = and-true (list_all (is_definition signature c rest) rest && are_distinct rest) (puts_back c body rest) h in
    let two = and-true (list_all (is_definition signature c rest) rest) (are_distinct rest) one.0 in
    let ns = names_of rest in
    let is : map definition ns ≡ rest = names-back signature c rest rest two.0 in
    of-names signature c body ns (subst (λ ds. abstracts signature c body ds ≡ true) (sym is) h) d
    (sym (take-append-drop (length c) d) ∙ ap (λ ks. body ++ ks) (sym is))
