-- An abstraction is one as a step.
use Rattle.std.specs.Prelude.{◌≡◌, ◌≢◌, ◌+◌, true, false, not, List, [], ◌∷◌, ◌++◌, map, take, drop, length, if◌then◌else◌}
use Rattle.std.specs.List.{list_all}
use Rattle.std.proofs.Common.{refl, sym, ◌∙◌, ap, arith, inl, inr, length-append}
use Rattle.std.proofs.Math.Seq.{take-append_seam, drop-append_seam}
use Rattle.std.proofs.lemmas.List.{map-append, length-map}
use Rattle.std.proofs.lemmas.Bool.{and_from}
use Rattle.term_base.specs.declared.symbols.Sort.TheVariants.{Int}
use Rattle.term_base.specs.declared.symbols.Symbol.{Symbol}
use Rattle.term_base.specs.declared.terms.Purity.{Purity}
use Rattle.term_base.specs.declared.terms.Purity.TheVariants.{Pure, Impure, Foreground}
use Rattle.term_base.specs.declared.variables.Kind.TheVariants.{Abstraction}
use Rattle.term_base.specs.declared.variables.Variable.{Variable}
use Rattle.term_base.specs.Same.{same_kind, same_sort, same_variable}
use Rattle.term_base.specs.SameLemmas.{same_variable-true}
use Rattle.term_base.specs.Trees.{Tree, Trees, var, node, none, more, same_tree, occurs}
use Rattle.term_base.specs.TreeLemmas.{same_tree-refl, true_or_false}
use Rattle.term_base.specs.Purity.{purity}
use Rattle.term_base.specs.Substitution.{put_in, put_all}
use Rattle.term_base.specs.Lits.{Relation, equal, differ, at_most, Lit, put_lit, put_clause, clause_occurs}
use Rattle.weak_abstraction.specs.Abstraction as weak
use Rattle.weak_abstraction.specs.Abstraction.{EachName, StandsFor, VariablesDiffer, IsAbstraction, definition, from_itself}
use Rattle.step_rules.specs.Literals.{same_relation, same_lit, same_lits}
use Rattle.step_rules.specs.Abstraction.{stands_for, is_apart, is_definition, differs_from_all, are_distinct, put_back, goes_back, abstracts, is_abstraction}

abbrev Names : Type 0
Names = List (Variable × Tree)

-- ---- literals that are one
same_relation-refl : (r : Relation) → same_relation r r ≡ true
same_relation-refl equal = refl
same_relation-refl differ = refl
same_relation-refl at_most = refl

same_lit-refl : (l : Lit) → same_lit l l ≡ true
same_lit-refl l = and_from _ _ (same_relation-refl l.relation) (and_from _ _ (same_tree-refl l.left) (same_tree-refl l.right))

same_lits-refl : (ls : List Lit) → same_lits ls ls ≡ true
same_lits-refl [] = refl
same_lits-refl (l ∷ ls) = and_from _ _ (same_lit-refl l) (same_lits-refl ls)

same_lits-equal : (ls ms : List Lit) → ls ≡ ms → same_lits ls ms ≡ true
same_lits-equal ls ms e = ap (same_lits ls) (sym e) ∙ same_lits-refl ls

-- ---- substitutions that agree
module _ (r s : Variable → Tree) (agree : (v : Variable) → r v ≡ s v) where
  mutual
    put_in-agree : (t : Tree) → put_in r t ≡ put_in s t
    put_in-agree (var v) = agree v
    put_in-agree (node f xs) = ap (node f) (put_all-agree xs)

    put_all-agree : (xs : Trees) → put_all r xs ≡ put_all s xs
    put_all-agree none = refl
    put_all-agree (more x xs) = ap (λ y. more y (put_all r xs)) (put_in-agree x) ∙ ap (more (put_in s x)) (put_all-agree xs)

  put_lit-agree : (l : Lit) → put_lit r l ≡ put_lit s l
  put_lit-agree l =
      ap (λ a. let m : Lit = record { relation = l.relation; left = a; right = put_in r l.right } in m) (put_in-agree l.left)
      ∙ ap (λ b. let m : Lit = record { relation = l.relation; left = put_in s l.left; right = b } in m) (put_in-agree l.right)

  pub put_clause-agree : (ls : List Lit) → put_clause r ls ≡ put_clause s ls
  put_clause-agree [] = refl
  put_clause-agree (l ∷ ls) = ap (λ m. m ∷ put_clause r ls) (put_lit-agree l) ∙ ap (λ ms. put_lit s l ∷ ms) (put_clause-agree ls)

-- the literals x != t put the same back as the names
pub back-agree : (ns : Names) (v : Variable) → put_back (map definition ns) v ≡ weak.put_back ns v
back-agree [] v = refl
back-agree (p ∷ ns) v = ap (λ t. if same_variable p.0 v then p.1 else t) (back-agree ns v)

-- ---- names that fit and are new
fits : (v : Variable) (p : Purity) → StandsFor v p → stands_for v p ≡ true
fits v Pure h = ap (λ k. same_kind k Abstraction) h
fits v Impure h = and_from _ _ (ap (λ k. not (same_kind k Abstraction)) h.0) (ap (λ s. same_sort s Int) h.1)
fits v Foreground h = absurd h

apart-all : (v : Variable) (ns : Names) → EachName (λ q. occurs v q.1 ≡ false) ns → is_apart (map definition ns) v ≡ true
apart-all v [] h = refl
apart-all v (q ∷ ns) h = and_from _ _ (ap not h.0) (apart-all v ns h.1)

module _ (signature : List Symbol) (c : List Lit) (all : Names) where
  defined-all : (ns : Names) → EachName (λ p. StandsFor p.0 (purity signature p.1)) ns → EachName (λ p. clause_occurs p.0 c ≡ false) ns →
      EachName (λ p. EachName (λ q. occurs p.0 q.1 ≡ false) all) ns →
      list_all (is_definition signature c (map definition all)) (map definition ns) ≡ true
  defined-all [] kinds new apart = refl
  defined-all (p ∷ ns) kinds new apart =
      and_from _ _
      (and_from _ _ (fits p.0 (purity signature p.1) kinds.0) (and_from _ _ (ap not new.0) (apart-all p.0 all apart.0)))
      (defined-all ns kinds.1 new.1 apart.1)

different : (v w : Variable) → v ≢ w → not (same_variable v w) ≡ true
different v w h = elim (true_or_false (same_variable v w)) [
  | inl same ↦ (absurd (h (same_variable-true v w same)))
  | inr other ↦ (ap not other)
]

differs-all : (p : Variable × Tree) (ns : Names) → EachName (λ q. p.0 ≢ q.0) ns → differs_from_all (definition p) (map definition ns) ≡ true
differs-all p [] h = refl
differs-all p (q ∷ ns) h = and_from _ _ (different p.0 q.0 h.0) (differs-all p ns h.1)

distinct-all : (ns : Names) → VariablesDiffer ns → are_distinct (map definition ns) ≡ true
distinct-all [] h = refl
distinct-all (p ∷ ns) h = and_from _ _ (differs-all p ns h.0) (distinct-all ns h.1)

-- ---- putting back
module _ (ds : List Lit) where
  goes-back : (p : Variable × Tree) → put_lit (put_back ds) (definition p) ≡ from_itself p → goes_back ds (definition p) ≡ true
  goes-back p e =
      and_from _ _ (ap (λ t. same_tree t p.1) (ap (λ (l : Lit). l.left) e) ∙ same_tree-refl p.1)
      (ap (λ t. same_tree t p.1) (ap (λ (l : Lit). l.right) e) ∙ same_tree-refl p.1)

  go-back : (ns : Names) → put_clause (put_back ds) (map definition ns) ≡ map from_itself ns → list_all (goes_back ds) (map definition ns) ≡ true
  go-back [] e = refl
  go-back (p ∷ ns) e =
      let first : put_lit (put_back ds) (definition p) ≡ from_itself p = cc in
      let rest : put_clause (put_back ds) (map definition ns) ≡ map from_itself ns = cc in
      and_from _ _ (goes-back p first) (go-back ns rest)

-- two lists joined, the first ones as long as each other
split-first : (ks ls ms ns : List Lit) → length ks ≡ length ms → ks ++ ls ≡ ms ++ ns → ks ≡ ms
split-first ks ls ms ns same e =
    sym (take-append_seam ks ls) ∙ ap (λ n. take n (ks ++ ls)) same ∙ ap (take (length ms)) e ∙ take-append_seam ms ns

split-rest : (ks ls ms ns : List Lit) → length ks ≡ length ms → ks ++ ls ≡ ms ++ ns → ls ≡ ns
split-rest ks ls ms ns same e =
    sym (drop-append_seam ks ls) ∙ ap (λ n. drop n (ks ++ ls)) same ∙ ap (drop (length ms)) e ∙ drop-append_seam ms ns

module _ (signature : List Symbol) (c d : List Lit) (a : IsAbstraction signature c d) where
  abbrev ds : List Lit
  ds = map definition a.names

  back : put_clause (put_back ds) a.body ++ put_clause (put_back ds) ds ≡ c ++ map from_itself a.names
  back =
      sym (map-append (put_lit (put_back ds)) a.body ds)
      ∙ put_clause-agree (put_back ds) (weak.put_back a.names) (back-agree a.names) (a.body ++ ds)
      ∙ ap (put_clause (weak.put_back a.names)) (sym a.shape)
      ∙ a.back

  lengths : length a.body + length a.names ≡ length c + length a.names
  lengths =
      sym
      (length-append (put_clause (put_back ds) a.body) (put_clause (put_back ds) ds)
      ∙ ap (λ n. n + length (put_clause (put_back ds) ds)) (length-map a.body (put_lit (put_back ds)))
      ∙ ap (λ n. length a.body + n) (length-map ds (put_lit (put_back ds)) ∙ length-map a.names definition))
      ∙ ap length back
      ∙ length-append c (map from_itself a.names)
      ∙ ap (λ n. length c + n) (length-map a.names from_itself)

  as_long : length a.body ≡ length c
  as_long = omega (arith, lengths)

  put_as_long : length (put_clause (put_back ds) a.body) ≡ length c
  put_as_long = length-map a.body (put_lit (put_back ds)) ∙ as_long

  body_back : put_clause (put_back ds) a.body ≡ c
  body_back = split-first (put_clause (put_back ds) a.body) (put_clause (put_back ds) ds) c (map from_itself a.names) put_as_long back

  definitions_back : put_clause (put_back ds) ds ≡ map from_itself a.names
  definitions_back = split-rest (put_clause (put_back ds) a.body) (put_clause (put_back ds) ds) c (map from_itself a.names) put_as_long back

  its_parts : abstracts signature c a.body ds ≡ true
  its_parts =
      and_from _ _
      (and_from _ _ (defined-all signature c a.names a.names a.kinds a.new a.apart) (distinct-all a.names a.distinct))
      (and_from _ _ (same_lits-equal (put_clause (put_back ds) a.body) c body_back) (go-back ds a.names definitions_back))

  first_part : take (length c) d ≡ a.body
  first_part = ap (λ n. take n d) (sym as_long) ∙ ap (take (length a.body)) a.shape ∙ take-append_seam a.body ds

  last_part : drop (length c) d ≡ ds
  last_part = ap (λ n. drop n d) (sym as_long) ∙ ap (drop (length a.body)) a.shape ∙ drop-append_seam a.body ds

  pub as_step : is_abstraction signature c d ≡ true
  as_step =
      ap (λ body. abstracts signature c body (drop (length c) d)) first_part
      ∙ ap (λ es. abstracts signature c a.body es) last_part
      ∙ its_parts
