-- Clauses of known symbols, by the list of the symbols and by its length.
use Rattle.std.proofs.Common.{◌≡◌, ℕ, true, List, [], ◌∷◌, length, refl}
use Rattle.std.specs.Prelude.{Option, Some, None, is_some, nat_lt, slice_get}
use Rattle.std.specs.List.{list_all}
use Rattle.std.proofs.lemmas.Bool.{and_parts, and_from, false≢true, lt-ltb}
use Rattle.std.proofs.lemmas.Option.{slice_get_within}
use Rattle.term_base.specs.declared.clauses.Clause.{Clause}
use Rattle.term_base.specs.declared.symbols.Symbol.{Symbol}
use Rattle.term_base.specs.Trees.{Head, truth, number, plus, times, symbol, Tree, Trees, var, node, none, more}
use Rattle.term_base.specs.Lits.{Lit, lits}
use Rattle.term_base.specs.Known.{is_known_head, is_known, are_known, is_known_clause}
use Rattle.formula_base.specs.Typing as typing
use Rattle.normal_form.specs.Known.{is_known_tree, are_known_trees, is_known_lit}

module _ (symbols : List Symbol) where
  there : (o : Option Symbol) (g : ℕ) → slice_get symbols g ≡ o → is_some o ≡ true → nat_lt g (length symbols) ≡ true
  there None g is h = absurd (false≢true h)
  there (Some s) g is h = lt-ltb g (length symbols) (slice_get_within symbols g s is)

  of_head : (f : Head) → typing.is_known symbols f ≡ true → is_known_head (length symbols) f ≡ true
  of_head (symbol g) h = there (slice_get symbols g) g refl h
  of_head truth h = refl
  of_head (number k) h = refl
  of_head plus h = refl
  of_head times h = refl

  mutual
    of_tree : (t : Tree) → is_known_tree symbols t ≡ true → is_known (length symbols) t ≡ true
    of_tree (var v) h = refl
    of_tree (node f xs) h =
        let both = and_parts (typing.is_known symbols f) (are_known_trees symbols xs) h in
        and_from _ _ (of_head f both.0) (of_trees xs both.1)

    of_trees : (ts : Trees) → are_known_trees symbols ts ≡ true → are_known (length symbols) ts ≡ true
    of_trees none h = refl
    of_trees (more x xs) h =
        let both = and_parts (is_known_tree symbols x) (are_known_trees symbols xs) h in
        and_from _ _ (of_tree x both.0) (of_trees xs both.1)

  of_lits : (ls : List Lit) → list_all (is_known_lit symbols) ls ≡ true → is_known_clause (length symbols) ls ≡ true
  of_lits [] h = refl
  of_lits (l ∷ ls) h =
      let both = and_parts (is_known_lit symbols l) (list_all (is_known_lit symbols) ls) h in
      let sides = and_parts (is_known_tree symbols l.left) (is_known_tree symbols l.right) both.0 in
      and_from _ _ (and_from _ _ (of_tree l.left sides.0) (of_tree l.right sides.1)) (of_lits ls both.1)

  -- clauses whose symbols are there have numbers below the number of the symbols
  pub of_clauses : (cs : List Clause) → list_all (λ c. list_all (is_known_lit symbols) (lits c)) cs ≡ true
      → list_all (λ c. is_known_clause (length symbols) (lits c)) cs ≡ true
  of_clauses [] h = refl
  of_clauses (c ∷ cs) h =
      let both = and_parts (list_all (is_known_lit symbols) (lits c)) (list_all (λ c. list_all (is_known_lit symbols) (lits c)) cs) h in
      and_from _ _ (of_lits (lits c) both.0) (of_clauses cs both.1)
