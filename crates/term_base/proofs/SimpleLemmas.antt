-- The test of a simple substitution is right.
use Rattle.std.proofs.Common.{◌≡◌, ◌<◌, ℕ, suc, true, ◌||◌, not, List, [], ◌∷◌, length, refl, ap, sym, ◌∙◌, subst, arith, inl, inr}
use Rattle.std.proofs.lemmas.Bool.{not-true}
use Rattle.std.specs.Prelude.{Option, Some, None}
use Rattle.std.specs.List.{slice_index_or}
use Rattle.term_base.specs.declared.symbols.Sort.{Sort}
use Rattle.term_base.specs.declared.symbols.Symbol.{Symbol}
use Rattle.term_base.specs.declared.terms.Term.{Term}
use Rattle.term_base.specs.declared.variables.Variable.{Variable}
use Rattle.term_base.specs.Same.{same_variable}
use Rattle.term_base.specs.SameLemmas.{same_sort-true, same_sort-refl, same_variable-true}
use Rattle.term_base.specs.Trees.{Tree, tree}
use Rattle.term_base.specs.TreeLemmas.{true_or_false, and-true}
use Rattle.term_base.specs.Sorting.{sort, has_sort}
use Rattle.term_base.specs.Purity.{foreground, ordinary, is_abstraction, IsPure}
use Rattle.term_base.specs.Substitution.{image, IsSubstitution, Simple}
use Rattle.term_base.specs.SimpleTest.{is_pure_tree, is_simple_pair, are_simple_pairs}
use Rattle.term_base.specs.VariableOrderLemmas.{variable_cmp-refl}
use Rattle.term_base.proofs.Ascending.{image-found}

pub has_sort-true : (o : Option Sort) (s : Sort) → has_sort o s ≡ true → o ≡ Some s
has_sort-true None s h = cc
has_sort-true (Some r) s h = ap Some (same_sort-true r s h)

module _ (signature : List Symbol) where
  pure-test : (t : Tree) → is_pure_tree signature t ≡ true → IsPure signature t
  pure-test t h =
      let two = and-true (not (foreground signature t)) (not (ordinary t)) h in
      record { no_foreground = not-true (foreground signature t) two.0; no_ordinary = not-true (ordinary t) two.1 }

  test-pure : (t : Tree) → IsPure signature t → is_pure_tree signature t ≡ true
  test-pure t p = rw (p.no_foreground, p.no_ordinary) refl

  pair_pure : (p : Variable × Term) → is_simple_pair signature p ≡ true → is_abstraction p.0 ≡ true → IsPure signature (tree p.1)
  pair_pure p h abstraction =
      let two = and-true (has_sort (sort signature (tree p.1)) p.0.sort) (not (is_abstraction p.0) || is_pure_tree signature (tree p.1)) h in
      pure-test (tree p.1) (subst (λ b. (not b || is_pure_tree signature (tree p.1)) ≡ true) abstraction two.1)

  sorted_image : (ps : List (Variable × Term)) → are_simple_pairs signature ps ≡ true → (v : Variable) → sort signature (image ps v) ≡ Some v.sort
  sorted_image [] h v = refl
  sorted_image (p ∷ rest) h v =
      let two = and-true (is_simple_pair signature p) (are_simple_pairs signature rest) h in
      elim (true_or_false (same_variable p.0 v)) [
        | inl same ↦ (
            let sorted = has_sort-true (sort signature (tree p.1)) p.0.sort (and-true (has_sort (sort signature (tree p.1)) p.0.sort) (not (is_abstraction p.0) || is_pure_tree signature (tree p.1)) two.0).0 in
            rw same (sorted ∙ ap (λ (w : Variable). Some w.sort) (same_variable-true p.0 v same)))
        | inr other ↦ (rw other (sorted_image rest two.1 v))
      ]

  pure_image : (ps : List (Variable × Term)) → are_simple_pairs signature ps ≡ true → (v : Variable) → is_abstraction v ≡ true → IsPure signature (image ps v)
  pure_image [] h v abstraction = record { no_foreground = refl; no_ordinary = ap not abstraction }
  pure_image (p ∷ rest) h v abstraction =
      let two = and-true (is_simple_pair signature p) (are_simple_pairs signature rest) h in
      elim (true_or_false (same_variable p.0 v)) [
        | inl same ↦ (rw same (pair_pure p two.0 (ap is_abstraction (same_variable-true p.0 v same) ∙ abstraction)))
        | inr other ↦ (rw other (pure_image rest two.1 v abstraction))
      ]

  pub simple_pairs : (ps : List (Variable × Term)) → are_simple_pairs signature ps ≡ true → Simple signature (image ps)
  simple_pairs ps h = record { sorted = sorted_image ps h; pure = pure_image ps h }

  all_pass : (ps : List (Variable × Term)) → ((k : ℕ) (d : Variable × Term) → k < length ps → is_simple_pair signature (slice_index_or ps k d) ≡ true) → are_simple_pairs signature ps ≡ true
  all_pass [] h = refl
  all_pass (p ∷ rest) h =
      let here = h 0 p (omega arith) in
      let later = all_pass rest (λ k d in_range. h (suc k) d (omega arith)) in
      rw (here, later) refl

  pair_passes : (p : Variable × Term) → sort signature (tree p.1) ≡ Some p.0.sort → (is_abstraction p.0 ≡ true → IsPure signature (tree p.1)) → is_simple_pair signature p ≡ true
  pair_passes p sorted pure = elim (true_or_false (is_abstraction p.0)) [
    | inl is ↦ (rw (sorted, same_sort-refl p.0.sort, is, test-pure (tree p.1) (pure is)) refl)
    | inr is ↦ (rw (sorted, same_sort-refl p.0.sort, is) refl)
  ]

  pub pairs_simple : (ps : List (Variable × Term)) → IsSubstitution ps → Simple signature (image ps) → are_simple_pairs signature ps ≡ true
  pairs_simple ps s simple = all_pass ps (λ k d in_range.
      let p = slice_index_or ps k d in
      let found : image ps p.0 ≡ tree p.1 = image-found ps p.0 s.ascending k d in_range (variable_cmp-refl p.0) in
      pair_passes p
      (ap (sort signature) (sym found) ∙ simple.sorted p.0)
      (λ is. subst (IsPure signature) found (simple.pure p.0 is)))
