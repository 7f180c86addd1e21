-- A tree that stands closes: no values make its facts true.
use Rattle.std.specs.Prelude.{◌≡◌, ℕ, ℤ, pos, true, false, not, ◌==◌, int_le, List, [], ◌∷◌, ◌++◌, map, slice_get}
use Rattle.std.specs.List.{list_all, list_any, AllByRecursion}
use Rattle.std.proofs.Common.{refl, sym, ◌∙◌, ap, subst, arith, inl, inr}
use Rattle.std.proofs.lemmas.Int.{ints}
use Rattle.std.proofs.lemmas.Bool.{and_parts, and_from, cases_Bool, false≢true, ne_eqb, eqb-false}
use Rattle.lin_base.specs.declared.facts.Fact.{Fact}
use Rattle.lin_base.specs.declared.facts.Fact.TheVariants.{AtMostZero}
use Rattle.lin_base.specs.Sum.{Valuation, assigned, above}
use Rattle.lin_base.specs.Fact.{holds, ClauseHoldsAt}
use Rattle.cert_tree.specs.declared.certs.Tree.{Tree}
use Rattle.cert_tree.specs.declared.certs.Tree.TheOpen.{Tree-F, Case, Combine, Cut, Branch, Residues, Solve, Least, Clash}
use Rattle.cert_tree.specs.declared.certs.Tree.TheFolds.{map-Tree, ind-Tree}
use Rattle.cert_tree.specs.declared.certs.Tree.TheViews.{roll-Tree}
use Rattle.cert_tree.specs.Counting.{is_free, is_one_of}
use Rattle.lin_base.proofs.Values.{assigned-other}
use Rattle.lin_base.proofs.Truth.{same_holds}
use Rattle.cert_tree.specs.Children.{with_each, cut_of, least_children, residue_children}
use Rattle.cert_tree.specs.Stands.{Node, each_stands, is_open_case, tree_stands}
use Rattle.cert_tree.proofs.Truth.{is_proper, Good, EachHolds, SomeHolds, some_and_out, option_then_out, all_at, all_snoc, clash_false, each_with, branch_facts_out, combination_holds, cut_holds, above_holds, solve_child_holds, some_residue, not_or_right, not_or_left}
use Rattle.cert_tree.proofs.Least.{least_some}
use Rattle.cert_tree.proofs.Nodes.{stands-case, stands-combine, stands-cut, stands-branch, stands-residues, stands-solve, stands-least, stands-clash}

module _ (params : ℕ) (clauses : List (List Fact)) (p : Valuation) (pool_holds : AllByRecursion (ClauseHoldsAt params p) clauses) (pool_proper : AllByRecursion (λ c. list_all is_proper c ≡ true) clauses) where
  -- the values of the parameters that are not used up are those of p
  abbrev pub AgreesFree : List ℕ → Valuation → Type 0
  AgreesFree used v = (x : ℕ) → is_free params used x ≡ true → v x ≡ p x

  -- of a node: where it stands no values make its facts true
  abbrev pub Refutes : Node → Type 0
  Refutes node = (used : List ℕ) (facts : List Fact) → node used facts ≡ true → (v : Valuation) → AgreesFree used v → EachHolds v facts → ⊥

  abbrev pub RefutesTree : Tree → Type 0
  RefutesTree t = Refutes (tree_stands params clauses t)

  abbrev Such : Type 0
  Such = (t : Tree) × RefutesTree t

  abbrev nodes_of : List Such → List Node
  nodes_of kids = map (tree_stands params clauses) (map (λ e. e.0) kids)

  children_sound : (kids : List Such) (states : List (List Fact)) (used : List ℕ) → each_stands used (nodes_of kids) states ≡ true → (v : Valuation) → AgreesFree used v → SomeHolds v states → ⊥
  children_sound [] [] used e v agree some = some
  children_sound [] (s ∷ ss) used e v agree some = false≢true e
  children_sound (k ∷ ks) [] used e v agree some = some
  children_sound (k ∷ ks) (s ∷ ss) used e v agree some =
      let both = and_parts _ _ e in
      elim some [ inl all ↦ k.1 used s both.0 v agree all | inr more ↦ children_sound ks ss used both.1 v agree more ]

  -- a clause over free parameters is true at v as it is at p
  clause_at : (used : List ℕ) (v : Valuation) → AgreesFree used v → (clause : List Fact) → is_open_case params used clause ≡ true → list_any (holds v) clause ≡ list_any (holds p) clause
  clause_at used v agree [] open_ = refl
  clause_at used v agree (f ∷ fs) open_ =
      let both = and_parts _ _ open_ in
      let here = same_holds (is_free params used) v p agree f both.0 in
      rw (here, clause_at used v agree fs both.1) refl

  agrees_more : (used : List ℕ) (q : ℕ) (v : Valuation) → AgreesFree used v → AgreesFree (q ∷ used) v
  agrees_more used q v agree x free =
      let both = and_parts _ _ free in
      agree x (and_from _ _ both.0 (not_or_right (q == x) (is_one_of used x) both.1))

  agrees_assigned : (used : List ℕ) (q : ℕ) (v : Valuation) → AgreesFree used v → (z : ℤ) → AgreesFree (q ∷ used) (assigned q z v)
  agrees_assigned used q v agree z x free =
      let both = and_parts _ _ free in
      let apart : (q == x) ≡ false = not_or_left (q == x) (is_one_of used x) both.1 in
      assigned-other v q x z (ap not (ne_eqb x q (λ same. eqb-false q x apart (sym same)))) ∙ agrees_more used q v agree x free

  node_sound : (y : Tree-F Such) → RefutesTree (roll-Tree (map-Tree Such Tree (λ e. e.0) y))
  node_sound (Case n kids) used facts e v agree all =
      let o = some_and_out _ _ (sym (stands-case params clauses used facts n (map (λ k. k.0) kids)) ∙ e) in
      let both = and_parts _ _ o.2 in
      let here : list_any (holds p) o.0 ≡ true = all_at (ClauseHoldsAt params p) clauses n o.0 pool_holds o.1 p (λ x _. refl) in
      let proper = all_at (λ c. list_all is_proper c ≡ true) clauses n o.0 pool_proper o.1 in
      children_sound kids (with_each facts o.0) used both.1 v agree (each_with v facts o.0 all (clause_at used v agree o.0 both.0 ∙ here) proper)
  node_sound (Combine list kid) used facts e v agree all =
      let o = some_and_out _ _ (sym (stands-combine params clauses used facts list kid.0) ∙ e) in
      kid.1 used (facts ++ AtMostZero o.0 ∷ []) o.2 v agree (all_snoc (Good v) facts (AtMostZero o.0) all (combination_holds v facts list o.0 o.1 all, refl))
  node_sound (Cut n kid) used facts e v agree all =
      let o = some_and_out _ _ (sym (stands-cut params clauses used facts n kid.0) ∙ e) in
      let f = option_then_out (slice_get facts n) cut_of o.0 o.1 in
      kid.1 used (facts ++ o.0 ∷ []) o.2 v agree (all_snoc (Good v) facts o.0 all (cut_holds v f.0 o.0 f.2 (all_at (Good v) facts n f.0 all f.1)))
  node_sound (Branch t l r) used facts e v agree all =
      let o = some_and_out _ _ (sym (stands-branch params clauses used facts t l.0 r.0) ∙ e) in
      let is = branch_facts_out params used t o.0 o.1 in
      let b = and_parts _ _ o.2 in
      elim (cases_Bool (holds v (AtMostZero t))) [
        | inl h ↦ let good : Good v (AtMostZero t) = (h, refl) in l.1 used (facts ++ o.0.0 ∷ []) b.0 v agree (all_snoc (Good v) facts o.0.0 all (subst (Good v) (sym is.0) good))
        | inr h ↦ let good : Good v (AtMostZero (above t)) = (above_holds v t h, refl) in r.1 used (facts ++ o.0.1 ∷ []) b.1 v agree (all_snoc (Good v) facts o.0.1 all (subst (Good v) (sym is.1) good))
      ]
  node_sound (Residues m t kids) used facts e v agree all =
      let w = sym (stands-residues params clauses used facts m t (map (λ k. k.0) kids)) ∙ e in
      let a = and_parts _ _ w in
      let b = and_parts _ _ a.1 in
      let two : int_le (pos 2) m ≡ true = (and_parts _ _ (and_parts _ _ (and_parts _ _ a.0).0).0).0 in
      children_sound kids (residue_children facts m t) used b.1 v agree (some_residue v facts m t (omega (arith, ints, two)) all)
  node_sound (Solve n q kid) used facts e v agree all =
      let o = some_and_out _ _ (sym (stands-solve params clauses used facts n q kid.0) ∙ e) in
      kid.1 (q ∷ used) o.0 o.2 v (agrees_more used q v agree) (solve_child_holds v facts n q o.0 o.1 all)
  node_sound (Least q kids) used facts e v agree all =
      let w = sym (stands-least params clauses used facts q (map (λ k. k.0) kids)) ∙ e in
      let a = and_parts _ _ w in
      let b = and_parts _ _ a.1 in
      let found = least_some v q facts all in
      children_sound kids (least_children q facts) (q ∷ used) b.1 (assigned q found.0 v) (agrees_assigned used q v agree found.0) found.1
  node_sound (Clash n) used facts e v agree all =
      let o = some_and_out _ _ (sym (stands-clash params clauses used facts n) ∙ e) in
      clash_false v o.0 o.2 (all_at (Good v) facts n o.0 all o.1).0

  pub tree_sound : (t : Tree) → RefutesTree t
  tree_sound = ind-Tree RefutesTree (λ x y is. subst (λ z. RefutesTree (roll-Tree z)) is (node_sound y))
