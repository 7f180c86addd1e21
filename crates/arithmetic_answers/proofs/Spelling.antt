-- A certificate that stands has a spelling.
use Rattle.std.specs.Prelude.{◌≡◌, ℕ, pos, Bool, true, ◌&&◌, length, List, [], ◌∷◌, ◌++◌, map, Option, Some, None, slice_get, IsTrue}
use Rattle.std.specs.List.{list_all}
use Rattle.std.proofs.Common.{refl, sym, ◌∙◌, ap, subst}
use Rattle.std.proofs.lemmas.Bool.{and_parts, and_from, false≢true}
use Rattle.std.proofs.lemmas.List.{length-map}
use Rattle.lin_base.specs.Whole.{is_same}
use Rattle.lin_base.specs.Fact.{is_lin}
use Rattle.lin_base.specs.Steps.{is_narrow}
use Rattle.lin_base.specs.declared.facts.Fact.{Fact}
use Rattle.lin_base.specs.declared.facts.Fact.TheVariants.{AtMostZero}
use Rattle.lin_base.specs.declared.facts.Pool.{Pool}
use Rattle.lin_base.specs.Sum.{above}
use Rattle.lin_base.specs.Steps.{above_steps}
use Rattle.cert_tree.specs.declared.certs.Cert.{Cert}
use Rattle.cert_tree.specs.declared.certs.Row.{Row}
use Rattle.cert_tree.specs.declared.certs.Row.TheVariants.{Inst, Low}
use Rattle.cert_tree.specs.declared.certs.Tree.{Tree}
use Rattle.cert_tree.specs.declared.certs.Tree.TheOpen.{Tree-F, Case, Combine, Cut, Branch, Residues, Solve, Least, Clash}
use Rattle.cert_tree.specs.declared.certs.Tree.TheFolds.{fold-roll-Tree, map-Tree, ind-Tree}
use Rattle.cert_tree.specs.declared.certs.Tree.TheViews.{roll-Tree}
use Rattle.cert_tree.specs.Counting.{is_over_free}
use Rattle.cert_tree.specs.Children.{with_each, combination, cut_of, residue_children, solve_child, least_children}
use Rattle.cert_tree.specs.Narrow.{option_then}
use Rattle.cert_tree.specs.Rows.{extended, row_over, row_on, row_stands_on, row_clause}
use Rattle.cert_tree.specs.Stands.{Stands, each_stands, is_open_case, tree_stands}
use Rattle.cert_tree.proofs.Truth.{some_and_out, option_then_out, if_by}
use Rattle.cert_tree.proofs.Nodes.{stands-case, stands-combine, stands-cut, stands-branch, stands-residues, stands-solve, stands-least}
use Rattle.cert_text.specs.Spelled.{all_yes, row_is_spelled, node_is_spelled, tree_is_spelled, is_spelled}

-- ---- rows
row_allowed : (params : ℕ) (clause : List Fact) (row : Row) → row_stands_on params clause row ≡ true → row_is_spelled row ≡ true
row_allowed params clause (Inst n x a t) e = (and_parts _ _ (and_parts _ _ (and_parts _ _ e).0).0).1
row_allowed params clause (Low n x j) e = refl

row_spelled : (params : ℕ) (row : Row) (o : Option (List Fact)) (made : List Fact) → row_on params row o ≡ Some made → row_is_spelled row ≡ true
row_spelled params row None made e = absurd (cc)
row_spelled params row (Some clause) made e = row_allowed params clause row (if_by (row_stands_on params clause row) (row_clause clause row) made e).0

rows_spelled : (params : ℕ) (rows : List Row) (clauses all : List (List Fact)) → extended params rows clauses ≡ Some all → list_all row_is_spelled rows ≡ true
rows_spelled params [] clauses all e = refl
rows_spelled params (row ∷ rows) clauses all e =
    let o = option_then_out (row_over params clauses row) (λ clause. extended params rows (clauses ++ clause ∷ [])) all e in
    and_from _ _ (row_spelled params row _ o.0 o.1) (rows_spelled params rows (clauses ++ o.0 ∷ []) all o.2)

-- ---- trees
module _ (params : ℕ) (clauses : List (List Fact)) where
  abbrev pub IsSpelledTree : Tree → Type 0
  IsSpelledTree t = (used : List ℕ) (facts : List Fact) → tree_stands params clauses t used facts ≡ true → tree_is_spelled t ≡ true

  abbrev Such : Type 0
  Such = (t : Tree) × IsSpelledTree t

  abbrev trees_of : List Such → List Tree
  trees_of kids = map (λ e. e.0) kids

  children_spelled : (kids : List Such) (states : List (List Fact)) (used : List ℕ) → each_stands used (map (tree_stands params clauses) (trees_of kids)) states ≡ true
      → all_yes (map tree_is_spelled (trees_of kids)) ≡ true
  children_spelled [] [] used e = refl
  children_spelled [] (s ∷ ss) used e = absurd (false≢true e)
  children_spelled (k ∷ ks) [] used e = absurd (false≢true e)
  children_spelled (k ∷ ks) (s ∷ ss) used e =
      let both = and_parts _ _ e in
      and_from _ _ (k.1 used s both.0) (children_spelled ks ss used both.1)

  node_spelled : (y : Tree-F Such) → IsSpelledTree (roll-Tree (map-Tree Such Tree (λ e. e.0) y))
  node_spelled (Case n kids) used facts e =
      let o = some_and_out (slice_get clauses n) (λ clause. is_open_case params used clause && each_stands used (map (tree_stands params clauses) (trees_of kids)) (with_each facts clause))
      (sym (stands-case params clauses used facts n (trees_of kids)) ∙ e) in
      fold-roll-Tree Bool node_is_spelled (Case n (trees_of kids)) ∙ children_spelled kids (with_each facts o.0) used (and_parts (is_open_case params used o.0) _ o.2).1
  node_spelled (Combine list kid) used facts e =
      let o = some_and_out (combination facts list) (λ u. tree_stands params clauses kid.0 used (facts ++ AtMostZero u ∷ [])) (sym (stands-combine params clauses used facts list kid.0) ∙ e) in
      fold-roll-Tree Bool node_is_spelled (Combine list kid.0) ∙ kid.1 used (facts ++ AtMostZero o.0 ∷ []) o.2
  node_spelled (Cut n kid) used facts e =
      let o = some_and_out (option_then (slice_get facts n) cut_of) (λ f. tree_stands params clauses kid.0 used (facts ++ f ∷ [])) (sym (stands-cut params clauses used facts n kid.0) ∙ e) in
      fold-roll-Tree Bool node_is_spelled (Cut n kid.0) ∙ kid.1 used (facts ++ o.0 ∷ []) o.2
  node_spelled (Branch t l r) used facts e =
      let o = some_and_out _ _ (sym (stands-branch params clauses used facts t l.0 r.0) ∙ e) in
      let both = and_parts _ _ o.2 in
      let made : Fact × Fact = (AtMostZero t, AtMostZero (above t)) in
      let formed = (if_by {A = Fact × Fact} (is_lin t && is_over_free params used t && is_narrow (above_steps t)) made o.0 o.1).0 in
      fold-roll-Tree Bool node_is_spelled (Branch t l.0 r.0)
      ∙ and_from _ _ (and_parts _ _ (and_parts _ _ formed).0).0 (and_from _ _ (l.1 used (facts ++ o.0.0 ∷ []) both.0) (r.1 used (facts ++ o.0.1 ∷ []) both.1))
  node_spelled (Residues m t kids) used facts e =
      let w = sym (stands-residues params clauses used facts m t (trees_of kids)) ∙ e in
      let a = and_parts _ _ w in
      let count = and_parts _ _ a.0 in
      let counted : is_same (pos (length (map tree_is_spelled (trees_of kids)))) m ≡ true =
      ap (λ n. is_same (pos n) m) (length-map (trees_of kids) tree_is_spelled ∙ sym (length-map (trees_of kids) (tree_stands params clauses))) ∙ count.1 in
      fold-roll-Tree Bool node_is_spelled (Residues m t (trees_of kids))
      ∙ and_from _ _ counted (and_from _ _ (and_parts _ _ (and_parts _ _ count.0).0).1 (children_spelled kids (residue_children facts m t) used (and_parts _ _ a.1).1))
  node_spelled (Solve n q kid) used facts e =
      let o = some_and_out (solve_child facts n q) (tree_stands params clauses kid.0 (q ∷ used)) (sym (stands-solve params clauses used facts n q kid.0) ∙ e) in
      fold-roll-Tree Bool node_is_spelled (Solve n q kid.0) ∙ kid.1 (q ∷ used) o.0 o.2
  node_spelled (Least q kids) used facts e =
      let a = and_parts _ _ (sym (stands-least params clauses used facts q (trees_of kids)) ∙ e) in
      fold-roll-Tree Bool node_is_spelled (Least q (trees_of kids)) ∙ children_spelled kids (least_children q facts) (q ∷ used) (and_parts _ _ a.1).1
  node_spelled (Clash n) used facts e = fold-roll-Tree Bool node_is_spelled (Clash n)

  pub tree_spelled : (t : Tree) → IsSpelledTree t
  tree_spelled = ind-Tree IsSpelledTree (λ x y is. subst (λ z. IsSpelledTree (roll-Tree z)) is (node_spelled y))

-- a certificate that stands has a spelling
pub standing_is_spelled : (pool : Pool) (cert : Cert) → Stands pool cert → IsTrue (is_spelled cert)
standing_is_spelled pool cert e =
    let o = some_and_out (extended pool.params cert.rows pool.clauses) (λ clauses. tree_stands pool.params clauses cert.tree [] []) e in
    and_from _ _ (rows_spelled pool.params cert.rows pool.clauses o.0 o.1) (tree_spelled pool.params o.0 cert.tree [] [] o.2)
