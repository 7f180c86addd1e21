-- When a node stands, by what it is.
use Rattle.std.specs.Prelude.{◌≡◌, ℕ, ℤ, pos, ◌&&◌, int_le, length, List, [], ◌∷◌, ◌++◌, map, slice_get}
use Rattle.std.proofs.Common.{ap}
use Rattle.lin_base.specs.declared.sums.Lin.{Lin}
use Rattle.lin_base.specs.declared.facts.Fact.{Fact}
use Rattle.lin_base.specs.declared.facts.Fact.TheVariants.{AtMostZero}
use Rattle.lin_base.specs.Whole.{is_same}
use Rattle.lin_base.specs.Fact.{is_false, is_lin}
use Rattle.lin_base.specs.Steps.{is_narrow}
use Rattle.cert_tree.specs.declared.certs.Tree.{Tree}
use Rattle.cert_tree.specs.declared.certs.Tree.TheOpen.{Case, Combine, Cut, Branch, Residues, Solve, Least, Clash}
use Rattle.cert_tree.specs.declared.certs.Tree.TheFolds.{fold-roll-Tree}
use Rattle.cert_tree.specs.declared.certs.Tree.TheViews.{roll-Tree}
use Rattle.cert_tree.specs.Counting.{is_free, is_over_free}
use Rattle.cert_tree.specs.Narrow.{some_and, option_then}
use Rattle.cert_tree.specs.Children.{with_each, combination, cut_of, branch_facts, residue_children, residues_steps, solve_child, least_children, least_steps}
use Rattle.cert_tree.specs.Stands.{Node, each_stands, is_open_case, node_stands, tree_stands}

module _ (params : ℕ) (clauses : List (List Fact)) (used : List ℕ) (facts : List Fact) where
  pub stands-case : (n : ℕ) (ts : List Tree) → tree_stands params clauses (roll-Tree (Case n ts)) used facts ≡ some_and (slice_get clauses n) (λ clause. is_open_case params used clause && each_stands used (map (tree_stands params clauses) ts) (with_each facts clause))
  stands-case n ts = ap (λ (node : Node). node used facts) (fold-roll-Tree Node (node_stands params clauses) (Case n ts))

  pub stands-combine : (list : List (ℕ × ℤ)) (t : Tree) → tree_stands params clauses (roll-Tree (Combine list t)) used facts ≡ some_and (combination facts list) (λ u. tree_stands params clauses t used (facts ++ AtMostZero u ∷ []))
  stands-combine list t = ap (λ (node : Node). node used facts) (fold-roll-Tree Node (node_stands params clauses) (Combine list t))

  pub stands-cut : (n : ℕ) (t : Tree) → tree_stands params clauses (roll-Tree (Cut n t)) used facts ≡ some_and (option_then (slice_get facts n) cut_of) (λ f. tree_stands params clauses t used (facts ++ f ∷ []))
  stands-cut n t = ap (λ (node : Node). node used facts) (fold-roll-Tree Node (node_stands params clauses) (Cut n t))

  pub stands-branch : (t : Lin) (l r : Tree) → tree_stands params clauses (roll-Tree (Branch t l r)) used facts ≡ some_and (branch_facts params used t) (λ both. tree_stands params clauses l used (facts ++ both.0 ∷ []) && tree_stands params clauses r used (facts ++ both.1 ∷ []))
  stands-branch t l r = ap (λ (node : Node). node used facts) (fold-roll-Tree Node (node_stands params clauses) (Branch t l r))

  pub stands-residues : (m : ℤ) (t : Lin) (ts : List Tree) → tree_stands params clauses (roll-Tree (Residues m t ts)) used facts ≡ int_le (pos 2) m && is_lin t && is_over_free params used t && is_same (pos (length (map (tree_stands params clauses) ts))) m && (is_narrow (residues_steps m t) && each_stands used (map (tree_stands params clauses) ts) (residue_children facts m t))
  stands-residues m t ts = ap (λ (node : Node). node used facts) (fold-roll-Tree Node (node_stands params clauses) (Residues m t ts))

  pub stands-solve : (n p : ℕ) (t : Tree) → tree_stands params clauses (roll-Tree (Solve n p t)) used facts ≡ some_and (solve_child facts n p) (tree_stands params clauses t (p ∷ used))
  stands-solve n p t = ap (λ (node : Node). node used facts) (fold-roll-Tree Node (node_stands params clauses) (Solve n p t))

  pub stands-least : (p : ℕ) (ts : List Tree) → tree_stands params clauses (roll-Tree (Least p ts)) used facts ≡ is_free params used p && (is_narrow (least_steps p facts) && each_stands (p ∷ used) (map (tree_stands params clauses) ts) (least_children p facts))
  stands-least p ts = ap (λ (node : Node). node used facts) (fold-roll-Tree Node (node_stands params clauses) (Least p ts))

  pub stands-clash : (n : ℕ) → tree_stands params clauses (roll-Tree (Clash n)) used facts ≡ some_and (slice_get facts n) is_false
  stands-clash n = ap (λ (node : Node). node used facts) (fold-roll-Tree Node (node_stands params clauses) (Clash n))

-- what `simp` computes a tree's standing by
pub ruleset nodes = (stands-case, stands-combine, stands-cut, stands-branch, stands-residues, stands-solve, stands-least, stands-clash)
