-- Induction on trees.
use Rattle.std.proofs.Common.{ℕ, List, [], ◌∷◌, map, subst, sym}
use Rattle.std.specs.Prelude.{ℤ}
use Rattle.lin_base.specs.declared.sums.Lin.{Lin}
use Rattle.cert_tree.specs.declared.certs.Tree.{Tree}
use Rattle.cert_tree.specs.declared.certs.Tree.TheOpen as layer
use Rattle.cert_tree.specs.declared.certs.Tree.TheOpen.{Tree-F}
use Rattle.cert_tree.specs.declared.certs.Tree.TheVariants as node
use Rattle.cert_tree.specs.declared.certs.Tree.TheVariants.{rolls-Case, rolls-Combine, rolls-Cut, rolls-Branch, rolls-Residues, rolls-Solve, rolls-Least, rolls-Clash}
use Rattle.cert_tree.specs.declared.certs.Tree.TheViews.{roll-Tree}
use Rattle.cert_tree.specs.declared.certs.Tree.TheFolds.{ind-Tree, map-Tree}

-- a fact of each tree of a list, one beside the other
abbrev pub Each : (P : Tree → Type 0) → List Tree → Type 0
Each P [] = Unit {0}
Each P (t ∷ ts) = P t × Each P ts

each_beside : (P : Tree → Type 0) (es : List ((t : Tree) × P t)) → Each P (map (λ e. e.0) es)
each_beside P [] = tt
each_beside P (e ∷ es) = (e.1, each_beside P es)

module _ (P : Tree → Type 0)
    (at_case : (n : ℕ) (ts : List Tree) → Each P ts → P (node.Case n ts))
    (at_combine : (list : List (ℕ × ℤ)) (u : Tree) → P u → P (node.Combine list u))
    (at_cut : (n : ℕ) (u : Tree) → P u → P (node.Cut n u))
    (at_branch : (t : Lin) (u v : Tree) → P u → P v → P (node.Branch t u v))
    (at_residues : (m : ℤ) (t : Lin) (ts : List Tree) → Each P ts → P (node.Residues m t ts))
    (at_solve : (n p : ℕ) (u : Tree) → P u → P (node.Solve n p u))
    (at_least : (p : ℕ) (ts : List Tree) → Each P ts → P (node.Least p ts))
    (at_clash : (n : ℕ) → P (node.Clash n)) where
  at_layer : (y : Tree-F ((t : Tree) × P t)) → P (roll-Tree (map-Tree ((t : Tree) × P t) Tree (λ e. e.0) y))
  at_layer (layer.Case n es) = subst P (sym (rolls-Case n (map (λ e. e.0) es))) (at_case n (map (λ e. e.0) es) (each_beside P es))
  at_layer (layer.Combine list e) = subst P (sym (rolls-Combine list e.0)) (at_combine list e.0 e.1)
  at_layer (layer.Cut n e) = subst P (sym (rolls-Cut n e.0)) (at_cut n e.0 e.1)
  at_layer (layer.Branch t e f) = subst P (sym (rolls-Branch t e.0 f.0)) (at_branch t e.0 f.0 e.1 f.1)
  at_layer (layer.Residues m t es) = subst P (sym (rolls-Residues m t (map (λ e. e.0) es))) (at_residues m t (map (λ e. e.0) es) (each_beside P es))
  at_layer (layer.Solve n p e) = subst P (sym (rolls-Solve n p e.0)) (at_solve n p e.0 e.1)
  at_layer (layer.Least p es) = subst P (sym (rolls-Least p (map (λ e. e.0) es))) (at_least p (map (λ e. e.0) es) (each_beside P es))
  at_layer (layer.Clash n) = subst P (sym (rolls-Clash n)) (at_clash n)

  pub tree_induction : (t : Tree) → P t
  tree_induction = ind-Tree P (λ x y is. subst (λ z. P (roll-Tree z)) is (at_layer y))
