-- Which certificates have a spelling: each sum has its unknowns ascending and no coefficient 0, and `residues` has as many children as its modulus says.
use Rattle.std.specs.Prelude.{pos, Bool, true, ◌&&◌, List, [], ◌∷◌, length}
use Rattle.std.specs.List.{list_all}
use Rattle.lin_base.specs.Whole.{is_same}
use Rattle.lin_base.specs.Fact.{is_lin}
use Rattle.cert_tree.specs.declared.certs.Cert.{Cert}
use Rattle.cert_tree.specs.declared.certs.Row.{Row}
use Rattle.cert_tree.specs.declared.certs.Row.TheVariants.{Inst, Low}
use Rattle.cert_tree.specs.declared.certs.Tree.{Tree}
use Rattle.cert_tree.specs.declared.certs.Tree.TheOpen.{Tree-F, Case, Combine, Cut, Branch, Residues, Solve, Least, Clash}
use Rattle.cert_tree.specs.declared.certs.Tree.TheFolds.{fold-Tree}

-- each of these answers is yes
abbrev pub all_yes : List Bool → Bool
all_yes [] = true
all_yes (answer ∷ more) = answer && all_yes more

-- a row has a spelling
abbrev pub row_is_spelled : Row → Bool
row_is_spelled (Inst clause x a t) = is_lin t
row_is_spelled (Low clause x j) = true

-- a node has a spelling, by whether its children have one
abbrev pub node_is_spelled : Tree-F Bool → Bool
node_is_spelled (Case n children) = all_yes children
node_is_spelled (Combine list child) = child
node_is_spelled (Cut n child) = child
node_is_spelled (Branch t left right) = is_lin t && (left && right)
node_is_spelled (Residues m t children) = is_same (pos (length children)) m && (is_lin t && all_yes children)
node_is_spelled (Solve n p child) = child
node_is_spelled (Least p children) = all_yes children
node_is_spelled (Clash n) = true

-- a tree has a spelling
abbrev pub tree_is_spelled : Tree → Bool
tree_is_spelled = fold-Tree Bool node_is_spelled

-- a certificate has a spelling
abbrev pub is_spelled : Cert → Bool
is_spelled cert = list_all row_is_spelled cert.rows && tree_is_spelled cert.tree
