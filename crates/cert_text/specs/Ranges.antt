-- Certificates within the ranges of their types: each number of a clause, a fact, a parameter or an unknown is a `u32`, each other one an `i128`.
use Rattle.std.specs.Prelude.{ℕ, ℤ, ◌^◌, Bool, ◌&&◌, nat_lt}
use Rattle.std.specs.List.{list_all}
use Rattle.lin_base.specs.declared.sums.Lin.{Lin}
use Rattle.lin_base.specs.Whole.{is_in_range}
use Rattle.cert_tree.specs.declared.certs.Cert.{Cert}
use Rattle.cert_tree.specs.declared.certs.Row.{Row}
use Rattle.cert_tree.specs.declared.certs.Row.TheVariants.{Inst, Low}
use Rattle.cert_tree.specs.declared.certs.Tree.{Tree}
use Rattle.cert_tree.specs.declared.certs.Tree.TheOpen.{Tree-F, Case, Combine, Cut, Branch, Residues, Solve, Least, Clash}
use Rattle.cert_tree.specs.declared.certs.Tree.TheFolds.{fold-Tree}
use Rattle.cert_text.specs.Spelled.{all_yes}

-- what a `u32` holds
abbrev pub is_word32 : ℕ → Bool
is_word32 n = nat_lt n (2 ^ 32)

-- an unknown with its coefficient, or a fact's number with its multiplier
abbrev pub multiple_fits : ℕ × ℤ → Bool
multiple_fits e = is_word32 e.0 && is_in_range e.1

-- a sum is within the ranges
abbrev pub lin_fits : Lin → Bool
lin_fits t = list_all multiple_fits t.coefs && is_in_range t.constant

-- a row is
abbrev pub row_fits : Row → Bool
row_fits (Inst clause x a t) = is_word32 clause && (is_word32 x && (is_in_range a && lin_fits t))
row_fits (Low clause x j) = is_word32 clause && (is_word32 x && is_in_range j)

-- a node is, by whether its children are
abbrev pub node_fits : Tree-F Bool → Bool
node_fits (Case n children) = is_word32 n && all_yes children
node_fits (Combine list child) = list_all multiple_fits list && child
node_fits (Cut n child) = is_word32 n && child
node_fits (Branch t left right) = lin_fits t && (left && right)
node_fits (Residues m t children) = is_in_range m && (lin_fits t && all_yes children)
node_fits (Solve n p child) = is_word32 n && (is_word32 p && child)
node_fits (Least p children) = is_word32 p && all_yes children
node_fits (Clash n) = is_word32 n

-- a tree is
abbrev pub tree_fits : Tree → Bool
tree_fits = fold-Tree Bool node_fits

-- a certificate is
abbrev pub cert_fits : Cert → Bool
cert_fits cert = list_all row_fits cert.rows && tree_fits cert.tree
