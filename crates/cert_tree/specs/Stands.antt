-- Certificates that stand: the conditions of every row and every node hold, every number formed stays in the range, and every leaf is a Clash or a Case of an empty clause.
use Rattle.std.specs.Prelude.{ℕ, ◌+◌, ℤ, pos, Bool, true, false, ◌&&◌, int_le, length, IsTrue, List, [], ◌∷◌, ◌++◌, slice_get}
use Rattle.std.specs.List.{list_all}
use Rattle.lin_base.specs.declared.sums.Lin.{Lin}
use Rattle.lin_base.specs.declared.facts.Fact.{Fact}
use Rattle.lin_base.specs.declared.facts.Fact.TheVariants.{AtMostZero}
use Rattle.lin_base.specs.declared.facts.Pool.{Pool}
use Rattle.lin_base.specs.declared.wides.Wide.{Wide}
use Rattle.lin_base.specs.Whole.{is_same}
use Rattle.lin_base.specs.Fact.{sum_of, is_false, is_lin}
use Rattle.lin_base.specs.Steps.{is_narrow}
use Rattle.cert_tree.specs.declared.certs.Cert.{Cert}
use Rattle.cert_tree.specs.declared.certs.Tree.{Tree}
use Rattle.cert_tree.specs.declared.certs.Tree.TheOpen.{Tree-F, Case, Combine, Cut, Branch, Residues, Solve, Least, Clash}
use Rattle.cert_tree.specs.declared.certs.Tree.TheFolds.{fold-Tree}
use Rattle.cert_tree.specs.Counting.{is_free, is_over_free}
use Rattle.cert_tree.specs.Narrow.{some_and, option_then}
use Rattle.cert_tree.specs.Rows.{extended}
use Rattle.cert_tree.specs.Children.{with_each, combination, cut_of, branch_facts, residue_children, residues_steps, solve_child, least_children, least_steps}

-- whether a node stands, of the used-up parameters and the facts
abbrev pub Node : Type 0
Node = List ℕ → List Fact → Bool

-- one child for each list of facts, and each stands
abbrev pub each_stands : List ℕ → List Node → List (List Fact) → Bool
each_stands used [] [] = true
each_stands used (node ∷ nodes) (facts ∷ more) = node used facts && each_stands used nodes more
each_stands used _ _ = false

-- child i stands at the facts of number i, whose steps stay in the range
abbrev pub numbered_stand : (ℕ → List Wide) → (ℕ → List Fact) → List ℕ → ℕ → List Node → Bool
numbered_stand steps state used i [] = true
numbered_stand steps state used i (node ∷ nodes) = is_narrow (steps i) && (node used (state i) && numbered_stand steps state used (i + 1) nodes)

-- each unknown of the clause is a parameter that is not used up
abbrev pub is_open_case : ℕ → List ℕ → List Fact → Bool
is_open_case params used clause = list_all (λ f. is_over_free params used (sum_of f)) clause

-- m is at least 2 and the number of children, t is a sum over parameters that are not used up, and each child stands with its remainder
abbrev pub residues_stand : ℕ → ℤ → Lin → List Node → Node
residues_stand params m t children used facts =
    int_le (pos 2) m && is_lin t && is_over_free params used t && is_same (pos (length children)) m
    && (is_narrow (residues_steps m t) && each_stands used children (residue_children facts m t))

-- p is a parameter that is not used up, and each child stands at its test point
abbrev pub least_stands : ℕ → ℕ → List Node → Node
least_stands params p children used facts =
    is_free params used p && (is_narrow (least_steps p facts) && each_stands (p ∷ used) children (least_children p facts))

-- the conditions of each node, and what its children have to show
abbrev pub node_stands : ℕ → List (List Fact) → Tree-F Node → Node
node_stands params clauses (Case n children) used facts =
    some_and (slice_get clauses n) (λ clause. is_open_case params used clause && each_stands used children (with_each facts clause))
node_stands params clauses (Combine list child) used facts =
    some_and (combination facts list) (λ t. child used (facts ++ AtMostZero t ∷ []))
node_stands params clauses (Cut n child) used facts =
    some_and (option_then (slice_get facts n) cut_of) (λ f. child used (facts ++ f ∷ []))
node_stands params clauses (Branch t left right) used facts =
    some_and (branch_facts params used t) (λ both. left used (facts ++ both.0 ∷ []) && right used (facts ++ both.1 ∷ []))
node_stands params clauses (Residues m t children) used facts = residues_stand params m t children used facts
node_stands params clauses (Solve n p child) used facts = some_and (solve_child facts n p) (child (p ∷ used))
node_stands params clauses (Least p children) used facts = least_stands params p children used facts
node_stands params clauses (Clash n) used facts = some_and (slice_get facts n) is_false

-- a tree, over the clauses of the extended pool
abbrev pub tree_stands : ℕ → List (List Fact) → Tree → Node
tree_stands params clauses = fold-Tree Node (node_stands params clauses)

-- the tree stands over the pool as the rows extend it
abbrev pub stands : Pool → Cert → Bool
stands pool cert = some_and (extended pool.params cert.rows pool.clauses) (λ clauses. tree_stands pool.params clauses cert.tree [] [])

-- the certificate stands for the pool
abbrev pub Stands : Pool → Cert → Type 0
Stands pool cert = IsTrue (stands pool cert)
