-- The number of nodes of a term, each variant counted as one, of a literal and of a clause.
use Rattle.std.specs.Prelude.{ℕ, ◌+◌, sum_by}
use Rattle.std.specs.List.{sum}
use Rattle.term_base.specs.declared.clauses.Clause.{Clause}
use Rattle.term_base.specs.declared.clauses.Literal.{Literal}
use Rattle.term_base.specs.declared.clauses.Literal.TheVariants.{Equal, Differ, AtMost}
use Rattle.term_base.specs.declared.terms.Term.{Term}
use Rattle.term_base.specs.declared.terms.Term.TheOpen.{Term-F, Var, Num, True, Sum, Scale, App}
use Rattle.term_base.specs.declared.terms.Term.TheFolds.{fold-Term}

abbrev pub nodes_step : Term-F ℕ → ℕ
nodes_step (Var v) = 1
nodes_step (Num n) = 1
nodes_step True = 1
nodes_step (Sum a b) = 1 + a + b
nodes_step (Scale k a) = 1 + a
nodes_step (App f args) = 1 + sum args

abbrev pub nodes : Term → ℕ
nodes = fold-Term ℕ nodes_step

-- a literal has the nodes of its sides
abbrev pub literal_nodes : Literal → ℕ
literal_nodes (Equal s t) = nodes s + nodes t
literal_nodes (Differ s t) = nodes s + nodes t
literal_nodes (AtMost s t) = nodes s + nodes t

-- a clause has the nodes of its literals
abbrev pub clause_nodes : Clause → ℕ
clause_nodes c = sum_by literal_nodes c.literals
