-- Literals and clauses weigh at least as much as they have nodes.
use Rattle.std.proofs.Common.{◌≤◌, List, [], ◌∷◌, map, arith}
use Rattle.std.proofs.lemmas.List.Sums.{sum_by-cons}
use Rattle.std.specs.Prelude.{sum_by}
use Rattle.term_base.specs.declared.clauses.Clause.{Clause}
use Rattle.term_base.specs.declared.clauses.Literal.{Literal}
use Rattle.term_base.specs.declared.clauses.Literal.TheVariants.{Equal, Differ, AtMost}
use Rattle.term_base.specs.Lits.{lit, lits}
use Rattle.term_base.specs.Weight.{lit_weight, clause_weight}
use Rattle.term_base.specs.Nodes.{literal_nodes, clause_nodes}
use Rattle.term_base.proofs.LawLemmas.{nodes-weight}

pub literal_nodes-weight : (l : Literal) → literal_nodes l ≤ lit_weight (lit l)
literal_nodes-weight (Equal s t) = let a = nodes-weight s in let b = nodes-weight t in omega arith
literal_nodes-weight (Differ s t) = let a = nodes-weight s in let b = nodes-weight t in omega arith
literal_nodes-weight (AtMost s t) = let a = nodes-weight s in let b = nodes-weight t in omega arith

literals_nodes-weight : (ls : List Literal) → sum_by literal_nodes ls ≤ clause_weight (map lit ls)
literals_nodes-weight [] = omega arith
literals_nodes-weight (l ∷ ls) =
    let one = literal_nodes-weight l in
    let rest = literals_nodes-weight ls in
    let parts = sum_by-cons literal_nodes l ls in
    let split = sum_by-cons lit_weight (lit l) (map lit ls) in
    rw (parts, split) (omega arith)

pub clause_nodes-weight : (c : Clause) → clause_nodes c ≤ clause_weight (lits c)
clause_nodes-weight c = literals_nodes-weight c.literals
