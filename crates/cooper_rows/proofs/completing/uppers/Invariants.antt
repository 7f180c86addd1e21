use Rattle.std.proofs.Common.{◌≡◌, ◌++◌, drop, map, length}
use Rattle.lin_base.specs.Numbers.{results}
use Rattle.cert_tree.specs.Complete.{uppers_steps}
use Rattle.cert_tree.specs.Rows.{row_clause}
use Rattle.cooper_rows.specs.Rows.{uppers_rows}
use Rattle.cooper_rows.proofs.Budgets.{Due}
use Rattle.cooper_rows.proofs.completing.uppers.Given as goal

-- what is due, what is made so far and what is left
abbrev pub invariant-loop-fact : goal.invariant-loop-fact
invariant-loop-fact l = record {
  due : Due l.room l.initial.room (length (uppers_rows l.number l.x l.d (drop l.fact-index l.clause))) (length (uppers_rows l.number l.x l.d l.clause)) (results (uppers_steps l.x l.clause l.d (drop l.fact-index l.clause))) (results (uppers_steps l.x l.clause l.d l.clause));
  rows : uppers_rows l.number l.x l.d l.clause ≡ l.made.rows ++ uppers_rows l.number l.x l.d (drop l.fact-index l.clause);
  clauses : l.made.clauses ≡ map (row_clause l.clause) l.made.rows;
}
