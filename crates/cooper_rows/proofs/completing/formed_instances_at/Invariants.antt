use Rattle.std.proofs.Common.{◌≡◌, ◌++◌, ◌-◌, map}
use Rattle.std.specs.List.{flat_map}
use Rattle.lin_base.specs.Steps.{first_wide}
use Rattle.cert_tree.specs.Counting.{count_from}
use Rattle.cert_tree.specs.Complete.{moved_steps}
use Rattle.cert_tree.specs.Rows.{row_clause}
use Rattle.cooper_rows.specs.Rows.{moved_row}
use Rattle.cooper_rows.proofs.completing.formed_instances_at.Given as goal

-- what is made so far, and what is left
abbrev pub invariant-loop-j : goal.invariant-loop-j
invariant-loop-j l = record {
  narrow : first_wide (flat_map (moved_steps l.x l.clause l.bound.b l.bound.rest) (count_from 0 l.count)) ≡ first_wide (flat_map (moved_steps l.x l.clause l.bound.b l.bound.rest) (count_from l.j (l.count - l.j)));
  rows : map (moved_row l.number l.x l.bound.b l.bound.rest) (count_from 0 l.count) ≡ l.made.rows ++ map (moved_row l.number l.x l.bound.b l.bound.rest) (count_from l.j (l.count - l.j));
  clauses : l.made.clauses ≡ map (row_clause l.clause) l.made.rows;
}
