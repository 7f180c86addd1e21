use Rattle.std.proofs.Common.{◌≡◌, ◌++◌, ◌-◌, map}
use Rattle.lin_base.specs.Steps.{first_wide}
use Rattle.cert_tree.specs.Counting.{count_from}
use Rattle.cert_tree.specs.Complete.{numbered_low_steps}
use Rattle.cert_tree.specs.Rows.{row_clause}
use Rattle.cooper_rows.specs.Rows.{low_rows}
use Rattle.cooper_rows.proofs.completing.formed_lows_at.Given as goal

-- what is made so far, and what is left
abbrev pub invariant-loop-j : goal.invariant-loop-j
invariant-loop-j l = record {
  narrow : first_wide (numbered_low_steps l.x l.clause (count_from 0 l.count)) ≡ first_wide (numbered_low_steps l.x l.clause (count_from l.j (l.count - l.j)));
  rows : low_rows l.number l.x (count_from 0 l.count) ≡ l.made.rows ++ low_rows l.number l.x (count_from l.j (l.count - l.j));
  clauses : l.made.clauses ≡ map (row_clause l.clause) l.made.rows;
}
