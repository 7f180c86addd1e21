use Rattle.std.proofs.Common.{◌≡◌, ◌++◌, drop}
use Rattle.bg_view.specs.View.{first_wide_at, clauses_steps, clauses_facts}
use Rattle.bg_view.proofs.views.clauses_facts.Given as goal

abbrev pub invariant-loop-clause : goal.invariant-loop-clause
invariant-loop-clause l =
    (l.number ≡ l.clause-index)
    × (first_wide_at 0 (clauses_steps l.symbols l.params l.clauses) ≡ first_wide_at l.number (clauses_steps l.symbols l.params (drop l.clause-index l.clauses)))
    × (clauses_facts l.symbols l.params l.clauses ≡ l.pool ++ clauses_facts l.symbols l.params (drop l.clause-index l.clauses))
