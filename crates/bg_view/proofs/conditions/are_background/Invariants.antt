use Rattle.std.proofs.Common.{◌≡◌, drop}
use Rattle.bg_view.specs.Background.{are_background}
use Rattle.bg_view.proofs.conditions.are_background.Given as goal

abbrev pub invariant-loop-clause : goal.invariant-loop-clause
invariant-loop-clause l = are_background l.signature l.clauses ≡ are_background l.signature (drop l.clause-index l.clauses)
