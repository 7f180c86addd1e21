use Rattle.std.proofs.Common.{◌≡◌, drop}
use Rattle.arithmetic_answers.specs.Decisions.{first_empty}
use Rattle.arithmetic_answers.proofs.deciding.first_empty.Given as goal

abbrev pub invariant-loop-clause : goal.invariant-loop-clause
invariant-loop-clause l = (l.number ≡ l.clause-index) × (first_empty 0 l.clauses ≡ first_empty l.number (drop l.clause-index l.clauses))
