use Rattle.std.proofs.Common.{◌≡◌, ◌++◌, length, reverse}
use Rattle.arithmetic_answers.specs.Derivations.{input_steps}
use Rattle.arithmetic_answers.proofs.derivations.backwards.Given as goal

abbrev pub invariant-loop-clause : goal.invariant-loop-clause
invariant-loop-clause l = input_steps 0 l.clauses ++ reverse l.steps.items ≡ input_steps 0 l.initial.clauses ++ reverse l.initial.steps.items

abbrev pub decreases-loop-clause : goal.decreases-loop-clause
decreases-loop-clause l = length l.clauses
