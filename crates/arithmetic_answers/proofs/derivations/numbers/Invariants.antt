use Rattle.std.proofs.Common.{◌≡◌, ◌++◌, ◌-◌}
use Rattle.arithmetic_answers.specs.Derivations.{numbers}
use Rattle.arithmetic_answers.proofs.derivations.numbers.Given as goal

abbrev pub invariant-loop-number : goal.invariant-loop-number
invariant-loop-number l = l.all ++ numbers l.number (l.count - l.number) ≡ numbers 0 l.count
