use Rattle.std.proofs.Common.{◌≡◌, drop}
use Rattle.tff_reader.specs.NumberTerms.{factor}
use Rattle.tff_reader.proofs.products.factor.Given as goal

abbrev pub invariant-loop-number : goal.invariant-loop-number
invariant-loop-number l = factor l.numbers ≡ factor (drop l.number-index l.numbers)
