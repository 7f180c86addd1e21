use Rattle.arithmetic_answers.specs.Derivations.{numbers}
use Rattle.arithmetic_answers.proofs.Steps.{next_number}
use Rattle.arithmetic_answers.proofs.derivations.numbers.Goals as goal

pub loop-number-preserved : goal.loop-number-preserved
loop-number-preserved c =
    next_number c.loop-number.all c.push.new.self c.loop-number.number c.args.count (numbers 0 c.args.count) c.in_ok-push.ensures.ok
    c.loop-number-test.true c.loop-number.invariant
