use Rattle.std.proofs.Common.{sym, ◌∙◌, ap, arith}
use Rattle.std.specs.Option.{option_copied}
use Rattle.std.proofs.lemmas.Grind.{common_steps}
use Rattle.proof_steps.proofs.EarlierSteps.{steps-more, steps-none, steps-all}
use Rattle.proof_steps.proofs.premises.premises.Goals as goal

pub loop-number-preserved : goal.loop-number-preserved
loop-number-preserved c =
    steps-more c.args.before.now c.args.numbers.now c.loop-number.number-index c.loop-number.all _ c.in-Some.clause.now c.loop-number-test.true
    (sym c.premise.ensures ∙ ap option_copied c.in-Some.is) (grind (arith, common_steps)) c.loop-number.invariant

pub returns-in-None : goal.returns-in-None
returns-in-None c =
    steps-none c.args.before.now c.args.numbers.now c.loop-number.number-index c.loop-number.all c.loop-number-test.true
    (sym c.premise.ensures ∙ ap option_copied c.in-None.is) c.loop-number.invariant

pub returns : goal.returns
returns c = steps-all c.args.before.now c.args.numbers.now c.loop-number.number-index c.loop-number.all c.loop-number-test.false c.loop-number.invariant
