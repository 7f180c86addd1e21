use Rattle.std.proofs.Common.{ap, sym, ◌∙◌}
use Rattle.std.specs.Option.{option_copied}
use Rattle.step_rules.proofs.Items.{equation-there, equation-none}
use Rattle.step_rules.proofs.inferences.equation_at.Goals as goal

pub returns-in-Some : goal.returns-in-Some
returns-in-Some c = rw (equation-there c.args.c.now c.args.literal c.args.side c.in-Some.l.now (sym c.get.ensures.value ∙ ap option_copied c.in-Some.is)) c.sides_of.ensures

pub returns-in-None : goal.returns-in-None
returns-in-None c = equation-none c.args.c.now c.args.literal c.args.side (sym c.get.ensures.value ∙ ap option_copied c.in-None.is)
