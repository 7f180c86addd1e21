use Rattle.std.proofs.Common.{ap, sym, ◌∙◌}
use Rattle.std.specs.Option.{option_copied}
use Rattle.step_rules.proofs.Items.{disequation-there, disequation-none}
use Rattle.step_rules.proofs.inferences.disequation_at.Goals as goal

pub returns-in-Some : goal.returns-in-Some
returns-in-Some c = rw (disequation-there c.args.c.now c.args.literal c.in-Some.l.now (sym c.get.ensures.value ∙ ap option_copied c.in-Some.is)) c.differing_sides.ensures

pub returns-in-None : goal.returns-in-None
returns-in-None c = disequation-none c.args.c.now c.args.literal (sym c.get.ensures.value ∙ ap option_copied c.in-None.is)
