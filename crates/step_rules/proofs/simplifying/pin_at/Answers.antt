use Rattle.std.proofs.Common.{ap, sym, ◌∙◌}
use Rattle.std.specs.Option.{option_copied}
use Rattle.step_rules.proofs.Items.{pin-there, pin-none}
use Rattle.step_rules.proofs.simplifying.pin_at.Goals as goal

pub returns-in-Some : goal.returns-in-Some
returns-in-Some c = c.pin_of_literal.ensures ∙ sym (pin-there c.args.c.now c.args.literal c.in-Some.l.now (sym c.get.ensures.value ∙ ap option_copied c.in-Some.is))

pub returns-in-None : goal.returns-in-None
returns-in-None c = sym (pin-none c.args.c.now c.args.literal (sym c.get.ensures.value ∙ ap option_copied c.in-None.is))
