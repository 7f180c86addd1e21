use Rattle.std.proofs.Common.{map, arith}
use Rattle.std.proofs.lemmas.Grind.{common_steps}
use Rattle.term_base.specs.Lits.{lit}
use Rattle.term_base.specs.TreeLists.{applied-App}
use Rattle.define_rule.specs.Pins.{pin}
use Rattle.define_rule.proofs.filling.+put_pins.Goals as goal

pub returns-after-loop-arg : goal.returns-after-loop-arg
returns-after-loop-arg t c =
    applied-App (pin c.args.signature.now (map lit c.args.literals.now)) c.args.t.now c.in-App.f c.in-App.args c.loop-arg.all c.in-App.is (grind (arith, common_steps))
