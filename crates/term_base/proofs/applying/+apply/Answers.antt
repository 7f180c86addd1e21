use Rattle.std.proofs.Common.{arith}
use Rattle.std.proofs.lemmas.Grind.{common_steps}
use Rattle.term_base.specs.Substitution.{image}
use Rattle.term_base.specs.TreeLists.{applied-App}
use Rattle.term_base.proofs.applying.+apply.Goals as goal

pub returns-after-loop-arg : goal.returns-after-loop-arg
returns-after-loop-arg t c = applied-App (image c.args.s.now) c.args.t.now c.in-App.f c.in-App.args c.loop-arg.all c.in-App.is (grind (arith, common_steps))
