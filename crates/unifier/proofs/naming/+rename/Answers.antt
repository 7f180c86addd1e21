use Rattle.std.proofs.Common.{arith}
use Rattle.std.proofs.lemmas.Grind.{common_steps}
use Rattle.term_base.specs.Trees.{var}
use Rattle.term_base.specs.TreeLists.{applied-App}
use Rattle.unifier.specs.Naming.{new_name}
use Rattle.unifier.proofs.naming.+rename.Goals as goal

pub returns-after-loop-arg : goal.returns-after-loop-arg
returns-after-loop-arg t c = applied-App (λ z. var (new_name c.args.forced.now c.args.known.now z)) c.args.t.now c.in-App.f c.in-App.args c.loop-arg.all c.in-App.is (grind (arith, common_steps))
