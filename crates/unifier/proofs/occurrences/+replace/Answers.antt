use Rattle.std.proofs.Common.{arith}
use Rattle.std.proofs.lemmas.Grind.{common_steps}
use Rattle.term_base.specs.Substitution.{single}
use Rattle.term_base.specs.Trees.{tree}
use Rattle.term_base.specs.TreeLists.{applied-App}
use Rattle.unifier.proofs.occurrences.+replace.Goals as goal

pub returns-after-loop-arg : goal.returns-after-loop-arg
returns-after-loop-arg t c = applied-App (single c.args.v (tree c.args.new.now)) c.args.t.now c.in-App.f c.in-App.args c.loop-arg.all c.in-App.is (grind (arith, common_steps))
