use Rattle.std.proofs.lemmas.Iterator.Adapters.{position_from-zero}
use Rattle.lin_base.specs.Fact.{is_false}
use Rattle.cooper.proofs.choosing.first_false.Goals as goal

pub loop-i-init : goal.loop-i-init
loop-i-init c = position_from-zero is_false c.args.facts.now
