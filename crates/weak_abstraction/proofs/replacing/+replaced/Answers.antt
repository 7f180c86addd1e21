use Rattle.std.proofs.Common.{arith}
use Rattle.std.proofs.lemmas.Grind.{common_steps}
use Rattle.weak_abstraction.specs.Abstracted.{named}
use Rattle.weak_abstraction.proofs.Applications.{replaced-App}
use Rattle.weak_abstraction.specs.Keys.{terms}
use Rattle.weak_abstraction.proofs.replacing.+replaced.Goals as goal

pub replaced_below-returns-after-loop-arg : goal.replaced_below-returns-after-loop-arg
replaced_below-returns-after-loop-arg t c =
    let names = c.args.names.now in
    replaced-App c.args.signature.now (named c.args.signature.now names.first (terms names.found.keys)) c.args.t.now c.in-App.f c.in-App.args c.loop-arg.all
    c.is_foreground-counts.result c.in-App.is c.is_foreground-counts.ensures (grind (arith, common_steps))
