use Rattle.std.proofs.Common.{◌≡◌, map, drop, fold}
use Rattle.term_base.specs.Lits.{lit}
use Rattle.weak_abstraction.specs.Targets.{targets}
use Rattle.weak_abstraction.specs.Abstracted.{add_new, each_once}
use Rattle.weak_abstraction.specs.Keys.{terms}
use Rattle.weak_abstraction.proofs.finding.different_targets.Given as goal

abbrev pub invariant-loop-literal : goal.invariant-loop-literal
invariant-loop-literal l =
    fold add_new (terms l.found.keys) (targets l.signature (map lit (drop l.literal-index l.literal-items)))
    ≡ each_once (targets l.signature (map lit l.literal-items))
