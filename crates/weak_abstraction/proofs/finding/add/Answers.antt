use Rattle.std.proofs.Common.{◌∙◌, ap}
use Rattle.weak_abstraction.specs.Keys.{terms}
use Rattle.weak_abstraction.proofs.KeyLemmas.{inserted}
use Rattle.weak_abstraction.proofs.finding.add.Goals as goal

pub returns : goal.returns
returns c = ap terms c.in_ok-insert_full.ensures.keys ∙ inserted c.args.found.now.keys (record { term = c.args.t })
