use Rattle.std.proofs.Common.{◌≡◌, ◌++◌, drop}
use Rattle.hier_rules.specs.Candidates.{factorings_from}
use Rattle.hier_rules.proofs.listing.push_factorings.Given as goal

abbrev pub invariant-loop-second : goal.invariant-loop-second
invariant-loop-second l =
    l.all ++ factorings_from l.cs (drop l.second-index l.sides) l.first
    ≡ l.fn.all ++ factorings_from l.cs l.sides l.first
