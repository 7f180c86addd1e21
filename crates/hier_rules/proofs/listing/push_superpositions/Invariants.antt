use Rattle.std.proofs.Common.{◌≡◌, ◌++◌, drop}
use Rattle.hier_rules.specs.Candidates.{superpositions_from}
use Rattle.hier_rules.proofs.listing.push_superpositions.Given as goal

abbrev pub invariant-loop-place : goal.invariant-loop-place
invariant-loop-place l =
    l.all ++ superpositions_from l.cs l.ds (drop l.place-index l.places) l.from
    ≡ l.fn.all ++ superpositions_from l.cs l.ds l.places l.from
