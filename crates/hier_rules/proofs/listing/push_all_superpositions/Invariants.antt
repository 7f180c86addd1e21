use Rattle.std.proofs.Common.{◌≡◌, ◌++◌, drop}
use Rattle.std.specs.List.{flat_map}
use Rattle.hier_rules.specs.Candidates.{superpositions_from}
use Rattle.hier_rules.proofs.listing.push_all_superpositions.Given as goal

abbrev pub invariant-loop-from : goal.invariant-loop-from
invariant-loop-from l =
    l.all ++ flat_map (superpositions_from l.cs l.ds l.places) (drop l.from-index l.sides)
    ≡ l.fn.all ++ flat_map (superpositions_from l.cs l.ds l.places) l.sides
