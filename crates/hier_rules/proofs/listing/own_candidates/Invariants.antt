use Rattle.std.proofs.Common.{◌≡◌, ◌++◌, drop}
use Rattle.std.specs.Prelude.{flat_map}
use Rattle.hier_rules.specs.Candidates.{factorings_from}
use Rattle.hier_rules.proofs.listing.own_candidates.Given as goal

abbrev pub invariant-loop-first : goal.invariant-loop-first
invariant-loop-first l =
    l.all ++ flat_map (factorings_from l.cs l.first-items) (drop l.first-index l.first-items)
    ≡ l.initial.all ++ flat_map (factorings_from l.cs l.first-items) l.first-items
