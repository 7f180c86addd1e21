use Rattle.std.proofs.Common.{◌≡◌, ◌++◌, map, drop}
use Rattle.hier_rules.specs.CountedPlaces.{place_of}
use Rattle.hier_rules.proofs.places.push_side_places.Given as goal

abbrev pub invariant-loop-path : goal.invariant-loop-path
invariant-loop-path l =
    l.all ++ map (place_of l.literal l.side) (drop l.path-index l.path-items)
    ≡ l.fn.all ++ map (place_of l.literal l.side) l.path-items
