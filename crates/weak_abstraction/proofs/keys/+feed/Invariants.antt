use Rattle.std.proofs.Common.{◌≡◌, map, drop, fold}
use Rattle.weak_abstraction.specs.Keys.{fed, fed_in_turn}
use Rattle.weak_abstraction.proofs.keys.+feed.Given as goal

abbrev pub invariant-loop-arg : goal.invariant-loop-arg
invariant-loop-arg g l =
    fold g.H.Hasher.write l.state (fed_in_turn (map fed (drop l.arg-index l.arg-items)))
    ≡ fold g.H.Hasher.write l.initial.state (fed_in_turn (map fed l.arg-items))
