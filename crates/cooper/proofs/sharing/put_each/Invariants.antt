use Rattle.std.proofs.Common.{◌≡◌, length}
use Rattle.cooper.specs.Sharing.{put_back}
use Rattle.cooper.proofs.sharing.put_each.Given as goal

abbrev pub invariant-loop-at : goal.invariant-loop-at
invariant-loop-at l = put_back l.places l.facts ≡ put_back l.initial.places l.initial.facts

abbrev pub decreases-loop-at : goal.decreases-loop-at
decreases-loop-at l = length l.places
