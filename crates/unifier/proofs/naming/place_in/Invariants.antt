use Rattle.std.proofs.Common.{◌≡◌, ◌+◌, drop}
use Rattle.unifier.specs.Naming.{place_in}
use Rattle.unifier.proofs.naming.place_in.Given as goal

abbrev pub invariant-loop-w : goal.invariant-loop-w
invariant-loop-w l = place_in l.list l.v ≡ l.place + place_in (drop l.w-index l.list) l.v
