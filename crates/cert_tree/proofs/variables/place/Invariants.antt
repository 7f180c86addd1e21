use Rattle.std.proofs.Common.{◌≡◌, ◌++◌, take, drop}
use Rattle.lin_base.specs.Unknowns.{put_in}
use Rattle.cert_tree.proofs.variables.place.Given as goal

abbrev pub invariant-loop-i : goal.invariant-loop-i
invariant-loop-i l = put_in l.x l.xs ≡ take l.i l.xs ++ put_in l.x (drop l.i l.xs)
