use Rattle.std.proofs.Common.{◌≡◌, map, drop}
use Rattle.linear_form.specs.FormOf.{known}
use Rattle.linear_form.specs.Normal.{has_same}
use Rattle.linear_form.proofs.normal.has_same.Given as goal

abbrev pub invariant-loop-other : goal.invariant-loop-other
invariant-loop-other l = has_same (map known l.others) (known l.k) ≡ has_same (map known (drop l.other-index l.others)) (known l.k)
