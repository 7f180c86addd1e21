use Rattle.std.proofs.Common.{◌≡◌, map, take}
use Rattle.normal_form.specs.Numbering.{renumber}
use Rattle.normal_form.proofs.numbering.+renumber.Given as goal

abbrev pub invariant-loop-arg : goal.invariant-loop-arg
invariant-loop-arg l = l.all ≡ map (renumber l.ordinary l.places.keys) (take l.arg-index l.arg-items)
