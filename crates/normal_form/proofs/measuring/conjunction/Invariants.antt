use Rattle.std.proofs.Common.{◌≡◌, map, drop, fold}
use Rattle.normal_form.specs.Measures.{always, both, counts}
use Rattle.normal_form.proofs.measuring.conjunction.Given as goal

abbrev pub invariant-loop-part : goal.invariant-loop-part
invariant-loop-part l = fold both l.counts (map counts (drop l.part-index l.part-items)) ≡ fold both always (map counts l.part-items)
