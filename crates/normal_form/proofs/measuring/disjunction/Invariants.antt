use Rattle.std.proofs.Common.{◌≡◌, map, drop, fold}
use Rattle.normal_form.specs.Measures.{always, negated, either, counts}
use Rattle.normal_form.proofs.measuring.disjunction.Given as goal

abbrev pub invariant-loop-part : goal.invariant-loop-part
invariant-loop-part l = fold either l.counts (map counts (drop l.part-index l.part-items)) ≡ fold either (negated always) (map counts l.part-items)
