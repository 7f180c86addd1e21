use Rattle.std.proofs.Common.{◌≡◌, map, take}
use Rattle.normal_form.specs.Measures.{measures}
use Rattle.normal_form.proofs.measuring.+measure.Given as goal

abbrev pub invariant-measure_all-loop-formula : goal.invariant-measure_all-loop-formula
invariant-measure_all-loop-formula l = l.all ≡ map measures (take l.formula-index l.formulas)
