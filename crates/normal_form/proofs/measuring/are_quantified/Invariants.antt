use Rattle.std.proofs.Common.{◌≡◌, drop}
use Rattle.normal_form.specs.Measures.{are_quantified}
use Rattle.normal_form.proofs.measuring.are_quantified.Given as goal

abbrev pub invariant-loop-part : goal.invariant-loop-part
invariant-loop-part l = are_quantified l.parts ≡ are_quantified (drop l.part-index l.parts)
