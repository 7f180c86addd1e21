use Rattle.std.proofs.Common.{◌≡◌, [], drop}
use Rattle.bg_view.specs.Unknowns.{all_noted, variables_in_literals}
use Rattle.bg_view.proofs.unknowns.variables_of.Given as goal

abbrev pub invariant-loop-literal : goal.invariant-loop-literal
invariant-loop-literal l = all_noted [] (variables_in_literals l.literal-items) ≡ all_noted l.variables.keys (variables_in_literals (drop l.literal-index l.literal-items))
