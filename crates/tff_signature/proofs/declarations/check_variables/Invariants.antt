use Rattle.std.proofs.Common.{◌≡◌, drop}
use Rattle.std.specs.List.{flat_map}
use Rattle.tff_signature.specs.Declarations.{variable_faults}
use Rattle.tff_signature.specs.Faults.{checked}
use Rattle.tff_signature.proofs.declarations.check_variables.Given as goal

abbrev pub invariant-loop-variable : goal.invariant-loop-variable
invariant-loop-variable l = checked (flat_map (variable_faults l.text l.sorts) l.variables) ≡ checked (flat_map (variable_faults l.text l.sorts) (drop l.variable-index l.variables))
