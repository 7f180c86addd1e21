use Rattle.std.proofs.Common.{◌≡◌, drop}
use Rattle.std.specs.List.{flat_map}
use Rattle.tff_signature.specs.Declarations.{sort_faults}
use Rattle.tff_signature.specs.Faults.{checked}
use Rattle.tff_signature.proofs.declarations.check_sorts.Given as goal

abbrev pub invariant-loop-sort : goal.invariant-loop-sort
invariant-loop-sort l = checked (flat_map (sort_faults l.text l.sorts) l.these) ≡ checked (flat_map (sort_faults l.text l.sorts) (drop l.sort-index l.these))
