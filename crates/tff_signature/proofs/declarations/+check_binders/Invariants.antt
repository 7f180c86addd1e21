use Rattle.std.proofs.Common.{◌≡◌, map, drop}
use Rattle.std.specs.List.{flat_map}
use Rattle.tff_signature.specs.Declarations.{binder_faults}
use Rattle.tff_signature.specs.Faults.{checked}
use Rattle.tff_signature.proofs.declarations.+check_binders.Given as goal

abbrev pub invariant-loop-member : goal.invariant-loop-member
invariant-loop-member l = checked (binder_faults l.text l.sorts l.formula) ≡ checked (flat_map (λ g. g) (map (binder_faults l.text l.sorts) (drop l.member-index l.member-items)))
