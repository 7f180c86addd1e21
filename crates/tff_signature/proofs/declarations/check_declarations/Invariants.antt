use Rattle.std.proofs.Common.{◌≡◌, drop}
use Rattle.std.specs.List.{flat_map}
use Rattle.tff_signature.specs.Declarations.{declarations, content_faults, sort_names, phase_2}
use Rattle.tff_signature.specs.Faults.{checked}
use Rattle.tff_signature.proofs.declarations.check_declarations.Given as goal

abbrev pub invariant-loop-statement : goal.invariant-loop-statement
invariant-loop-statement l =
    let ds = declarations l.statements in
    checked (phase_2 l.text l.statements) ≡ checked (flat_map (λ s. content_faults l.text ds (sort_names l.text ds) s.content) (drop l.statement-index l.statements))
