use Rattle.std.proofs.Common.{sym, subst, arith}
use Rattle.proof_text.specs.Derivations.{SpellsDerivation}
use Rattle.proof_text.proofs.StepFronts.{sure-derivation}
use Rattle.proof_text.proofs.Parsing.{failed, part_read}
use Rattle.proof_text.specs.Parsing.{WhereBad}
use Rattle.proof_text.proofs.derivations.parse_derivation.Goals as goal

pub returns-in-Ok : goal.returns-in-Ok
returns-in-Ok c = subst (WhereBad SpellsDerivation c.args.bytes.now) (sym c.bad.ensures) (part_read SpellsDerivation sure-derivation.one c.in-Ok.ensures (omega (arith, c.in-Ok.len_at_least)))

pub returns-in-Err-Bad : goal.returns-in-Err-Bad
returns-in-Err-Bad c =
    let f = rw c.in-Err-Bad.field-0-is at c.in-Err-Bad.ensures in
    subst (WhereBad SpellsDerivation c.args.bytes.now) (sym c.bad-in-Err-Bad.ensures) (failed SpellsDerivation f)
