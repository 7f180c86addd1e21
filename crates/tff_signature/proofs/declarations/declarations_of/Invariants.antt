use Rattle.std.proofs.Common.{take}
use Rattle.tff_signature.specs.Declarations.{declarations}
use Rattle.tff_signature.specs.Tables.{Declares}
use Rattle.tff_signature.proofs.declarations.declarations_of.Given as goal

abbrev pub invariant-loop-statement : goal.invariant-loop-statement
invariant-loop-statement l = Declares l.text l.declared (declarations (take l.statement-index l.statements))
