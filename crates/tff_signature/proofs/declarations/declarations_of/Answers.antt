use Rattle.std.proofs.Common.{subst, take, arith}
use Rattle.tff_signature.specs.Declarations.{declarations}
use Rattle.tff_signature.specs.Tables.{Declares}
use Rattle.tff_signature.proofs.TableLemmas.{declarations_next}
use Rattle.tff_signature.proofs.declarations.declarations_of.Goals as goal

pub loop-statement-preserved : goal.loop-statement-preserved
loop-statement-preserved c =
    let i = c.loop-statement.statement-index in
    let statements = c.args.statements.now in
    subst (λ ds. Declares c.args.text.now c.add_content.new.self ds) (declarations_next statements i c.statement-item.result (omega arith) c.statement-item.is)
    (c.in_ok-add_content.ensures (declarations (take i statements)) c.loop-statement.invariant)
