use Rattle.std.proofs.Common.{refl}
use Rattle.std.specs.Prelude.{codes}
use Rattle.std.proofs.lemmas.Result.{MatchResult-weaker}
use Rattle.text_pieces.specs.Fronts.{Front}
use Rattle.term_text.specs.Clauses.{SpellsLiteral}
use Rattle.text_pieces.proofs.Putting.{adds-front, put_none, put_next, put_end}
use Rattle.text_pieces.proofs.Keeping.{as_it_was, by_bytes, then_added, then_kept, puts_err}
use Rattle.term_text.proofs.clause_printing.push_more.Goals as goal

pub loop-literal-init : goal.loop-literal-init
loop-literal-init c = (put_none (λ (u : Unit {0}). Front (codes " | ") SpellsLiteral) (λ u l. u) (codes "\n") tt c.args.more.now c.args.text.now.items, as_it_was refl)

pub loop-literal-preserved : goal.loop-literal-preserved
loop-literal-preserved c = (
  put_next (λ (u : Unit {0}). Front (codes " | ") SpellsLiteral) (λ u l. u) (codes "\n") tt tt c.args.more.now c.loop-literal.literal-index c.literal-item.result c.args.text.now.items c.loop-literal.text.items c.push_literal.new.text.items c.loop-literal-test.true c.literal-item.is c.loop-literal.invariant.0
      (adds-front (codes " | ") SpellsLiteral c.literal-item.result c.loop-literal.text.items c.push.new.text.items c.push_literal.new.text.items c.in_ok-push.ensures c.in_ok-push_literal.ensures),
  then_added (then_kept c.loop-literal.invariant.1 (by_bytes _ c.in_ok-push.ensures)) c.in_ok-push_literal.ensures,
)

pub returns : goal.returns
returns c =
    MatchResult-weaker c.push-2.result c.push-2.ensures (λ d e. put_end (λ (u : Unit {0}). Front (codes " | ") SpellsLiteral) (λ u l. u) (codes "\n") tt tt c.args.more.now c.loop-literal.literal-index c.args.text.now.items c.loop-literal.text.items c.push-2.new.text.items c.loop-literal-test.false c.loop-literal.invariant.0 e) (λ d k. then_kept c.loop-literal.invariant.1 (as_it_was k))

pub returns-in_err-push : goal.returns-in_err-push
returns-in_err-push c = puts_err _ _ _ c.from_residual.result c.from_residual.ensures.1 (then_kept c.loop-literal.invariant.1 (as_it_was c.in_err-push.ensures))

pub returns-in_err-push_literal : goal.returns-in_err-push_literal
returns-in_err-push_literal c = puts_err _ _ _ c.from_residual-in_err-push_literal.result c.from_residual-in_err-push_literal.ensures.1 (then_kept (then_kept c.loop-literal.invariant.1 (by_bytes _ c.in_ok-push.ensures)) c.in_err-push_literal.ensures)
