use Rattle.std.proofs.Common.{refl}
use Rattle.std.specs.Prelude.{codes}
use Rattle.std.proofs.lemmas.Result.{MatchResult-weaker}
use Rattle.text_pieces.specs.Fronts.{Front}
use Rattle.term_text.specs.Substitutions.{SpellsPair}
use Rattle.text_pieces.proofs.Putting.{adds-front, put_none, put_next, put_end}
use Rattle.text_pieces.proofs.Keeping.{as_it_was, by_bytes, then_added, then_kept, puts_err}
use Rattle.term_text.proofs.substitutions.push_pairs.Goals as goal

pub loop-pair-init : goal.loop-pair-init
loop-pair-init c = (put_none (λ (u : Unit {0}). Front (codes ",") SpellsPair) (λ u p. u) (codes "]") tt c.args.pairs.now c.args.text.now.items, as_it_was refl)

pub loop-pair-preserved : goal.loop-pair-preserved
loop-pair-preserved c = (
  put_next (λ (u : Unit {0}). Front (codes ",") SpellsPair) (λ u p. u) (codes "]") tt tt c.args.pairs.now c.loop-pair.pair-index c.pair-item.result c.args.text.now.items c.loop-pair.text.items c.push_pair.new.text.items c.loop-pair-test.true c.pair-item.is c.loop-pair.invariant.0
      (adds-front (codes ",") SpellsPair c.pair-item.result c.loop-pair.text.items c.push.new.text.items c.push_pair.new.text.items c.in_ok-push.ensures c.in_ok-push_pair.ensures),
  then_added (then_kept c.loop-pair.invariant.1 (by_bytes _ c.in_ok-push.ensures)) c.in_ok-push_pair.ensures,
)

pub returns : goal.returns
returns c =
    MatchResult-weaker c.push-2.result c.push-2.ensures (λ d e. put_end (λ (u : Unit {0}). Front (codes ",") SpellsPair) (λ u p. u) (codes "]") tt tt c.args.pairs.now c.loop-pair.pair-index c.args.text.now.items c.loop-pair.text.items c.push-2.new.text.items c.loop-pair-test.false c.loop-pair.invariant.0 e) (λ d k. then_kept c.loop-pair.invariant.1 (as_it_was k))

pub returns-in_err-push : goal.returns-in_err-push
returns-in_err-push c = puts_err _ _ _ c.from_residual.result c.from_residual.ensures.1 (then_kept c.loop-pair.invariant.1 (as_it_was c.in_err-push.ensures))

pub returns-in_err-push_pair : goal.returns-in_err-push_pair
returns-in_err-push_pair c = puts_err _ _ _ c.from_residual-in_err-push_pair.result c.from_residual-in_err-push_pair.ensures.1 (then_kept (then_kept c.loop-pair.invariant.1 (by_bytes _ c.in_ok-push.ensures)) c.in_err-push_pair.ensures)
