use Rattle.std.proofs.Common.{drop-cons, refl}
use Rattle.std.specs.Prelude.{codes}
use Rattle.std.proofs.lemmas.Result.{MatchResult-weaker}
use Rattle.text_pieces.specs.Numbers.{Number, Word32}
use Rattle.text_pieces.specs.Fronts.{Front}
use Rattle.text_pieces.proofs.Putting.{put_none, put_at, put_end}
use Rattle.text_pieces.proofs.Keeping.{as_it_was, then_added, then_kept, puts_err}
use Rattle.term_text.proofs.places.push_path.Goals as goal

pub loop-step-init : goal.loop-step-init
loop-step-init c = (put_none (λ (u : Unit {0}). Front (codes ".") (Number Word32)) (λ u n. u) (codes " ") tt c.args.steps.now c.args.text.now.items, as_it_was refl)

pub loop-step-preserved : goal.loop-step-preserved
loop-step-preserved c =
    (put_at (λ (u : Unit {0}). Front (codes ".") (Number Word32)) (λ u n. u) (codes " ") tt tt c.args.steps.now c.loop-step.step-index _ c.args.text.now.items c.loop-step.text.items c.push_dotted.new.text.items (drop-cons c.args.steps.now c.loop-step.step-index 0 c.loop-step-test.true) c.loop-step.invariant.0 c.in_ok-push_dotted.ensures, then_added c.loop-step.invariant.1 c.in_ok-push_dotted.ensures)

pub returns : goal.returns
returns c =
    MatchResult-weaker c.push.result c.push.ensures (λ d e. put_end (λ (u : Unit {0}). Front (codes ".") (Number Word32)) (λ u n. u) (codes " ") tt tt c.args.steps.now c.loop-step.step-index c.args.text.now.items c.loop-step.text.items c.push.new.text.items c.loop-step-test.false c.loop-step.invariant.0 e) (λ d k. then_kept c.loop-step.invariant.1 (as_it_was k))

pub returns-in_err-push_dotted : goal.returns-in_err-push_dotted
returns-in_err-push_dotted c = puts_err _ _ _ c.from_residual.result c.from_residual.ensures.1 (then_kept c.loop-step.invariant.1 c.in_err-push_dotted.ensures)
