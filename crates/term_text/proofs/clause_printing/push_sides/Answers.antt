use Rattle.std.proofs.Common.{◌++◌, ◌∙◌, ap}
use Rattle.std.proofs.lemmas.Result.{MatchResult-weaker}
use Rattle.term_text.proofs.Printed.{adds-literal}
use Rattle.text_pieces.proofs.Keeping.{as_it_was, by_added, by_bytes, then_kept, puts_err}
use Rattle.term_text.proofs.clause_printing.push_sides.Goals as goal

pub returns : goal.returns
returns c =
    MatchResult-weaker c.push_term-2.result c.push_term-2.ensures.spelled (λ d e. adds-literal c.args.s.now c.args.relation c.args.t.now c.args.text.now.items c.push_term.new.text.items c.push.new.text.items c.push-2.new.text.items c.push-3.new.text.items c.push_term-2.new.text.items c.in_ok-push_term.ensures.spelled c.in_ok-push.ensures (c.in_ok-push-2.ensures ∙ ap (λ w. c.push.new.text.items ++ w) c.relation_word.ensures) c.in_ok-push-3.ensures e) (λ d k. then_kept (then_kept (then_kept (then_kept (by_added c.in_ok-push_term.ensures.spelled) (by_bytes _ c.in_ok-push.ensures)) (by_bytes _ c.in_ok-push-2.ensures)) (by_bytes _ c.in_ok-push-3.ensures)) k)

pub returns-in_err-push_term : goal.returns-in_err-push_term
returns-in_err-push_term c = puts_err _ _ _ c.from_residual.result c.from_residual.ensures.1 c.in_err-push_term.ensures.spelled

pub returns-in_err-push : goal.returns-in_err-push
returns-in_err-push c = puts_err _ _ _ c.from_residual-in_err-push.result c.from_residual-in_err-push.ensures.1 (then_kept (by_added c.in_ok-push_term.ensures.spelled) (as_it_was c.in_err-push.ensures))

pub returns-in_err-push-2 : goal.returns-in_err-push-2
returns-in_err-push-2 c = puts_err _ _ _ c.from_residual-in_err-push-2.result c.from_residual-in_err-push-2.ensures.1 (then_kept (then_kept (by_added c.in_ok-push_term.ensures.spelled) (by_bytes _ c.in_ok-push.ensures)) (as_it_was c.in_err-push-2.ensures))

pub returns-in_err-push-3 : goal.returns-in_err-push-3
returns-in_err-push-3 c = puts_err _ _ _ c.from_residual-in_err-push-3.result c.from_residual-in_err-push-3.ensures.1 (then_kept (then_kept (then_kept (by_added c.in_ok-push_term.ensures.spelled) (by_bytes _ c.in_ok-push.ensures)) (by_bytes _ c.in_ok-push-2.ensures)) (as_it_was c.in_err-push-3.ensures))
