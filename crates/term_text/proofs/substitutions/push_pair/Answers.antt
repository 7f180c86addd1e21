use Rattle.std.proofs.lemmas.Result.{MatchResult-weaker}
use Rattle.term_text.proofs.SubstReading.{adds-pair}
use Rattle.text_pieces.proofs.Keeping.{as_it_was, by_added, by_bytes, then_kept, puts_err}
use Rattle.term_text.proofs.substitutions.push_pair.Goals as goal

pub returns : goal.returns
returns c =
    MatchResult-weaker c.push_term.result c.push_term.ensures.spelled (λ d e. adds-pair c.args.pair.now.0 c.args.pair.now.1 c.args.text.now.items c.push_variable.new.text.items c.push.new.text.items c.push_term.new.text.items c.in_ok-push_variable.ensures c.in_ok-push.ensures e) (λ d k. then_kept (then_kept (by_added c.in_ok-push_variable.ensures) (by_bytes _ c.in_ok-push.ensures)) k)

pub returns-in_err-push_variable : goal.returns-in_err-push_variable
returns-in_err-push_variable c = puts_err _ _ _ c.from_residual.result c.from_residual.ensures.1 c.in_err-push_variable.ensures

pub returns-in_err-push : goal.returns-in_err-push
returns-in_err-push c = puts_err _ _ _ c.from_residual-in_err-push.result c.from_residual-in_err-push.ensures.1 (then_kept (by_added c.in_ok-push_variable.ensures) (as_it_was c.in_err-push.ensures))
