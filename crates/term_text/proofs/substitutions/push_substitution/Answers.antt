use Rattle.std.proofs.lemmas.Result.{MatchResult-weaker}
use Rattle.term_text.proofs.SubstReading.{adds-sliced, adds-none}
use Rattle.text_pieces.proofs.Keeping.{as_it_was, by_bytes, then_added, then_kept, puts_err}
use Rattle.term_text.proofs.substitutions.push_substitution.Goals as goal

pub returns-in-empty : goal.returns-in-empty
returns-in-empty c =
    MatchResult-weaker c.push-in-empty.result c.push-in-empty.ensures (λ d e. adds-none c.args.s.now c.pairs.result.now c.args.text.now.items c.push.new.text.items c.push-in-empty.new.text.items c.pairs.ensures.pairs c.in-empty.len_below c.in_ok-push.ensures e) (λ d k. then_kept (by_bytes _ c.in_ok-push.ensures) (as_it_was k))

pub returns-in_ok-push_pair-in-len1-up : goal.returns-in_ok-push_pair-in-len1-up
returns-in_ok-push_pair-in-len1-up c =
    MatchResult-weaker c.push_pairs.result c.push_pairs.ensures (λ d e. adds-sliced c.args.s.now c.pairs.result.now c.first-item.result c.args.text.now.items c.push.new.text.items c.push_pair.new.text.items c.push_pairs.new.text.items c.pairs.ensures.ascending c.pairs.ensures.pairs c.in-len1-up.len_at_least c.first-item.is c.in_ok-push.ensures c.in_ok-push_pair-in-len1-up.ensures e) (λ d k. then_kept (then_added (by_bytes _ c.in_ok-push.ensures) c.in_ok-push_pair-in-len1-up.ensures) k)

pub returns-in_err-push : goal.returns-in_err-push
returns-in_err-push c = puts_err _ _ _ c.from_residual.result c.from_residual.ensures.1 (as_it_was c.in_err-push.ensures)

pub returns-in_err-push_pair-in-len1-up : goal.returns-in_err-push_pair-in-len1-up
returns-in_err-push_pair-in-len1-up c = puts_err _ _ _ c.from_residual-in_err-push_pair-in-len1-up.result c.from_residual-in_err-push_pair-in-len1-up.ensures.1 (then_kept (by_bytes _ c.in_ok-push.ensures) c.in_err-push_pair-in-len1-up.ensures)
