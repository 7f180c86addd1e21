use Rattle.std.proofs.lemmas.Result.{MatchResult-weaker}
use Rattle.term_text.proofs.Printed.{adds-declared}
use Rattle.text_pieces.proofs.Keeping.{by_added, then_kept, puts_err}
use Rattle.term_text.proofs.variables.push_declared.Goals as goal

pub returns : goal.returns
returns c =
    MatchResult-weaker c.push_numbered-2.result c.push_numbered-2.ensures (λ d e. adds-declared c.args.n c.args.id c.args.text.now.items c.push_numbered.new.text.items c.push_numbered-2.new.text.items c.in_ok-push_numbered.ensures e) (λ d k. then_kept (by_added c.in_ok-push_numbered.ensures) k)

pub returns-in_err-push_numbered : goal.returns-in_err-push_numbered
returns-in_err-push_numbered c = puts_err _ _ _ c.from_residual.result c.from_residual.ensures.1 c.in_err-push_numbered.ensures
