use Rattle.std.proofs.lemmas.Result.{MatchResult-weaker}
use Rattle.term_text.proofs.Printed.{adds-slice}
use Rattle.text_pieces.proofs.Keeping.{by_added, then_kept, puts_err}
use Rattle.term_text.proofs.ExactTexts.{puts_clause}
use Rattle.term_text.proofs.clause_printing.push_clause_line.Goals as goal

pub returns-in_ok-push_literal-in-len1-up-clause-spelled : goal.returns-in_ok-push_literal-in-len1-up-clause-spelled
returns-in_ok-push_literal-in-len1-up-clause-spelled c =
    MatchResult-weaker c.push_more.result c.push_more.ensures (λ d e. adds-slice c.args.c.now c.as_slice.result.now c.first-item.result c.args.text.now.items c.push_literal.new.text.items c.push_more.new.text.items c.as_slice.ensures c.in-len1-up.len_at_least c.first-item.is c.in_ok-push_literal-in-len1-up.ensures e) (λ d k. then_kept (by_added c.in_ok-push_literal-in-len1-up.ensures) k)

pub returns-in_err-push_literal-in-len1-up-clause-spelled : goal.returns-in_err-push_literal-in-len1-up-clause-spelled
returns-in_err-push_literal-in-len1-up-clause-spelled c = puts_err _ _ _ c.from_residual.result c.from_residual.ensures.1 c.in_err-push_literal-in-len1-up.ensures

pub returns-in_ok-push_literal-in-len1-up-clause-exact : goal.returns-in_ok-push_literal-in-len1-up-clause-exact
returns-in_ok-push_literal-in-len1-up-clause-exact c = puts_clause c.args.c.now c.args.text.now.items c.push_more.new.text.items c.push_more.result (returns-in_ok-push_literal-in-len1-up-clause-spelled c)
