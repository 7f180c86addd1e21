use Rattle.std.proofs.Common.{rules, FitsSigned, length, subst}
use Rattle.std.specs.Int.{w128}
use Rattle.std.proofs.lemmas.Int.{to_z-of_z}
use Rattle.text_pieces.specs.Languages.{Blank}
use Rattle.text_pieces.specs.Numbers.{Number, Any}
use Rattle.text_pieces.specs.Printing.{Adds}
use Rattle.cert_text.specs.Sums.{Terms}
use Rattle.cert_text.specs.Grammar.{Whole}
use Rattle.cert_text.proofs.Ascending.{adds-lin}
use Rattle.std.proofs.lemmas.Result.{MatchResult-weaker}
use Rattle.text_pieces.proofs.Keeping.{by_added, then_kept, then_added, puts_err}
use Rattle.cert_text.proofs.printing.push_lin.Goals as goal

pub returns-in_err-push_count : goal.returns-in_err-push_count
returns-in_err-push_count c = puts_err _ _ _ c.from_residual.result c.from_residual.ensures.1 (c.in_err-push_count.ensures)

pub returns-in_err-push_terms : goal.returns-in_err-push_terms
returns-in_err-push_terms c = puts_err _ _ _ c.from_residual-in_err-push_terms.result c.from_residual-in_err-push_terms.ensures.1 (then_kept (by_added c.in_ok-push_count.ensures) c.in_err-push_terms.ensures)

pub returns : goal.returns
returns c =
    let t = c.args.t.now in
    let fits : FitsSigned w128 t.constant = search rules in
    let count : Adds (Blank (Number Any)) (length t.coefs) c.args.text.now.items c.push_count.new.text.items =
    subst (λ n. Adds (Blank (Number Any)) n c.args.text.now.items c.push_count.new.text.items) c.len.ensures c.in_ok-push_count.ensures in
    let terms : Adds (Terms (length t.coefs) 0) t.coefs c.push_count.new.text.items c.push_terms.new.text.items =
    subst (λ ts. Adds (Terms (length ts) 0) ts c.push_count.new.text.items c.push_terms.new.text.items) c.as_slice.ensures c.in_ok-push_terms.ensures in
    MatchResult-weaker c.push_whole.result c.push_whole.ensures
    (λ d a. adds-lin t c.args.text.now.items c.push_count.new.text.items c.push_terms.new.text.items c.push_whole.new.text.items count terms (subst (λ z. Adds Whole z c.push_terms.new.text.items c.push_whole.new.text.items) (to_z-of_z w128 t.constant fits) a))
    (λ d k. then_kept (then_added (by_added c.in_ok-push_count.ensures) c.in_ok-push_terms.ensures) k)
