use Rattle.std.proofs.Common.{rules, FitsSigned, ◌≡◌, ◌+◌, suc, ◌∷◌, pos, drop, drop-cons, get_or, subst, arith}
use Rattle.std.specs.Int.{w128}
use Rattle.std.proofs.lemmas.Int.{to_z-of_z}
use Rattle.cert_text.specs.Grammar.{Multiple}
use Rattle.text_pieces.specs.Printing.{Adds}
use Rattle.cert_text.proofs.Ascending.{terms_left, terms_put, terms_done, drop_whole}
use Rattle.text_pieces.proofs.Keeping.{by_bytes, then_kept, puts_err}
use Rattle.cert_text.proofs.printing.push_terms.Goals as goal

pub loop-term-init : goal.loop-term-init
loop-term-init c = terms_left c.args.terms.now c.args.text.now.items c.requires

pub loop-term-preserved : goal.loop-term-preserved
loop-term-preserved c =
    let all = c.args.terms.now in
    let i = c.loop-term.term-index in
    let entry = get_or all i (0, pos 0) in
    let fits : FitsSigned w128 entry.1 = search rules in
    let added : Adds Multiple entry c.loop-term.text.items c.push_multiple.new.text.items =
    subst (λ z. Adds Multiple (entry.0, z) c.loop-term.text.items c.push_multiple.new.text.items) (to_z-of_z w128 entry.1 fits) c.in_ok-push_multiple.ensures in
    let next : suc i ≡ i + 1 = omega arith in
    let split = subst (λ j. drop i all ≡ entry ∷ drop j all) next (drop-cons all i (0, pos 0) c.loop-term-test.true) in
    terms_put all (drop i all) (drop (i + 1) all) entry c.args.text.now.items c.loop-term.text.items c.push_multiple.new.text.items split c.loop-term.invariant added

pub returns : goal.returns
returns c =
    let all = c.args.terms.now in
    let i = c.loop-term.term-index in
    terms_done all (drop i all) c.args.text.now.items c.loop-term.text.items (drop_whole i all c.loop-term-test.false) c.loop-term.invariant

pub returns-in_err-push_multiple : goal.returns-in_err-push_multiple
returns-in_err-push_multiple c = puts_err _ _ _ c.from_residual.result c.from_residual.ensures.1 (then_kept (by_bytes _ c.loop-term.invariant.is) c.in_err-push_multiple.ensures)
