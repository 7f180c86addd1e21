use Rattle.std.proofs.Common.{◌≡◌, ◌∙◌, ap, get_or, map, rules}
use Rattle.term_base.specs.Lits.{lit}
use Rattle.term_order.specs.LiteralTest.{some_above}
use Rattle.term_order.proofs.LiteralLemmas.{literal_at, maximal_told}
use Rattle.term_order.proofs.literals.is_maximal.Goals as goal

pub returns : goal.returns
returns c =
    let S = c.args.signature.now in
    let ls = c.args.c.now.literals in
    let i = c.args.literal in
    let l = c.index-literals-number.result in
    let same : c.as_slice-literals.result.now ≡ ls = search rules in
    maximal_told S ls i l (literal_at ls i l c.requires (c.index-literals-number.is ∙ ap (λ z. get_or z i l) same)) c.is_below_another.result
    (c.is_below_another.ensures ∙ ap (λ z. some_above S (lit l) i 0 (map lit z)) same)
