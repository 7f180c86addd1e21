use Rattle.std.proofs.Common.{◌∙◌, sym, ap}
use Rattle.term_base.specs.SimpleTest.{are_simple_pairs}
use Rattle.term_base.proofs.SimpleLemmas.{simple_pairs, pairs_simple}
use Rattle.term_base.proofs.purities.is_simple.Goals as goal

pub returns : goal.returns
returns c =
    let signature = c.args.signature.now in
    let is = c.are_simple_pairs.ensures ∙ ap (are_simple_pairs signature) c.pairs.ensures.pairs in
    ((λ h. simple_pairs signature c.args.s.now (sym is ∙ h)), (λ simple. is ∙ pairs_simple signature c.args.s.now c.pairs.ensures.ascending simple))
