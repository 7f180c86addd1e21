use Rattle.std.proofs.Common.{◌∙◌, ap, map}
use Rattle.std.specs.List.{list_all}
use Rattle.term_base.specs.CoverTest.{is_covered}
use Rattle.term_base.specs.Lits.{lit, lits}
use Rattle.term_base.specs.Substitution.{image}
use Rattle.term_base.proofs.CoverLemmas.{covers-test}
use Rattle.term_base.proofs.covering.covers_by.Goals as goal

pub returns : goal.returns
returns c =
    let test = is_covered (lits c.args.k.now) in
    covers-test c.args.signature.now (image c.args.s.now) (lits c.args.e.now) (lits c.args.k.now) c.are_covered.result
    (c.is_simple.ensures.0 c.if-not-is_simple.false)
    (c.are_covered.ensures
    ∙ ap (λ ks. list_all (is_covered (map lit ks)) (map lit c.as_slice.result.now)) c.as_slice-2.ensures
    ∙ ap (λ ls. list_all test (map lit ls)) c.as_slice.ensures
    ∙ ap (list_all test) c.in_ok-instance.ensures)
