use Rattle.std.proofs.Common.{sym, ◌∙◌, arith}
use Rattle.tff_lexer.proofs.SkipLemmas.{shorter, skip_step}
use Rattle.tff_lexer.proofs.blanks.skip_blanks.Goals as goal

pub loop-more-smaller : goal.loop-more-smaller
loop-more-smaller c = shorter c.loop-more.rest.now c.in-Some.more.now (sym (c.in-Some.ensures))

pub loop-more-preserved : goal.loop-more-preserved
loop-more-preserved c =
    let e = sym (c.in-Some.ensures) in
    let less = shorter c.loop-more.rest.now c.in-Some.more.now e in
    record {
      same = skip_step c.loop-more.rest.now c.in-Some.more.now e ∙ c.loop-more.invariant.same;
      within = omega (arith, less);
    }
