use Rattle.std.proofs.Common.{◌+◌, map, subst, sym, arith}
use Rattle.std.proofs.lemmas.List.{length-map}
use Rattle.text_pieces.proofs.Choices.{Tried, tried_none, tried_more, tried_all, one_of_reads, word_at}
use Rattle.text_pieces.proofs.words.one_of.Goals as goal

pub loop-i-init : goal.loop-i-init
loop-i-init c = tried_none (map (λ w. w.now) c.args.words.now) c.args.text.now (omega (arith, length-map c.args.words.now (λ w. w.now), c.requires))

pub returns-in-Ok-clause-first : goal.returns-in-Ok-clause-first
returns-in-Ok-clause-first c = c.loop-i.invariant.none

pub returns-in-Ok-clause-reads : goal.returns-in-Ok-clause-reads
returns-in-Ok-clause-reads c = one_of_reads (map (λ w. w.now) c.args.words.now) c.loop-i.i c.args.text.now c.in-Ok.rest.now _ (word_at c.args.words.now c.loop-i.i _ c.loop-i-test.true) c.in-Ok.ensures

pub loop-i-preserved : goal.loop-i-preserved
loop-i-preserved c =
    subst (Tried (map (λ w. w.now) c.args.words.now) (c.loop-i.i + 1) c.args.text.now) (sym c.min-left.ensures)
    (tried_more (map (λ w. w.now) c.args.words.now) c.loop-i.i c.args.text.now c.loop-i.left _ c.in-Err.bad.left c.loop-i.invariant (word_at c.args.words.now c.loop-i.i _ c.loop-i-test.true) c.in-Err.ensures)

pub returns-clause-reads : goal.returns-clause-reads
returns-clause-reads c = tried_all (map (λ w. w.now) c.args.words.now) c.loop-i.i c.args.text.now c.loop-i.left (omega (arith, length-map c.args.words.now (λ w. w.now), c.loop-i-test.false)) c.loop-i.invariant
