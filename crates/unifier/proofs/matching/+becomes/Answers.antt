use Rattle.term_base.specs.Substitution.{image}
use Rattle.unifier.proofs.MatchingLemmas.{each_ended}
use Rattle.unifier.proofs.matching.+becomes.Goals as goal

pub each_becomes-returns : goal.each_becomes-returns
each_becomes-returns t c =
    each_ended c.is_empty.result _ (image c.args.s.now) c.args.xs.now c.loop-x.rest.now c.loop-x.x-index c.loop-x-test.false c.is_empty.ensures c.loop-x.invariant
