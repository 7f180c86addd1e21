use Rattle.term_base.specs.Trees.{tree}
use Rattle.unifier.proofs.AnswerLemmas.{pair_alone, pair_others_alone}
use Rattle.unifier.proofs.NumberLemmas.{pair_numbered_alone}
use Rattle.unifier.proofs.unifying.unify.Goals as goal

pub returns-clause-some : goal.returns-clause-some
returns-clause-some c = pair_alone c.unify_over.result c.args.signature.now (tree c.args.l.now) (tree c.args.u.now) c.unify_over.ensures.some

pub returns-clause-numbered : goal.returns-clause-numbered
returns-clause-numbered c = pair_numbered_alone c.unify_over.result (tree c.args.l.now) (tree c.args.u.now) c.unify_over.ensures.numbered

pub returns-clause-others : goal.returns-clause-others
returns-clause-others c = pair_others_alone c.unify_over.result (tree c.args.l.now) (tree c.args.u.now) c.unify_over.ensures.others
