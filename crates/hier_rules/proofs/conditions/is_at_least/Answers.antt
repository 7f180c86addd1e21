use Rattle.hier_rules.proofs.ConditionLemmas.{at_least_above, at_least_equal, not_at_least_below, not_at_least_open}
use Rattle.hier_rules.proofs.conditions.is_at_least.Goals as goal

pub returns-in-Above : goal.returns-in-Above
returns-in-Above c = at_least_above c.args.signature.now c.args.t.now c.args.s.now c.compare.result c.compare.ensures.above c.compare.ensures.equal c.in-Above.is

pub returns-in-Equal : goal.returns-in-Equal
returns-in-Equal c = at_least_equal c.args.signature.now c.args.t.now c.args.s.now c.compare.result c.compare.ensures.above c.compare.ensures.equal c.in-Equal.is

pub returns-in-Below : goal.returns-in-Below
returns-in-Below c =
    not_at_least_below c.args.signature.now c.args.t.now c.args.s.now c.compare.result c.compare.ensures.above c.compare.ensures.equal c.term_is_its_tree.ensures c.in-Below.is

pub returns-in-Open : goal.returns-in-Open
returns-in-Open c =
    not_at_least_open c.args.signature.now c.args.t.now c.args.s.now c.compare.result c.compare.ensures.above c.compare.ensures.equal c.term_is_its_tree.ensures c.in-Open.is
