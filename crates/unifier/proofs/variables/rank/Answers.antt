use Rattle.std.proofs.Common.{◌∙◌, sym, ap}
use Rattle.std.specs.Ordering.{is_lt}
use Rattle.term_base.specs.VariableOrder.{variable_cmp}
use Rattle.unifier.proofs.VariableLemmas.{next_rank, rank_ends, rank_all}
use Rattle.unifier.proofs.variables.rank.Goals as goal

pub returns-then-not-is_below-clause-count : goal.returns-then-not-is_below-clause-count
returns-then-not-is_below-clause-count c = rank_ends c.args.v c.args.list.now _ c.loop-i.i c.index-list-i.result c.loop-i-test.true
    (ap (λ w. is_lt (variable_cmp w c.args.v)) (sym c.index-list-i.is) ∙ sym c.is_below.ensures ∙ c.if-not-is_below.true) c.loop-i.invariant

pub returns-clause-count : goal.returns-clause-count
returns-clause-count c = rank_all c.args.v c.args.list.now c.loop-i.i c.loop-i-test.false c.loop-i.invariant

pub loop-i-preserved : goal.loop-i-preserved
loop-i-preserved c = next_rank c.args.v c.args.list.now _ c.loop-i.i c.index-list-i.result c.loop-i-test.true
    (ap (λ w. is_lt (variable_cmp w c.args.v)) (sym c.index-list-i.is) ∙ sym c.is_below.ensures ∙ c.if-not-is_below.false) c.loop-i.invariant
