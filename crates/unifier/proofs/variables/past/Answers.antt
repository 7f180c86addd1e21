use Rattle.std.proofs.Common.{◌∙◌, ◌+◌, ap, max}
use Rattle.term_base.specs.declared.variables.Variable.{Variable}
use Rattle.unifier.proofs.VariableLemmas.{next_past}
use Rattle.unifier.proofs.variables.past.Goals as goal

pub loop-v-preserved : goal.loop-v-preserved
loop-v-preserved c =
    next_past c.args.list.now _ c.loop-v.base _ c.loop-v.v-index c.v-item.result c.loop-v-test.true
    (c.in_ok-base.ensures ∙ ap (λ (v : Variable). max c.loop-v.base (v.id + 1)) c.v-item.is) c.loop-v.invariant
