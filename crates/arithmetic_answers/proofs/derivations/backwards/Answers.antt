use Rattle.arithmetic_answers.proofs.Steps.{next_step}
use Rattle.arithmetic_answers.proofs.derivations.backwards.Goals as goal

pub loop-clause-preserved : goal.loop-clause-preserved
loop-clause-preserved c =
    next_step c.loop-clause.clauses c.pop.new.self c.in-Some.clause c.loop-clause.steps.items c.push-in-Some.new.self.items c.in_ok-input_step.field-0
    c.len.result _ c.in-Some.ensures c.len.ensures c.in_ok-input_step.ensures c.in_ok-push-2.ensures.items c.loop-clause.invariant
