use Rattle.std.proofs.Common.{subst, Result}
use Rattle.judge_base.specs.declared.verdicts.Verdict.{Verdict}
use Rattle.cooper_rows.specs.declared.counting.BudgetError.{BudgetError}
use Rattle.cooper.specs.Deciding.{Settled}
use Rattle.cooper.proofs.Settling.{settles_promises, settles_spent, settles_decided, settles_stated}
use Rattle.cooper.proofs.deciding.decide.Goals as goal

pub returns-in-Ok-clause-promises : goal.returns-in-Ok-clause-promises
returns-in-Ok-clause-promises c =
    let pool = c.args.pool.now in
    let S : Result Verdict BudgetError → Type 0 = λ r. Settled r pool c.args.limit in
    settles_promises pool c.args.limit c.in-Ok.verdict (subst S c.in-Ok.is c.settle.ensures)

pub returns-in-Ok-clause-spent : goal.returns-in-Ok-clause-spent
returns-in-Ok-clause-spent c =
    let pool = c.args.pool.now in
    let S : Result Verdict BudgetError → Type 0 = λ r. Settled r pool c.args.limit in
    settles_spent pool c.args.limit c.in-Ok.verdict (subst S c.in-Ok.is c.settle.ensures)

pub returns-in-Ok-clause-decided : goal.returns-in-Ok-clause-decided
returns-in-Ok-clause-decided c =
    let pool = c.args.pool.now in
    let S : Result Verdict BudgetError → Type 0 = λ r. Settled r pool c.args.limit in
    settles_decided pool c.args.limit c.in-Ok.verdict (subst S c.in-Ok.is c.settle.ensures)

pub returns-in-Ok-clause-stated : goal.returns-in-Ok-clause-stated
returns-in-Ok-clause-stated c =
    let pool = c.args.pool.now in
    let S : Result Verdict BudgetError → Type 0 = λ r. Settled r pool c.args.limit in
    settles_stated pool c.args.limit c.in-Ok.verdict (subst S c.in-Ok.is c.settle.ensures)
