use Rattle.std.proofs.Common.{rules, ◌≤◌}
use Rattle.std.proofs.lemmas.Result.{IfOk-weaker}
use Rattle.normal_form.specs.Clauses.{count_of, max_clauses}
use Rattle.proof_check.specs.Checks.{within}
use Rattle.proof_check.proofs.checking.found.Goals as goal

pub returns : goal.returns
returns c =
    let few : count_of c.args.problem.now ≤ max_clauses = search rules in
    IfOk-weaker c.found_answer.result _ _ (λ a h. within few h) c.found_answer.ensures
