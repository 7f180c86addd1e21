use Rattle.std.proofs.Common.{rules, refl, ◌≡◌}
use Rattle.std.specs.Prelude.{is_some}
use Rattle.normal_form.specs.Clauses.{prepared}
use Rattle.proof_steps.specs.Derivations.{IsFirstFault}
use Rattle.proof_check.specs.Checks.{IsStatusOf, refused}
use Rattle.proof_check.proofs.checking.found_proof.Goals as goal

pub returns-in-Refused : goal.returns-in-Refused
returns-in-Refused c =
    let word : IsStatusOf c.args.problem.now c.args.status = search rules in
    let fault : IsFirstFault (prepared c.args.problem.now c.args.d.now.ordinary) c.args.d.now.steps c.in-Refused.step = search rules in
    refused c.in-Refused.step word fault refl
