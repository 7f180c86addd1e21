use Rattle.std.proofs.Common.{◌≡◌, List, ℕ, rules, subst}
use Rattle.std.proofs.lemmas.Result.{IfOk-weaker}
use Rattle.tff_reader.specs.Answer.{Explains, IsRefused}
use Rattle.tff_reader.specs.declared.refusals.ReadError.{ReadError}
use Rattle.tff_reader.specs.declared.refusals.ReadError.TheVariants as errors
use Rattle.proof_check.specs.Checks.{faulty}
use Rattle.proof_check.proofs.Verifying.{read_so}
use Rattle.proof_check.proofs.checking.check.Goals as goal

pub returns-in-Ok : goal.returns-in-Ok
returns-in-Ok c =
    IfOk-weaker c.found.result _ _
    (λ a h. read_so c.args.bytes.now c.before_answer-problem_part.result.now c.in-Ok.problem a c.before_answer-problem_part.ensures.part c.in-Ok.ensures.ok h)
    c.found.ensures

pub returns-in-Err-Refused : goal.returns-in-Err-Refused
returns-in-Err-Refused c =
    let same : c.in-Err-Refused.field-0 ≡ errors.Refused c.in-Err-Refused.fault = search rules in
    let found : IsRefused c.before_answer-problem_part.result.now c.in-Err-Refused.fault =
    subst (λ (e : ReadError). Explains c.before_answer-problem_part.result.now e) same c.in-Err-Refused.ensures.refused in
    faulty c.in-Err-Refused.fault
    (subst (λ (bytes : List ℕ). IsRefused bytes c.in-Err-Refused.fault) c.before_answer-problem_part.ensures.part found) (search rules)
