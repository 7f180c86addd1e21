use Rattle.std.proofs.Common.{rules, ◌≡◌, false}
use Rattle.std.proofs.lemmas.Result.{IfOk-weaker}
use Rattle.proof_text.specs.Derivations.{Spells}
use Rattle.proof_text.specs.Parsing.{NoneIs}
use Rattle.proof_check.specs.Sections.{begins_list}
use Rattle.proof_check.specs.Checks.{bad, spelled}
use Rattle.proof_check.proofs.checking.found_answer.Goals as goal

pub returns-in-Ok : goal.returns-in-Ok
returns-in-Ok c =
    let other : begins_list c.args.answer.now ≡ false = search rules in
    let text : Spells (c.in-Ok.status, c.in-Ok.d) c.args.answer.now = search rules in
    IfOk-weaker c.found_proof.result _ _ (λ a h. spelled c.in-Ok.status c.in-Ok.d other text h) c.found_proof.ensures

pub returns-in-Err-BadText : goal.returns-in-Err-BadText
returns-in-Err-BadText c =
    let other : begins_list c.args.answer.now ≡ false = search rules in
    let none : NoneIs Spells c.in-Err-BadText.bad.at c.args.answer.now = search rules in
    bad c.in-Err-BadText.bad.at other none (search rules)
