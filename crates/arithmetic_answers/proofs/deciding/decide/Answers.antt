use Rattle.std.proofs.Common.{◌≡◌, None, Some, rules}
use Rattle.std.proofs.lemmas.Result.{IfOk-weaker}
use Rattle.arithmetic_answers.specs.Decisions.{first_empty}
use Rattle.arithmetic_answers.proofs.Judged.{Means, of_verdict, verdict_has_text}
use Rattle.arithmetic_answers.proofs.Values.{empty_contradicts}
use Rattle.arithmetic_answers.proofs.deciding.decide.Goals as goal

pub returns-in-Some-clause-decided : goal.returns-in-Some-clause-decided
returns-in-Some-clause-decided g c =
    let first : first_empty 0 c.args.clauses.now ≡ Some c.in-Some.number = search rules in
    record { first = first; contradictory = empty_contradicts 0 c.args.clauses.now c.in-Some.number first }

pub returns-in-Ok-clause-decided : goal.returns-in-Ok-clause-decided
returns-in-Ok-clause-decided g c =
    let cs = c.args.clauses.now in
    let none : first_empty 0 cs ≡ None = search rules in
    let formed = c.in-Ok.ensures.pool.0 in
    let means : Means cs c.in-Ok.viewed = record { well_formed = c.in-Ok.ensures.well_formed; rises = c.in-Ok.ensures.rises; truth = c.in-Ok.ensures.truth } in
    IfOk-weaker c.judged.result _ _
    (λ d verdict. of_verdict c.standing_is_impossible.ensures c.refutation.ensures cs c.args.limit c.in-Ok.viewed d none formed.0 formed.1 means verdict)
    c.judged.ensures.verdict

pub returns-in-Ok-clause-printed : goal.returns-in-Ok-clause-printed
returns-in-Ok-clause-printed g c =
    IfOk-weaker c.judged.result _ _ (λ d verdict. verdict_has_text c.in-Ok.viewed.pool c.args.limit d verdict) c.judged.ensures.verdict
