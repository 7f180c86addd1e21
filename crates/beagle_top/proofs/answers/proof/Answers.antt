use Rattle.std.proofs.Common.{◌≡◌, [], refl, rules, subst}
use Rattle.std.proofs.lemmas.Result.{IfOk-weaker}
use Rattle.tff_reader.specs.Answer.{Explains, IsRefused}
use Rattle.tff_reader.specs.declared.refusals.ReadError.{ReadError}
use Rattle.tff_reader.specs.declared.refusals.ReadError.TheVariants as errors
use Rattle.beagle_top.specs.Texts.{refused}
use Rattle.beagle_top.specs.Answer.{IsProof, IsReading, Refuses, fault}
use Rattle.beagle_top.proofs.Ending.{reads, refusal}
use Rattle.beagle_top.proofs.answers.proof.Goals as goal

pub returns-in-Ok-clause-due : goal.returns-in-Ok-clause-due
returns-in-Ok-clause-due g c =
    IfOk-weaker c.proof_of.result _ _
    (λ a h. reads (IsProof c.args.options.now) c.args.bytes.now c.in-Ok.problem _ _ a.status a.text.items c.in-Ok.ensures.ok h) c.proof_of.ensures.due

pub returns-in-Err-Refused-clause-due : goal.returns-in-Err-Refused-clause-due
returns-in-Err-Refused-clause-due g c =
    let same : c.in-Err-Refused.field-0 ≡ errors.Refused c.in-Err-Refused.fault = search rules in
    let is : IsRefused c.args.bytes.now c.in-Err-Refused.fault = subst (λ (e : ReadError). Explains c.args.bytes.now e) same c.in-Err-Refused.ensures.refused in
    IfOk-weaker c.faulty.result _ _
    (λ a h.
    let line : Refuses (refused c.in-Err-Refused.fault) [] a.status a.text.items = record { asked_is = refl; status_is = h.0; text_is = h.1 } in
    refusal (IsReading (IsProof c.args.options.now) c.args.bytes.now) _ _ a.status a.text.items (fault c.in-Err-Refused.fault is line) refl)
    c.faulty.ensures
