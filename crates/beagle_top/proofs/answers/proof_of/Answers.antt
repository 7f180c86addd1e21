use Rattle.std.proofs.Common.{◌≡◌, [], true, false, refl, rules, subst}
use Rattle.std.proofs.lemmas.Result.{IfOk-weaker}
use Rattle.term_base.specs.declared.preparation.Prepared.{Prepared}
use Rattle.beagle_top.specs.Texts.{not_built}
use Rattle.beagle_top.specs.Answer.{IsProof, Refuses, are_all_background, foreground}
use Rattle.beagle_top.proofs.Ending.{from_decision, refusal}
use Rattle.beagle_top.proofs.answers.proof_of.Goals as goal

pub returns-then-are_all_background-clause-due : goal.returns-then-are_all_background-clause-due
returns-then-are_all_background-clause-due g c =
    let all : are_all_background c.in-Ok.prepared ≡ true = search rules in
    IfOk-weaker c.decided.result _ _
    (λ a h. from_decision c.args.options.now c.args.problem.now c.is_some.result c.in-Ok.prepared _ _ a.status a.text.items
    c.in-Ok.ensures.within c.in-Ok.ensures.prepared all c.is_some.ensures h)
    c.decided.ensures.due

pub returns-else-are_all_background-clause-due : goal.returns-else-are_all_background-clause-due
returns-else-are_all_background-clause-due g c =
    let other : are_all_background c.in-Ok.prepared ≡ false = search rules in
    IfOk-weaker c.unbuilt.result _ _
    (λ a h.
    let line : Refuses not_built [] a.status a.text.items = record { asked_is = refl; status_is = h.0; text_is = h.1 } in
    refusal (IsProof c.args.options.now c.args.problem.now) _ _ a.status a.text.items
    (foreground c.in-Ok.ensures.within (subst (λ (m : Prepared). are_all_background m ≡ false) c.in-Ok.ensures.prepared other) line) refl)
    c.unbuilt.ensures
