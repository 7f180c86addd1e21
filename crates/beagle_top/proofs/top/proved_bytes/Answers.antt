use Rattle.std.proofs.Common.{◌≡◌, ℕ, List, rules, subst}
use Rattle.beagle_top.specs.Answer.{Ends, IsProof, IsReading}
use Rattle.beagle_top.proofs.Ending.{ended, within}
use Rattle.beagle_top.proofs.StatusLemmas.{by_due, memory, not_eight}
use Rattle.beagle_top.proofs.Refusals.{refusal_asks_nothing}
use Rattle.beagle_top.proofs.top.proved_bytes.Goals as goal

pub returns-in-Ok-clause-status : goal.returns-in-Ok-clause-status
returns-in-Ok-clause-status w c = by_due c.in-Ok.answer.status c.written.result _ c.in-Ok.ensures.status c.written.ensures.fault

pub returns-in-Ok-clause-ends : goal.returns-in-Ok-clause-ends
returns-in-Ok-clause-ends w c = λ other.
    let same : c.as_slice.result.now ≡ c.in-Ok.answer.text.items = search rules in
    let due = within (IsReading (IsProof c.args.options.now) c.args.bytes.now) c.args.bytes.now _ _ c.in-Ok.answer.status c.in-Ok.answer.text.items c.requires c.in-Ok.ensures.due in
    ended _ _ _ _ _ c.in-Ok.answer.status c.in-Ok.answer.text.items c.written.result due
    (subst
    (λ (t : List ℕ). Ends c.in-Ok.answer.status t (w.K.Sink.holds c.args.sink.now) (w.K.Sink.holds c.written.new.sink) c.written.result)
    same c.written.ensures.ends)

pub returns-in-Ok-clause-refused : goal.returns-in-Ok-clause-refused
returns-in-Ok-clause-refused w c =
    refusal_asks_nothing c.args.options.now c.args.bytes.now _ _ c.in-Ok.answer.status c.in-Ok.answer.text.items c.written.result _ c.in-Ok.ensures.due
    c.written.ensures.fault

pub returns-in-Ok-clause-no_refused_proof : goal.returns-in-Ok-clause-no_refused_proof
returns-in-Ok-clause-no_refused_proof w c = not_eight c.in-Ok.answer.status c.written.result _ c.in-Ok.ensures.status c.written.ensures.fault

pub returns-in-Err-clause-status : goal.returns-in-Err-clause-status
returns-in-Err-clause-status w c = memory
