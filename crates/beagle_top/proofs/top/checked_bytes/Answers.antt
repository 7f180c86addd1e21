use Rattle.std.proofs.Common.{◌≡◌, ℕ, List, [], refl, rules, inr, subst}
use Rattle.beagle_top.specs.Answer.{Ends}
use Rattle.beagle_top.proofs.StatusLemmas.{by_found}
use Rattle.beagle_top.proofs.top.checked_bytes.Goals as goal

pub returns-in-Ok-clause-status : goal.returns-in-Ok-clause-status
returns-in-Ok-clause-status w c = by_found c.in-Ok.ensures.checked c.in-Ok.answer.status c.written.result _ c.in-Ok.ensures.status_is c.written.ensures.fault

pub returns-in-Ok-clause-ends : goal.returns-in-Ok-clause-ends
returns-in-Ok-clause-ends w c = λ other.
    let same : c.as_slice.result.now ≡ c.in-Ok.answer.text.items = search rules in record {
      asked = [];
      status = c.in-Ok.answer.status;
      text = c.in-Ok.answer.text.items;
      due = inr (c.requires, c.in-Ok.ensures);
      ends = subst
          (λ (t : List ℕ). Ends c.in-Ok.answer.status t (w.K.Sink.holds c.args.sink.now) (w.K.Sink.holds c.written.new.sink) c.written.result)
          same c.written.ensures.ends;
      grows = refl;
    }
