use Rattle.std.proofs.Common.{◌≡◌, ℕ, List, [], IsErrOf, refl, rules, inl, subst}
use Rattle.std.proofs.lemmas.Option.{IfSome_then}
use Rattle.byte_ends.specs.declared.read_whole.ReadEnd.TheVariants.{TooLong}
use Rattle.beagle_top.specs.Answer.{Ends}
use Rattle.beagle_top.specs.Texts.{too_long}
use Rattle.beagle_top.proofs.Ending.{nothing_behind}
use Rattle.beagle_top.proofs.Refusals.{first_of_two}
use Rattle.beagle_top.proofs.StatusLemmas.{memory, read_fault}
use Rattle.beagle_top.proofs.top.proved.Goals as goal

pub returns-in-Err-TooLong-clause-answer : goal.returns-in-Err-TooLong-clause-answer
returns-in-Err-TooLong-clause-answer w c = λ loud.
    let long : IsErrOf c.read_all.result TooLong = search rules in
    let same : c.as_bytes.result.now ≡ too_long = search rules in
    IfSome_then (w.S.Source.left c.args.source.now) (c.read_all.ensures.too_long long)
    (λ bytes more. record {
      asked = [];
      status = 3;
      text = too_long;
      due = inl (more, record { asked_is = refl; status_is = refl; text_is = refl });
      ends = subst (λ (t : List ℕ). Ends 3 t (w.K.Sink.holds c.args.sink.now) (w.K.Sink.holds c.written.new.sink) c.written.result) same c.written.ensures.ends;
      grows = nothing_behind _;
    })

pub returns-in-Ok-clause-refused : goal.returns-in-Ok-clause-refused
returns-in-Ok-clause-refused w c = first_of_two c.proved_bytes.result _ c.proved_bytes.ensures.refused c.proved_bytes.ensures.no_read_fault

pub returns-in-Err-Failed-clause-status : goal.returns-in-Err-Failed-clause-status
returns-in-Err-Failed-clause-status w c = read_fault

pub returns-in-Err-Memory-clause-status : goal.returns-in-Err-Memory-clause-status
returns-in-Err-Memory-clause-status w c = memory
