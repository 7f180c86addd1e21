use Rattle.std.proofs.Common.{◌≡◌, ℕ, List, rules, inr, refl, subst}
use Rattle.std.proofs.lemmas.Option.{IfSome_then}
use Rattle.options.specs.declared.asked.Mode.TheVariants.{Check}
use Rattle.beagle_top.specs.Answer.{Ends}
use Rattle.beagle_top.specs.Texts.{not_built}
use Rattle.beagle_top.proofs.Ending.{checks_so}
use Rattle.beagle_top.proofs.StatusLemmas.{by_due, not_four, of_check}
use Rattle.beagle_top.proofs.top.run.Goals as goal

pub returns-in-Make-clause-status : goal.returns-in-Make-clause-status
returns-in-Make-clause-status w c = by_due 3 c.written.result _ (inr (inr (inr refl))) c.written.ensures.fault

pub returns-in-Make-clause-made : goal.returns-in-Make-clause-made
returns-in-Make-clause-made w c = λ make.
    let same : c.as_bytes.result.now ≡ not_built = search rules in
    subst (λ (t : List ℕ). Ends 3 t (w.K.Sink.holds c.args.sink.now) (w.K.Sink.holds c.written.new.sink) c.written.result)
    same c.written.ensures.ends

pub returns-in-Check-clause-answer : goal.returns-in-Check-clause-answer
returns-in-Check-clause-answer w c = λ reads loud.
    let is : c.args.options.now.mode ≡ Check = search rules in
    IfSome_then (w.S.Source.left c.args.source.now) (c.check_bytes.ensures.answer loud) (λ bytes e. checks_so c.args.options.now bytes _ _ _ c.check_bytes.result.status is e)

pub returns-in-Check-clause-status : goal.returns-in-Check-clause-status
returns-in-Check-clause-status w c = of_check c.check_bytes.result.status c.check_bytes.ensures.status

pub returns-in-Check-clause-no_usage : goal.returns-in-Check-clause-no_usage
returns-in-Check-clause-no_usage w c = not_four c.check_bytes.result.status c.check_bytes.ensures.status
