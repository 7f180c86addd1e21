use Rattle.std.proofs.Common.{◌≡◌, ◌∙◌, ℕ, List, [], arith, inr, refl, rules, subst}
use Rattle.std.proofs.lemmas.Option.{IfSome_then}
use Rattle.beagle_top.specs.Answer.{Checks, EndsBy}
use Rattle.beagle_top.proofs.top.checked.Goals as goal

pub returns-in-Err-Failed-clause-status : goal.returns-in-Err-Failed-clause-status
returns-in-Err-Failed-clause-status w c = (2, (omega arith), refl)

pub returns-in-Ok-clause-answer : goal.returns-in-Ok-clause-answer
returns-in-Ok-clause-answer w c = λ loud.
    let same : c.deref.result.now ≡ c.in-Ok.bytes.items = search rules in
    let due = c.checked_bytes.ensures.ends (λ seven. loud (inr seven)) in
    IfSome_then (w.S.Source.left c.args.source.now) c.in-Ok.ensures.bytes
    (λ bytes e. subst
    (λ (b : List ℕ). EndsBy (Checks b) (w.K.Sink.holds c.args.sink.now) (w.K.Sink.holds c.checked_bytes.new.sink) [] [] c.checked_bytes.result)
    (same ∙ e) due)
