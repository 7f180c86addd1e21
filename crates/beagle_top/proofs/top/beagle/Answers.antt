use Rattle.std.proofs.Common.{◌≡◌, ◌∙◌, ap, false, refl, subst, sym}
use Rattle.std.proofs.lemmas.Option.{IfSome_then}
use Rattle.options.specs.declared.asked.Mode.{Mode}
use Rattle.options.specs.declared.asked.Mode.TheVariants.{Prove}
use Rattle.options.specs.declared.asked.Options.{Options}
use Rattle.beagle_top.specs.Answer.{IsDecidable, is_make}
use Rattle.beagle_top.proofs.Ending.{decided_due}
use Rattle.beagle_top.proofs.Printed.{due_checks, zero_is_loud}
use Rattle.beagle_top.proofs.StatusLemmas.{by_usage, memory}
use Rattle.beagle_top.proofs.top.beagle.Goals as goal

pub returns-in-Err-Usage-clause-status : goal.returns-in-Err-Usage-clause-status
returns-in-Err-Usage-clause-status w c = by_usage c.written.result _ c.written.ensures.fault

pub returns-in-Ok-clause-decided : goal.returns-in-Ok-clause-decided
returns-in-Ok-clause-decided w c = λ good prove loud other.
    let is = c.in-Ok.ensures.given in
    let mode : c.in-Ok.options.mode ≡ Prove = ap (λ (o : Options). o.mode) is ∙ prove in
    let reads : is_make c.in-Ok.options.mode ≡ false = subst (λ (m : Mode). is_make m ≡ false) (sym mode) refl in
    IfSome_then (w.S.Source.left c.args.source.now) (c.run.ensures.answer reads loud)
    (λ bytes e i. decided_due c.decidable_is_decided.ensures c.in-Ok.options bytes _ _ _ _ c.run.result mode other e (subst (λ (o : Options). IsDecidable o bytes) (sym is) i))

pub returns-in-Ok-clause-checks : goal.returns-in-Ok-clause-checks
returns-in-Ok-clause-checks w c = λ good prove zero.
    let is = c.in-Ok.ensures.given in
    let mode : c.in-Ok.options.mode ≡ Prove = ap (λ (o : Options). o.mode) is ∙ prove in
    let reads : is_make c.in-Ok.options.mode ≡ false = subst (λ (m : Mode). is_make m ≡ false) (sym mode) refl in
    IfSome_then (w.S.Source.left c.args.source.now) (c.run.ensures.answer reads (zero_is_loud c.run.result zero))
    (λ bytes e at. due_checks c.printed_checks.ensures c.in-Ok.options bytes _ _ _ _ c.run.result mode zero e at)

pub returns-in-Err-Memory-clause-status : goal.returns-in-Err-Memory-clause-status
returns-in-Err-Memory-clause-status w c = memory
