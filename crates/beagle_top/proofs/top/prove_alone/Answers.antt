use Rattle.std.proofs.lemmas.Option.{IfSome_then}
use Rattle.beagle_top.proofs.Ending.{decided_so}
use Rattle.beagle_top.proofs.Printed.{written_checks, zero_is_loud}
use Rattle.beagle_top.proofs.top.prove_alone.Goals as goal

pub returns-clause-decided : goal.returns-clause-decided
returns-clause-decided w c = λ loud other.
    IfSome_then (w.S.Source.left c.args.source.now) (c.proved.ensures.answer loud)
    (λ bytes e i. decided_so c.decidable_is_decided.ensures c.args.options.now bytes _ _ _ _ c.proved.result other e i)

pub returns-clause-checks : goal.returns-clause-checks
returns-clause-checks w c = λ zero.
    IfSome_then (w.S.Source.left c.args.source.now) (c.proved.ensures.answer (zero_is_loud c.proved.result zero))
    (λ bytes e at. written_checks c.printed_checks.ensures c.args.options.now bytes _ _ _ _ c.proved.result zero e at)
