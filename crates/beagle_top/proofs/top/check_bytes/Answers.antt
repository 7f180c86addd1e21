use Rattle.std.proofs.lemmas.Option.{IfSome_then}
use Rattle.beagle_top.proofs.Verified.{ends_verified}
use Rattle.beagle_top.proofs.top.check_bytes.Goals as goal

pub returns-clause-verified : goal.returns-clause-verified
returns-clause-verified w c = λ loud other.
    IfSome_then (w.S.Source.left c.args.source.now) (c.checked.ensures.answer loud)
    (λ bytes e. ends_verified c.verified_where_proved.ensures.status bytes _ _ _ _ c.checked.result other e)
