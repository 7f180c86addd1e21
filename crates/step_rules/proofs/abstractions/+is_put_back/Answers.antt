use Rattle.std.proofs.Common.{sym, ◌∙◌, map}
use Rattle.term_base.specs.Lits.{lit}
use Rattle.step_rules.specs.Abstraction.{put_back}
use Rattle.step_rules.proofs.Aside.{terms_end}
use Rattle.step_rules.proofs.abstractions.+is_put_back.Goals as goal

pub are_put_back-returns : goal.are_put_back-returns
are_put_back-returns t c =
    terms_end (put_back (map lit c.args.definitions.now)) c.args.xs.now c.loop-x.rest.now c.loop-x.x-index c.is_empty.result c.loop-x-test.false c.is_empty.ensures
    ∙ sym c.loop-x.invariant
