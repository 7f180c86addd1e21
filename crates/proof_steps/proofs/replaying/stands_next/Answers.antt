use Rattle.proof_steps.proofs.Replays.{stands-next}
use Rattle.proof_steps.proofs.replaying.stands_next.Goals as goal

pub returns : goal.returns
returns c =
    stands-next c.args.prepared.now c.args.steps.now c.stands_at.result c.args.i c.args.next c.index-steps-i.result
    c.requires.within c.index-steps-i.is c.requires.next c.stands_at.ensures
