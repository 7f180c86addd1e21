use Rattle.std.proofs.Common.{subst}
use Rattle.std.specs.Prelude.{IfOk}
use Rattle.proof_steps.specs.Derivations.{IsReplay}
use Rattle.proof_steps.proofs.Replays as replays
use Rattle.proof_steps.proofs.replaying.replay.Goals as goal

pub returns : goal.returns
returns c =
    let steps = c.args.d.now.steps in
    let found = subst (λ ss. IfOk c.found.result (IsReplay c.args.prepared.now ss)) c.as_slice.ensures c.found.ensures in
    record {
      verified = replays.verified c.args.prepared.now steps c.found.result found;
      refused = replays.refused c.args.prepared.now steps c.found.result found;
    }
