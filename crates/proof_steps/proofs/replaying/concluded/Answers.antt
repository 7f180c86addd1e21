use Rattle.std.proofs.Common.{refl, sym, ◌∙◌, inr, length}
use Rattle.proof_steps.proofs.Replays.{first_fault}
use Rattle.proof_steps.proofs.replaying.concluded.Goals as goal

pub returns-then-ends_empty : goal.returns-then-ends_empty
returns-then-ends_empty c = record { stand = c.requires; empty = sym c.ends_empty.ensures ∙ c.if-ends_empty.true }

pub returns : goal.returns
returns c =
    first_fault c.args.prepared.now c.args.steps.now c.refused.result (length c.args.steps.now) c.refused.ensures
    (record { before = c.requires; here = inr (refl, sym c.ends_empty.ensures ∙ c.if-ends_empty.false) })
