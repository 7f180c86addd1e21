use Rattle.std.proofs.Common.{◌≡◌, ◌<◌, sym, ◌∙◌, subst, arith, inl, length}
use Rattle.proof_steps.specs.Derivations.{StandBelow}
use Rattle.proof_steps.proofs.Replays.{first_fault, stand-more}
use Rattle.proof_steps.proofs.replaying.found.Goals as goal

pub returns-then-not-branch : goal.returns-then-not-branch
returns-then-not-branch c =
    let within : c.loop-i.i < length c.args.steps.now = omega arith in
    first_fault c.args.prepared.now c.args.steps.now c.refused.result c.loop-i.i c.refused.ensures
    (record { before = c.loop-i.invariant.stand; here = inl (within, sym c.in_ok-stands_next.ensures ∙ c.if-not-branch.true) })

pub loop-i-preserved : goal.loop-i-preserved
loop-i-preserved c = record {
  next = omega (arith, c.next_after-next.ensures.value, c.loop-i.invariant.next);
  bound = omega (arith, c.next_after-next.ensures.bound, c.loop-i.invariant.bound);
  stand = stand-more c.args.prepared.now c.args.steps.now c.loop-i.i c.loop-i.invariant.stand (sym c.in_ok-stands_next.ensures ∙ c.if-not-branch.false);
}

pub concluded-requires : goal.concluded-requires
concluded-requires c =
    let all : c.loop-i.i ≡ length c.args.steps.now = omega arith in
    subst (StandBelow c.args.prepared.now c.args.steps.now) all c.loop-i.invariant.stand
