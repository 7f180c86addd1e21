use Rattle.std.proofs.Common.{ap, arith}
use Rattle.proof_steps.specs.declared.steps.Step.{Step}
use Rattle.proof_steps.specs.Standing.{defined_by}
use Rattle.proof_steps.proofs.Replays.{defines-more}
use Rattle.proof_steps.proofs.replaying.next_after.Goals as goal

pub returns-clause-value : goal.returns-clause-value
returns-clause-value c =
    omega (
      arith,
      defines-more c.args.steps.now c.args.i c.index-steps-i.result c.requires.within c.index-steps-i.is,
      ap (λ (s : Step). defined_by s.rule) c.index-steps-i.is,
      c.defined_by.ensures.value,
    )
