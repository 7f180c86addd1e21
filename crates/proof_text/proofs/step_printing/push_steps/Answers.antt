use Rattle.std.proofs.Common.{◌≡◌, subst, arith, suc, ◌+◌}
use Rattle.std.specs.Prelude.{codes}
use Rattle.std.proofs.lemmas.Result.{MatchResult-weaker}
use Rattle.proof_text.specs.Derivations.{StepLine}
use Rattle.text_pieces.proofs.Putting.{put_none, put_next, put_end, Putting}
use Rattle.proof_text.proofs.step_printing.push_steps.Goals as goal

pub loop-n-init : goal.loop-n-init
loop-n-init c = put_none StepLine (λ n step. suc n) (codes "end\n") 0 c.args.steps.now c.args.text.now.items

pub loop-n-preserved : goal.loop-n-preserved
loop-n-preserved c =
    let one : suc c.loop-n.n ≡ c.loop-n.n + 1 = omega arith in
    subst (λ k. Putting StepLine (λ n step. suc n) (codes "end\n") 0 c.args.steps.now c.args.text.now.items k (c.loop-n.n + 1) c.push_step.new.text.items) one
    (put_next StepLine (λ n step. suc n) (codes "end\n") 0 c.loop-n.n c.args.steps.now c.loop-n.n c.index-steps-n.result c.args.text.now.items c.loop-n.text.items c.push_step.new.text.items c.loop-n-test.true c.index-steps-n.is c.loop-n.invariant c.in_ok-push_step.ensures)

pub returns : goal.returns
returns c =
    MatchResult-weaker c.push.result c.push.ensures (λ d e. put_end StepLine (λ n step. suc n) (codes "end\n") 0 c.loop-n.n c.args.steps.now c.loop-n.n c.args.text.now.items c.loop-n.text.items c.push.new.text.items c.loop-n-test.false c.loop-n.invariant e) (λ d e. tt)
