use Rattle.std.proofs.Common.{sym, ◌∙◌, ap}
use Rattle.std.specs.Option.{option_copied}
use Rattle.term_base.specs.Lits.{lits}
use Rattle.step_rules.specs.Simplified.{pinned}
use Rattle.proof_steps.specs.Standing.{gives}
use Rattle.proof_steps.proofs.EarlierSteps.{one-there}
use Rattle.proof_steps.proofs.rules.pin_stands.Goals as goal

pub returns-in_ok-found-in-Some : goal.returns-in_ok-found-in-Some
returns-in_ok-found-in-Some c =
    let k = lits c.args.k.now in
    c.gives.ensures
    ∙ ap (λ o. gives o k) c.in_ok-found-in-Some.ensures
    ∙ one-there c.args.before.now c.args.of (λ a. gives (pinned (lits a) c.args.literal) k) c.in-Some.c.now (sym c.premise.ensures ∙ ap option_copied c.in-Some.is)
