use Rattle.std.proofs.Common.{sym, ◌∙◌, ap}
use Rattle.std.specs.Option.{option_copied}
use Rattle.term_base.specs.Lits.{lits}
use Rattle.term_base.specs.Substitution.{image}
use Rattle.step_rules.specs.Inference.{superposed}
use Rattle.proof_steps.specs.Standing.{gives}
use Rattle.proof_steps.proofs.EarlierSteps.{two-there}
use Rattle.proof_steps.proofs.rules.superpose_stands.Goals as goal

pub returns-in_ok-found-in-Some-premise : goal.returns-in_ok-found-in-Some-premise
returns-in_ok-found-in-Some-premise c =
    let k = lits c.args.k.now in
    c.gives.ensures
    ∙ ap (λ o. gives o k) c.in_ok-found-in-Some-premise.ensures
    ∙ two-there c.args.before.now c.args.from c.args.into (λ a b. gives (superposed (lits a) c.args.literal c.args.side (lits b) c.args.place.now (image c.args.s1.now) (image c.args.s2.now)) k) c.in-Some.c.now c.in-Some-premise.d.now
    (sym c.premise.ensures ∙ ap option_copied c.in-Some.is) (sym c.premise-in-Some.ensures ∙ ap option_copied c.in-Some-premise.is)
