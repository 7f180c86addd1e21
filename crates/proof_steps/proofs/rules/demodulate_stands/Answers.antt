use Rattle.std.proofs.Common.{sym, ◌∙◌, ap}
use Rattle.std.specs.Option.{option_copied}
use Rattle.term_base.specs.Lits.{lits}
use Rattle.term_base.specs.Substitution.{image}
use Rattle.step_rules.specs.Simplified.{demodulated}
use Rattle.proof_steps.specs.Standing.{gives}
use Rattle.proof_steps.proofs.EarlierSteps.{two-there}
use Rattle.proof_steps.proofs.rules.demodulate_stands.Goals as goal

pub returns-in_ok-found-in-Some-premise : goal.returns-in_ok-found-in-Some-premise
returns-in_ok-found-in-Some-premise c =
    let k = lits c.args.k.now in
    c.gives.ensures
    ∙ ap (λ o. gives o k) c.in_ok-found-in-Some-premise.ensures
    ∙ two-there c.args.before.now c.args.of c.args.by (λ a b. gives (demodulated (lits a) c.args.place.now (lits b) c.args.side (image c.args.s1.now)) k) c.in-Some.c.now c.in-Some-premise.unit.now
    (sym c.premise.ensures ∙ ap option_copied c.in-Some.is) (sym c.premise-in-Some.ensures ∙ ap option_copied c.in-Some-premise.is)
