use Rattle.std.proofs.Common.{sym, ◌∙◌, ap}
use Rattle.std.specs.Option.{option_copied}
use Rattle.term_base.specs.Lits.{lits}
use Rattle.step_rules.specs.Abstraction.{is_abstraction}
use Rattle.proof_steps.proofs.EarlierSteps.{one-there}
use Rattle.proof_steps.proofs.rules.abstract_stands.Goals as goal

pub returns-in-Some : goal.returns-in-Some
returns-in-Some c =
    c.is_abstraction.ensures
    ∙ one-there c.args.before.now c.args.of (λ a. is_abstraction c.args.signature.now (lits a) (lits c.args.k.now)) c.in-Some.c.now (sym c.premise.ensures ∙ ap option_copied c.in-Some.is)
