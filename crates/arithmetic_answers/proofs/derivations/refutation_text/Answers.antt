use Rattle.std.proofs.Common.{◌≡◌, List, sym, subst, true}
use Rattle.std.specs.List.{list_all}
use Rattle.proof_steps.specs.declared.steps.Step.{Step}
use Rattle.proof_text.specs.Derivations.{step_is_spelled}
use Rattle.arithmetic_answers.proofs.Steps.{steps_spelled}
use Rattle.arithmetic_answers.proofs.derivations.refutation_text.Goals as goal

pub print_text-requires : goal.print_text-requires
print_text-requires c =
    subst (λ (steps : List Step). list_all step_is_spelled steps ≡ true) (sym c.in_ok-steps.ensures) (steps_spelled c.args.clauses c.args.cert c.requires)
