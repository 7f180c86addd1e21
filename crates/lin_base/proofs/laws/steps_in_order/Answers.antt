use Rattle.std.specs.Prelude.{not}
use Rattle.std.proofs.lemmas.List.Folds.{find-append}
use Rattle.lin_base.specs.Whole.{is_in_range}
use Rattle.lin_base.specs.Steps.{result_of}
use Rattle.lin_base.proofs.laws.steps_in_order.Goals as goal

pub returns : goal.returns
returns c = find-append (λ s. not (is_in_range (result_of s)))
