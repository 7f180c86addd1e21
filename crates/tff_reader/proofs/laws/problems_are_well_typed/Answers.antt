use Rattle.std.proofs.Common.{subst, sym}
use Rattle.formula_base.specs.Typing.{IsWellTyped}
use Rattle.tff_reader.proofs.WellTyped.{problem_typed}
use Rattle.tff_reader.proofs.laws.problems_are_well_typed.Goals as goal

pub returns : goal.returns
returns c = λ bytes p is. subst IsWellTyped (sym is.meant) (problem_typed bytes is.statements is.faultless)
