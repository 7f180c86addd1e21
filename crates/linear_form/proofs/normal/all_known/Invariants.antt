use Rattle.std.proofs.Common.{◌≡◌, map, take}
use Rattle.term_base.specs.Lits.{lit}
use Rattle.linear_form.specs.FormOf.{known}
use Rattle.linear_form.specs.Normal.{with_form}
use Rattle.linear_form.proofs.normal.all_known.Given as goal

abbrev pub invariant-loop-literal : goal.invariant-loop-literal
invariant-loop-literal l = map known l.all ≡ map (with_form l.signature) (map lit (take l.literal-index l.literals))
