use Rattle.std.proofs.Common.{◌≡◌, ◌++◌, take}
use Rattle.normal_form.proofs.disjunctions.Disjunction.extended.Given as goal

abbrev pub invariant-loop-literal : goal.invariant-loop-literal
invariant-loop-literal l = l.all ≡ l.initial.all ++ take l.literal-index l.more
