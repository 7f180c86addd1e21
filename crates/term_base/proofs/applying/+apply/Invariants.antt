use Rattle.std.proofs.Common.{◌≡◌, map, take}
use Rattle.term_base.specs.Trees.{tree}
use Rattle.term_base.specs.Substitution.{image, put_in}
use Rattle.term_base.proofs.applying.+apply.Given as goal

abbrev pub invariant-loop-arg : goal.invariant-loop-arg
invariant-loop-arg l = map tree l.all ≡ map (λ t. put_in (image l.s) (tree t)) (take l.arg-index l.arg-items)
