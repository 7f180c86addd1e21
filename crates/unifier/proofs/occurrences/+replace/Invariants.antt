use Rattle.std.proofs.Common.{◌≡◌, map, take}
use Rattle.term_base.specs.Substitution.{put_in, single}
use Rattle.term_base.specs.Trees.{tree}
use Rattle.unifier.proofs.occurrences.+replace.Given as goal

abbrev pub invariant-loop-arg : goal.invariant-loop-arg
invariant-loop-arg l = map tree l.all ≡ map (λ t. put_in (single l.v (tree l.new)) (tree t)) (take l.arg-index l.arg-items)
