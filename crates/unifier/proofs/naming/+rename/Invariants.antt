use Rattle.std.proofs.Common.{◌≡◌, map, take}
use Rattle.term_base.specs.Substitution.{put_in}
use Rattle.term_base.specs.Trees.{tree, var}
use Rattle.unifier.specs.Naming.{new_name}
use Rattle.unifier.proofs.naming.+rename.Given as goal

abbrev pub invariant-loop-arg : goal.invariant-loop-arg
invariant-loop-arg l = map tree l.all ≡ map (λ t. put_in (λ z. var (new_name l.forced l.known z)) (tree t)) (take l.arg-index l.arg-items)
