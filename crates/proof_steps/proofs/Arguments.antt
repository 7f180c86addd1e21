-- No arguments.
use Rattle.std.specs.Prelude.{◌≡◌, ◌==◌, List, [], ◌∷◌, map, length}
use Rattle.std.proofs.Common.{refl, arith}
use Rattle.std.proofs.lemmas.Grind.{common_steps}
use Rattle.term_base.specs.declared.terms.Term.{Term}
use Rattle.term_base.specs.Trees.{none, trees, tree, same_trees}

-- a test for no argument
pub no-arguments : (ts : List Term) → same_trees none (trees (map tree ts)) ≡ (length ts == 0)
no-arguments [] = refl
no-arguments (t ∷ ts) = grind (arith, common_steps)
