-- The disagreement that a value of the code stands for.
use Rattle.term_base.specs.Trees.{tree}
use Rattle.unifier.specs.declared.disagreements.Found.{Found}
use Rattle.unifier.specs.declared.disagreements.Found.TheVariants.{Agree, Clash, Bind}
use Rattle.unifier.specs.Disagreements.{Disagreement, agree, clash, bind}

abbrev pub found_disagreement : Found → Disagreement
found_disagreement Agree = agree
found_disagreement Clash = clash
found_disagreement (Bind v t) = bind v (tree t)
