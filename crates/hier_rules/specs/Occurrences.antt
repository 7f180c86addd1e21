-- The variables of a clause, put behind others, each as often as it occurs.
use Rattle.std.specs.Prelude.{List, [], ◌∷◌, ◌++◌}
use Rattle.term_base.specs.declared.variables.Variable.{Variable}
use Rattle.term_base.specs.Trees.{Tree, Trees, var, node, none, more}
use Rattle.term_base.specs.Lits.{Lit}

abbrev mutual
  pub gathered : Tree → List Variable → List Variable
  gathered (var v) vs = vs ++ v ∷ []
  gathered (node f xs) vs = all_gathered xs vs

  pub all_gathered : Trees → List Variable → List Variable
  all_gathered none vs = vs
  all_gathered (more x xs) vs = all_gathered xs (gathered x vs)

abbrev pub lit_gathered : Lit → List Variable → List Variable
lit_gathered l vs = gathered l.right (gathered l.left vs)

abbrev pub clause_gathered : List Lit → List Variable → List Variable
clause_gathered [] vs = vs
clause_gathered (l ∷ ls) vs = clause_gathered ls (lit_gathered l vs)
