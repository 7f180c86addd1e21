-- What the search for a most general substitution keeps.
use Rattle.std.specs.Prelude.{◌≡◌, ◌⊎◌, true, List, [], ◌∷◌}
use Rattle.term_base.specs.declared.terms.Term.{Term}
use Rattle.term_base.specs.declared.variables.Variable.{Variable}
use Rattle.term_base.specs.Substitution.{put_in, single}
use Rattle.term_base.specs.Trees.{Tree, tree, occurs}

-- a variable is one of the list
abbrev pub Member : List Variable → Variable → Type 0
Member [] v = ⊥
Member (w ∷ ws) v = (w ≡ v) ⊎ Member ws v

-- every variable of the trees is in the list
pub record HasAll (pool : List Variable) (l u : Tree) : Type 0 where
  pub each : (v : Variable) → (occurs v l ≡ true) ⊎ (occurs v u ≡ true) → Member pool v

-- a pair with its term as a tree after t went for v
abbrev pub seen_bound : Variable → Tree → Variable × Term → Variable × Tree
seen_bound v t p = (p.0, put_in (single v t) (tree p.1))
