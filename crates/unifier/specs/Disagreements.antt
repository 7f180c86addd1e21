-- The first place where two trees disagree (after Robinson 1965).
use Rattle.std.specs.Prelude.{if◌then◌else◌}
use Rattle.term_base.specs.declared.variables.Variable.{Variable}
use Rattle.term_base.specs.Same.{same_variable}
use Rattle.term_base.specs.Trees.{Tree, Trees, var, node, none, more, same_head}

-- there is none; two heads, or numbers of arguments, that no substitution makes one; a variable against another tree
pub data Disagreement : Type 0 where
  agree : Disagreement
  clash : Disagreement
  bind : Variable → Tree → Disagreement

-- the earlier one, where there is one
abbrev pub first_of : Disagreement → Disagreement → Disagreement
first_of agree later = later
first_of clash later = clash
first_of (bind v t) later = bind v t

-- the first disagreement of two trees, from left to right
abbrev mutual
  pub disagreement : Tree → Tree → Disagreement
  disagreement (var v) (var w) = if same_variable v w then agree else bind v (var w)
  disagreement (var v) (node g ys) = bind v (node g ys)
  disagreement (node f xs) (var w) = bind w (node f xs)
  disagreement (node f xs) (node g ys) = if same_head f g then disagreement_among xs ys else clash

  pub disagreement_among : Trees → Trees → Disagreement
  disagreement_among none none = agree
  disagreement_among none (more y ys) = clash
  disagreement_among (more x xs) none = clash
  disagreement_among (more x xs) (more y ys) = first_of (disagreement x y) (disagreement_among xs ys)
