-- How a term stands to another, decided by their heads: each pair of places is looked at once at most.
use Rattle.std.specs.Prelude.{Bool, true, false, ◌||◌, ◌&&◌, if◌then◌else◌, List, [], ◌∷◌}
use Rattle.term_base.specs.declared.symbols.Symbol.{Symbol}
use Rattle.term_base.specs.Purity.{foreground, is_abstraction}
use Rattle.term_base.specs.Trees.{Head, Tree, Trees, var, node, none, more, same_tree}
use Rattle.term_order.specs.Above.{head_below}
use Rattle.term_order.specs.declared.standing.Standing.{Standing}
use Rattle.term_order.specs.declared.standing.Standing.TheVariants as is

-- above where the test holds
abbrev pub above_if : Bool → Standing
above_if b = if b then is.Above else is.Neither

-- above alone
abbrev pub is_above : Standing → Bool
is_above is.Above = true
is_above is.Equal = false
is_above is.Neither = false

-- equal or above
abbrev pub reaches : Standing → Bool
reaches is.Above = true
reaches is.Equal = true
reaches is.Neither = false

-- one of three values, by how a term stands to another
abbrev pub by_standing : {A : Type 0} → Standing → A → A → A → A
by_standing is.Above above equal neither = above
by_standing is.Equal above equal neither = equal
by_standing is.Neither above equal neither = neither

-- some of the terms, given by how they stand to others, equals t or is above t
abbrev pub some_reaches : List (Tree → Standing) → Tree → Bool
some_reaches [] t = false
some_reaches (x ∷ xs) t = reaches (x t) || some_reaches xs t

-- how the node of a head and arguments stands to a tree, from how each argument stands to others
abbrev mutual
  pub node_standing : List Symbol → Head → Trees → List (Tree → Standing) → Tree → Standing
  node_standing signature f xs each (var v) = above_if ((is_abstraction v && foreground signature (node f xs)) || some_reaches each (var v))
  node_standing signature f xs each (node g ys) =
      if head_below signature f g then above_if (some_reaches each (node g ys)) else
      (if head_below signature g f then above_if (above_all signature f xs each ys) else
      list_standing signature f xs each (node g ys) ys each)

  -- it is above all of these
  pub above_all : List Symbol → Head → Trees → List (Tree → Standing) → Trees → Bool
  above_all signature f xs each none = true
  above_all signature f xs each (more y ys) = is_above (node_standing signature f xs each y) && above_all signature f xs each ys

  -- how it stands to t, where the heads are equal and the arguments so far are
  pub list_standing : List Symbol → Head → Trees → List (Tree → Standing) → Tree → Trees → List (Tree → Standing) → Standing
  list_standing signature f xs each t none [] = is.Equal
  list_standing signature f xs each t none (x ∷ others) = above_if (some_reaches (x ∷ others) t)
  list_standing signature f xs each t (more y ys) [] = is.Neither
  list_standing signature f xs each t (more y ys) (x ∷ others) =
      by_standing (x y)
      (above_if (above_all signature f xs each ys))
      (list_standing signature f xs each t ys others)
      (above_if (some_reaches others t))

-- how a tree stands to another
abbrev mutual
  pub standing : List Symbol → Tree → Tree → Standing
  standing signature (var v) t = if same_tree (var v) t then is.Equal else is.Neither
  standing signature (node f xs) t = node_standing signature f xs (standings signature xs) t

  -- how each of the trees stands to others
  pub standings : List Symbol → Trees → List (Tree → Standing)
  standings signature none = []
  standings signature (more x xs) = standing signature x ∷ standings signature xs
