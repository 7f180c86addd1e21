-- What is above a variable: a node with a foreground symbol where the variable is for pure terms, and a node that the variable is in.
use Rattle.std.proofs.Common.{◌≡◌, Bool, true, false, ◌||◌, ◌&&◌, List, refl, ap, ◌∙◌, if◌then◌else◌}
use Rattle.term_base.specs.declared.symbols.Symbol.{Symbol}
use Rattle.term_base.specs.declared.variables.Variable.{Variable}
use Rattle.term_base.specs.Purity.{foreground_head, foreground, any_foreground, is_abstraction}
use Rattle.term_base.specs.Same.{same_variable}
use Rattle.term_base.specs.Trees.{Head, Tree, Trees, var, node, none, more, occurs, any_occurs}
use Rattle.term_order.specs.Standing.{above_if, reaches, some_reaches, standing, standings}
use Rattle.term_order.specs.declared.standing.Standing.TheVariants as is

reaches_above : (b : Bool) → reaches (above_if b) ≡ b
reaches_above true = refl
reaches_above false = refl

reaches_equal : (b : Bool) → reaches (if b then is.Equal else is.Neither) ≡ b
reaches_equal true = refl
reaches_equal false = refl

-- a foreground symbol of the arguments is one of the node
of_node : (a h g o : Bool) → ((a && (h || g)) || ((a && g) || o)) ≡ ((a && (h || g)) || o)
of_node false h g o = refl
of_node true true g o = refl
of_node true false true o = refl
of_node true false false o = refl

of_more : (a f g o p : Bool) → (((a && f) || o) || ((a && g) || p)) ≡ ((a && (f || g)) || (o || p))
of_more false f g true p = refl
of_more false f g false p = refl
of_more true true g o p = refl
of_more true false true true p = refl
of_more true false true false p = refl
of_more true false false true p = refl
of_more true false false false p = refl

none_equal : (a b : Bool) → b ≡ ((a && false) || b)
none_equal true b = refl
none_equal false b = refl

module _ (S : List Symbol) (v : Variable) where
  mutual
    reached : (t : Tree) → reaches (standing S t (var v)) ≡ ((is_abstraction v && foreground S t) || occurs v t)
    reached (var w) = reaches_equal (same_variable w v) ∙ none_equal (is_abstraction v) (same_variable w v)
    reached (node f xs) =
        reaches_above ((is_abstraction v && foreground S (node f xs)) || some_reaches (standings S xs) (var v))
        ∙ ap (λ b. (is_abstraction v && foreground S (node f xs)) || b) (some_reached xs)
        ∙ of_node (is_abstraction v) (foreground_head S f) (any_foreground S xs) (any_occurs v xs)

    some_reached : (xs : Trees) → some_reaches (standings S xs) (var v) ≡ ((is_abstraction v && any_foreground S xs) || any_occurs v xs)
    some_reached none = none_equal (is_abstraction v) false
    some_reached (more x xs) =
        ap (λ b. b || some_reaches (standings S xs) (var v)) (reached x)
        ∙ ap (λ b. ((is_abstraction v && foreground S x) || occurs v x) || b) (some_reached xs)
        ∙ of_more (is_abstraction v) (foreground S x) (any_foreground S xs) (occurs v x) (any_occurs v xs)

  pub over : (f : Head) (xs : Trees)
      → ((is_abstraction v && foreground S (node f xs)) || some_reaches (standings S xs) (var v))
      ≡ ((is_abstraction v && foreground S (node f xs)) || any_occurs v xs)
  over f xs =
      ap (λ b. (is_abstraction v && foreground S (node f xs)) || b) (some_reached xs)
      ∙ of_node (is_abstraction v) (foreground_head S f) (any_foreground S xs) (any_occurs v xs)
