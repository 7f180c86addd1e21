-- Linear of a literal over the integers: left minus right as a sum over its summands, and the steps by which the sum is formed.
use Rattle.std.specs.Prelude.{ℕ, ℤ, pos, List, [], ◌∷◌, ◌++◌}
use Rattle.term_base.specs.Trees.{Head, truth, number, plus, times, symbol, Tree, Trees, var, node, none, more}
use Rattle.lin_base.specs.declared.sums.Lin.{Lin}
use Rattle.lin_base.specs.declared.wides.Wide.{Wide}
use Rattle.lin_base.specs.Sum as sum
use Rattle.lin_base.specs.Sum.{add, scale, negated}
use Rattle.lin_base.specs.Steps.{add_steps, scale_steps, negated_steps}
use Rattle.linear_form.specs.Summands.{summands, place}

-- a sum and the steps that form it
pub record Formed : Type 0 where
  pub sum : Lin
  pub steps : List Wide

-- a sum that is there without a step
abbrev pub at_once : Lin → Formed
at_once t = record { sum = t; steps = [] }

-- the sum that is the unknown x
abbrev pub one_unknown : ℕ → Lin
one_unknown x = record { coefs = (x, pos 1) ∷ []; constant = pos 0 }

-- both are formed, then they are added
abbrev pub both : Formed → Formed → Formed
both a b = record { sum = add a.sum b.sum; steps = a.steps ++ b.steps ++ add_steps a.sum b.sum }

-- the sum is formed, then it is multiplied
abbrev pub multiple : ℤ → Formed → Formed
multiple k a = record { sum = scale k a.sum; steps = a.steps ++ scale_steps k a.sum }

-- the right sum is multiplied by -1 and added
abbrev pub subtracted : Lin → Lin → Lin
subtracted t u = add t (negated u)

-- the products with -1, then the sums
abbrev pub subtract_steps : Lin → Lin → List Wide
subtract_steps t u = negated_steps u ++ add_steps t (negated u)

-- left, then right, then their difference: right is multiplied by -1 and added
abbrev pub minus : Formed → Formed → Formed
minus a b = record { sum = subtracted a.sum b.sum; steps = a.steps ++ b.steps ++ subtract_steps a.sum b.sum }

-- a summand is the unknown of its place
abbrev pub unknown : List Tree → Tree → Formed
unknown ts t = at_once (one_unknown (place t ts))

-- of a head's term, by those of its arguments; the multiplier is the number that its first argument is
abbrev pub combined : Formed → Head → List Formed → Formed
combined u truth parts = u
combined u (number n) parts = at_once (sum.number n)
combined u plus (a ∷ b ∷ []) = both a b
combined u plus _ = u
combined u times (k ∷ a ∷ []) = multiple k.sum.constant a
combined u times _ = u
combined u (symbol f) parts = u

-- Linear of a term whose summands are among these, and of each argument
abbrev mutual
  pub linear_in : List Tree → Tree → Formed
  linear_in ts (var v) = unknown ts (var v)
  linear_in ts (node f xs) = combined (unknown ts (node f xs)) f (linear_of_each ts xs)

  pub linear_of_each : List Tree → Trees → List Formed
  linear_of_each ts none = []
  linear_of_each ts (more x xs) = linear_in ts x ∷ linear_of_each ts xs

-- left minus right over these summands
abbrev pub difference : List Tree → Tree → Tree → Formed
difference ts s t = minus (linear_in ts s) (linear_in ts t)

-- Linear of a literal with these sides
abbrev pub linear : Tree → Tree → Formed
linear s t = difference (summands s t) s t
