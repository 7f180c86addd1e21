-- Linear: a background term as a sum over unknowns, and the steps by which the sum is formed.
use Rattle.std.specs.Prelude.{ℕ, ℤ, pos, Bool, true, false, ◌||◌, List, [], ◌∷◌, ◌++◌}
use Rattle.term_base.specs.declared.terms.Term.{Term}
use Rattle.term_base.specs.declared.terms.Term.TheOpen.{Term-F, Var, Num, True, Sum, Scale, App}
use Rattle.term_base.specs.declared.terms.Term.TheFolds.{fold-Term}
use Rattle.lin_base.specs.declared.sums.Lin.{Lin}
use Rattle.lin_base.specs.declared.wides.Wide.{Wide}
use Rattle.lin_base.specs.Sum.{add, scale, negated, number}
use Rattle.lin_base.specs.Steps.{add_steps, scale_steps, negated_steps}
use Rattle.bg_view.specs.Unknowns.{Numbering}

-- a sum and the steps that form it
pub record Formed : Type 0 where
  pub sum : Lin
  pub steps : List Wide

-- the sum that is the unknown x
abbrev pub one_unknown : ℕ → Lin
one_unknown x = record { coefs = (x, pos 1) ∷ []; constant = pos 0 }

-- a sum that is there without a step
abbrev pub at_once : Lin → Formed
at_once t = record { sum = t; steps = [] }

-- both are formed, then they are added
abbrev pub plus : Formed → Formed → Formed
plus a b = record { sum = add a.sum b.sum; steps = a.steps ++ b.steps ++ add_steps a.sum b.sum }

-- the sum is formed, then it is multiplied
abbrev pub times : ℤ → Formed → Formed
times k a = record { sum = scale k a.sum; steps = a.steps ++ scale_steps k a.sum }

-- `true` stands in no sum, and beside itself alone: it counts as 0
abbrev pub linear_step : Numbering → Term-F Formed → Formed
linear_step n (Var v) = at_once (one_unknown (n.of_variable v))
linear_step n (Num k) = at_once (number k)
linear_step n True = at_once (number (pos 0))
linear_step n (Sum a b) = plus a b
linear_step n (Scale k a) = times k a
linear_step n (App f args) = at_once (one_unknown (n.of_symbol f))

-- Linear of a term
abbrev pub linear : Numbering → Term → Formed
linear n = fold-Term Formed (linear_step n)

-- a variable or a symbol in one of the parts
abbrev pub unknown_step : Term-F Bool → Bool
unknown_step (Var v) = true
unknown_step (Num k) = false
unknown_step True = false
unknown_step (Sum a b) = a || b
unknown_step (Scale k a) = a
unknown_step (App f args) = true

-- some variable or symbol occurs in the term
abbrev pub has_unknown : Term → Bool
has_unknown = fold-Term Bool unknown_step

-- the right sum is multiplied by -1 and added
abbrev pub subtracted : Lin → Lin → Lin
subtracted t u = add t (negated u)

-- the products with -1, then the sums
abbrev pub subtract_steps : Lin → Lin → List Wide
subtract_steps t u = negated_steps u ++ add_steps t (negated u)

-- left, then right, then their difference
abbrev pub minus : Formed → Formed → Formed
minus a b = record { sum = subtracted a.sum b.sum; steps = a.steps ++ b.steps ++ subtract_steps a.sum b.sum }

-- Linear of a literal with these sides
abbrev pub difference : Numbering → Term → Term → Formed
difference n s t = minus (linear n s) (linear n t)
