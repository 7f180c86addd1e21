-- Worked rows of the definitions.
use Rattle.std.specs.Prelude.{◌≡◌, ◌^◌, ◌-◌, pos, negsuc, [], ◌∷◌, Some, None, refl}
use Rattle.term_base.specs.declared.symbols.Sort.TheVariants as sorts
use Rattle.term_base.specs.declared.terms.Term.{Term}
use Rattle.term_base.specs.declared.terms.Term.TheVariants as term
use Rattle.formula_base.specs.declared.formulas.Formula.{Formula}
use Rattle.formula_base.specs.declared.formulas.Formula.TheVariants as g
use Rattle.tff_grammar.specs.declared.pieces.Operation.TheVariants as o
use Rattle.tff_grammar.specs.declared.pieces.Link.TheVariants as link
use Rattle.tff_signature.specs.declared.faults.LaterName.TheVariants.{NonLinear, NumberTooWide, IllTyped}
use Rattle.tff_reader.specs.declared.heads.Wanted.TheVariants as wanted
use Rattle.tff_reader.specs.declared.numbers.Computed.TheVariants.{Value, Wide}
use Rattle.tff_signature.specs.Faults.{alone}
use Rattle.tff_reader.specs.NumberTerms.{operated, factor, product_fault}
use Rattle.tff_reader.specs.Typing.{own_fault, head_fault}
use Rattle.tff_reader.specs.Meaning.{comparison, linked, scaled}

-- 2^127 - 1 + 1 and -1 * -2^127 leave the range, -1 * (2^127 - 1) doesn't
wide_sum : operated o.Sum (Some (Value (pos (2 ^ 127 - 1))) ∷ Some (Value (pos 1)) ∷ []) ≡ Some Wide
wide_sum = refl

wide_minus : operated o.Difference (Some (Value (negsuc 0)) ∷ Some (Value (negsuc (2 ^ 127 - 1))) ∷ []) ≡ Some Wide
wide_minus = refl

narrow_minus : operated o.Uminus (Some (Value (pos (2 ^ 127 - 1))) ∷ []) ≡ Some (Value (negsuc (2 ^ 127 - 2)))
narrow_minus = refl

-- a product takes its first argument where that is a number-term
first_factor : factor (Some (Value (pos 2)) ∷ Some Wide ∷ []) ≡ Some (Value (pos 2))
first_factor = refl

second_factor : factor (None ∷ Some Wide ∷ []) ≡ Some Wide
second_factor = refl

no_factor : product_fault 35 (factor (None ∷ None ∷ [])) ≡ alone NonLinear 35
no_factor = refl

wide_factor : product_fault 35 (Some Wide) ≡ alone NumberTooWide 35
wide_factor = refl

-- `tff(a,axiom,p(0)).`: p takes a `$i`
zero_argument : own_fault (wanted.OfSort sorts.Individual) 14 (Some sorts.Int) ≡ alone IllTyped 14
zero_argument = refl

-- a predicate over one argument, with one and with two
right_arity : head_fault wanted.Predicate 12 1 (Some (record { args = sorts.Individual ∷ []; result = sorts.Truth })) ≡ []
right_arity = refl

wrong_arity : head_fault wanted.Predicate 12 2 (Some (record { args = sorts.Individual ∷ []; result = sorts.Truth })) ≡ alone IllTyped 12
wrong_arity = refl

module _ (s u : Term) (a b : Formula) where
  -- `$greater` turns its arguments
  greater : comparison o.Greater (s ∷ u ∷ []) ≡ g.Less u s
  greater = refl

  -- `F <= G` is F or not G
  implied : linked link.Implied a b ≡ g.Or (a ∷ g.Not b ∷ [])
  implied = refl

  -- `$product(2,u)` and `$product(s,2)`
  scaled_first : scaled (Some (Value (pos 2))) None s u ≡ term.Scale (pos 2) u
  scaled_first = refl

  scaled_second : scaled None (Some (Value (pos 2))) s u ≡ term.Scale (pos 2) s
  scaled_second = refl
