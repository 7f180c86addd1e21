use Rattle.std.proofs.Common.{◌≡◌, ◌+ℤ◌, drop, pos}
use Rattle.lin_base.specs.Steps.{first_wide, value_steps_from}
use Rattle.lin_base.specs.Sum.{value_of_terms}
use Rattle.cooper.specs.Walks.{valuation_of}
use Rattle.cooper.proofs.valuing.formed_value.Given as goal

-- what is formed so far, and what is left
abbrev pub invariant-loop-term : goal.invariant-loop-term
invariant-loop-term l = record {
  narrow : first_wide (value_steps_from (valuation_of l.values) (pos 0) l.term-items l.t.constant) ≡ first_wide (value_steps_from (valuation_of l.values) l.so_far (drop l.term-index l.term-items) l.t.constant);
  value : l.so_far +ℤ value_of_terms (valuation_of l.values) (drop l.term-index l.term-items) ≡ value_of_terms (valuation_of l.values) l.term-items;
}
