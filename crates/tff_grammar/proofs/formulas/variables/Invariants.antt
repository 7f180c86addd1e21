use Rattle.std.proofs.Common.{◌≤◌, [], ◌∷◌, length}
use Rattle.tff_grammar.specs.Machine.{binders_value, Reads}
use Rattle.tff_grammar.specs.Machine as m
use Rattle.tff_grammar.proofs.formulas.variables.Given as goal

abbrev pub invariant-loop-variables : goal.invariant-loop-variables
invariant-loop-variables l = record {
  read : Reads (m.binder ∷ []) (binders_value [] ∷ []) (m.binder ∷ []) (binders_value l.variables.items ∷ []) l.fn.level l.fn.pieces l.rest;
  rest : length l.rest ≤ length l.fn.pieces;
}

abbrev pub decreases-loop-variables : goal.decreases-loop-variables
decreases-loop-variables l = length l.rest
