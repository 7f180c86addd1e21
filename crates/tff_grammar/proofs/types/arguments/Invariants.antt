use Rattle.std.proofs.Common.{◌≤◌, [], ◌∷◌, length}
use Rattle.tff_grammar.specs.Machine.{sorts_value, Reads}
use Rattle.tff_grammar.specs.Machine as m
use Rattle.tff_grammar.proofs.types.arguments.Given as goal

abbrev pub invariant-loop-after : goal.invariant-loop-after
invariant-loop-after l = record {
  read : Reads (m.argument ∷ []) (sorts_value (l.fn.first ∷ []) ∷ []) (m.more_args ∷ []) (sorts_value l.arguments ∷ []) l.fn.level l.fn.pieces l.rest;
  rest : length l.rest ≤ length l.fn.pieces;
}

abbrev pub decreases-loop-after : goal.decreases-loop-after
decreases-loop-after l = length l.rest
