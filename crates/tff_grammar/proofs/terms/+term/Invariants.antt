use Rattle.std.proofs.Common.{◌+◌, ◌≤◌, ◌*◌, [], ◌∷◌, length}
use Rattle.tff_grammar.specs.Machine.{head_value, Reads}
use Rattle.tff_grammar.specs.Machine as m
use Rattle.tff_grammar.proofs.terms.+term.Given as goal

abbrev pub decreases-term : goal.decreases-term
decreases-term l = 2 * length l.pieces.now

abbrev pub decreases-arguments : goal.decreases-arguments
decreases-arguments l = 2 * length l.pieces.now + 1

abbrev pub decreases-terms : goal.decreases-terms
decreases-terms l = 2 * length l.pieces.now + 1

abbrev pub invariant-terms-loop-terms : goal.invariant-terms-loop-terms
invariant-terms-loop-terms l = record {
  read : Reads (m.term ∷ m.more_terms ∷ []) (head_value l.fn.head [] ∷ []) (m.term ∷ m.more_terms ∷ []) (head_value l.fn.head l.terms.items ∷ []) l.fn.level l.fn.pieces l.rest;
  rest : length l.rest ≤ length l.fn.pieces;
}

abbrev pub decreases-terms-loop-terms : goal.decreases-terms-loop-terms
decreases-terms-loop-terms l = length l.rest
