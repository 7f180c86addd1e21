use Rattle.std.proofs.Common.{◌+◌, ◌≤◌, ◌*◌, [], ◌∷◌, length}
use Rattle.tff_grammar.specs.Machine.{members_value, Reads}
use Rattle.tff_grammar.specs.Machine as m
use Rattle.tff_grammar.proofs.formulas.+formula.Given as goal

abbrev pub decreases-unit : goal.decreases-unit
decreases-unit l = 2 * length l.pieces.now

abbrev pub decreases-formula : goal.decreases-formula
decreases-formula l = 2 * length l.pieces.now + 1

abbrev pub decreases-members : goal.decreases-members
decreases-members l = 2 * length l.pieces.now + 1

abbrev pub invariant-members-loop-members : goal.invariant-members-loop-members
invariant-members-loop-members l = record {
  read : Reads (m.unit ∷ m.chain l.fn.junction ∷ []) (members_value (l.fn.first ∷ []) ∷ []) (m.unit ∷ m.chain l.fn.junction ∷ []) (members_value l.members.items ∷ []) l.fn.level l.fn.pieces l.rest;
  rest : length l.rest ≤ length l.fn.pieces;
}

abbrev pub decreases-members-loop-members : goal.decreases-members-loop-members
decreases-members-loop-members l = length l.rest
