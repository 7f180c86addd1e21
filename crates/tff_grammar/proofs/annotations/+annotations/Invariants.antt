use Rattle.std.proofs.Common.{◌+◌, ◌*◌, ◌≤◌, length}
use Rattle.tff_grammar.proofs.Squares.{Inside}
use Rattle.tff_grammar.proofs.annotations.+annotations.Given as goal

abbrev pub decreases-annotations : goal.decreases-annotations
decreases-annotations l = 2 * length l.pieces.now + 1

abbrev pub decreases-round : goal.decreases-round
decreases-round l = 2 * length l.pieces.now

abbrev pub invariant-annotations-loop-piece : goal.invariant-annotations-loop-piece
invariant-annotations-loop-piece l = record {
  read : Inside l.squares l.fn.level l.fn.pieces l.rest;
  rest : l.squares + length l.rest ≤ length l.fn.pieces;
}

abbrev pub decreases-annotations-loop-piece : goal.decreases-annotations-loop-piece
decreases-annotations-loop-piece l = length l.rest
