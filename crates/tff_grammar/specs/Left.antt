-- The tokens that are left of a text.
use Rattle.std.specs.Prelude.{List, length}
use Rattle.tff_lexer.specs.Scans.{HaveForms, SpansAscend}
use Rattle.tff_grammar.specs.declared.pieces.Piece.{Piece}
use Rattle.tff_grammar.specs.declared.cursor.Pieces.TheInside.{Inside}
use Rattle.tff_grammar.specs.Pieces.{pieces_at}

-- as the grammar sees them
abbrev pub left_pieces : Inside → List Piece
left_pieces l = pieces_at l.bytes.now l.tokens.now

-- Their spans ascend within the text, and each one's bytes are a token of its kind.
pub record AreOfText (l : Inside) : Type 0 where
  pub spans : SpansAscend (length l.bytes.now) 0 l.tokens.now
  pub forms : HaveForms l.bytes.now l.tokens.now
