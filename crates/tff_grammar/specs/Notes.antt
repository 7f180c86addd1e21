-- What tokens are in annotations.
use Rattle.tff_grammar.specs.declared.annotations.Note.{Note}
use Rattle.tff_grammar.specs.declared.annotations.Note.TheVariants as note
use Rattle.tff_grammar.specs.declared.pieces.Sign.TheVariants.{OpenRound, CloseRound, OpenSquare, CloseSquare}
use Rattle.tff_grammar.specs.declared.pieces.Piece.{Piece}
use Rattle.tff_grammar.specs.declared.pieces.Piece.TheVariants as piece

-- brackets, numerals out of the range, and all others
abbrev pub note_of : Piece → Note
note_of (piece.Sign OpenRound) = note.OpenRound
note_of (piece.Sign CloseRound) = note.CloseRound
note_of (piece.Sign OpenSquare) = note.OpenSquare
note_of (piece.Sign CloseSquare) = note.CloseSquare
note_of piece.WideNumeral = note.Wide
note_of p = note.Other
