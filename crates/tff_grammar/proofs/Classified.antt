-- Each token of a text is classified, and in one way.
use Rattle.std.proofs.Common.{◌≡◌, ℕ, ◌^◌, Bool, true, false, cond, ℤ, pos, negsuc, List, [], ◌∷◌, refl, arith}
use Rattle.std.specs.Prelude.{FitsSigned}
use Rattle.std.specs.Int.{w128}
use Rattle.std.proofs.lemmas.Bool.{ltb-true, ltb-false}
use Rattle.tff_lexer.specs.declared.spans.Token.{Token}
use Rattle.tff_lexer.specs.declared.spans.TokenKind.{TokenKind}
use Rattle.tff_lexer.specs.declared.spans.TokenKind.TheVariants as kind
use Rattle.tff_lexer.specs.Values.{value}
use Rattle.tff_grammar.specs.declared.pieces.Span.{Span}
use Rattle.tff_grammar.specs.declared.pieces.Piece.{Piece}
use Rattle.tff_grammar.specs.declared.pieces.Piece.TheVariants as piece
use Rattle.tff_grammar.specs.Pieces.{bytes_of, place, fits, numeral_piece, piece_of, pieces_at, IsNumeral, IsPiece, ArePieces}

pub fits_true : (v : ℤ) → fits v ≡ true → FitsSigned w128 v
fits_true (pos n) e = record { sfits = ltb-true n (2 ^ 127) e }
fits_true (negsuc n) e = record { sfits = ltb-true n (2 ^ 127) e }

pub fits_false : (v : ℤ) → fits v ≡ false → ¬ FitsSigned w128 v
fits_false (pos n) e f = let g = f.sfits in let h = ltb-false n (2 ^ 127) e in omega (arith, g, h)
fits_false (negsuc n) e f = let g = f.sfits in let h = ltb-false n (2 ^ 127) e in omega (arith, g, h)

numeral_is : (v : ℤ) (s : Span) → IsNumeral v s (numeral_piece v s)
numeral_is v s = by (fits v) refl
  where
    by : (b : Bool) → fits v ≡ b → IsNumeral v s (cond b (piece.Numeral (record { value = v; span = s })) piece.WideNumeral)
    by true e = (fits_true v e, refl)
    by false e = fits_false v e

piece_is : (k : TokenKind) (text : List ℕ) (s : Span) → IsPiece k text s (piece_of k text s)
piece_is kind.Lower text s = refl
piece_is kind.Upper text s = refl
piece_is kind.Dollar text s = refl
piece_is kind.Quoted text s = refl
piece_is kind.Distinct text s = refl
piece_is kind.Numeral text s = numeral_is (value text) s
piece_is kind.Rational text s = refl
piece_is kind.Real text s = refl
piece_is kind.Sign text s = refl

pub pieces_are : (bytes : List ℕ) (ts : List Token) → ArePieces bytes ts (pieces_at bytes ts)
pieces_are bytes [] = tt
pieces_are bytes (t ∷ ts) = (piece_is t.kind (bytes_of bytes t) (place t), pieces_are bytes ts)
