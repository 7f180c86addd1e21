-- The tokens of a text as the grammar sees them, by their kinds and their bytes.
use Rattle.std.specs.Prelude.{◌≡◌, ℕ, ◌-◌, ◌^◌, ltb, cond, Bool, ℤ, pos, negsuc, List, [], ◌∷◌, take, drop, FitsSigned}
use Rattle.std.specs.Int.{w128}
use Rattle.tff_lexer.specs.declared.spans.TokenKind.{TokenKind}
use Rattle.tff_lexer.specs.declared.spans.TokenKind.TheVariants as kind
use Rattle.tff_lexer.specs.declared.spans.Token.{Token}
use Rattle.tff_lexer.specs.Values.{value}
use Rattle.tff_grammar.specs.declared.pieces.Span.{Span}
use Rattle.tff_grammar.specs.declared.pieces.Piece.{Piece}
use Rattle.tff_grammar.specs.declared.pieces.Piece.TheVariants as piece
use Rattle.tff_grammar.specs.Words.{keyword_of, dollar_piece, sign_piece}

-- where a token stands
abbrev pub place : Token → Span
place t = record { start = t.start; «end» = t.end }

-- the bytes that stand there
abbrev pub bytes_at : List ℕ → Span → List ℕ
bytes_at text s = take (s.«end» - s.start) (drop s.start text)

-- those of a token
abbrev pub bytes_of : List ℕ → Token → List ℕ
bytes_of bytes t = bytes_at bytes (place t)

-- a numeral: its number where that is one from -2^127 to 2^127 - 1
abbrev pub IsNumeral : ℤ → Span → Piece → Type 0
IsNumeral v s (piece.Numeral m) = FitsSigned w128 v × (m ≡ record { value = v; span = s })
IsNumeral v s piece.WideNumeral = ¬ FitsSigned w128 v
IsNumeral v s p = ⊥

-- a token of this kind, with these bytes and at this place
abbrev pub IsPiece : TokenKind → List ℕ → Span → Piece → Type 0
IsPiece kind.Lower text s p = p ≡ piece.Lower (keyword_of text) s
IsPiece kind.Upper text s p = p ≡ piece.Upper s
IsPiece kind.Dollar text s p = p ≡ dollar_piece text s
IsPiece kind.Quoted text s p = p ≡ piece.Quoted s
IsPiece kind.Distinct text s p = p ≡ piece.Unsupported
IsPiece kind.Numeral text s p = IsNumeral (value text) s p
IsPiece kind.Rational text s p = p ≡ piece.Unsupported
IsPiece kind.Real text s p = p ≡ piece.Unsupported
IsPiece kind.Sign text s p = p ≡ sign_piece text

-- all of them
abbrev pub ArePieces : List ℕ → List Token → List Piece → Type 0
ArePieces bytes [] [] = Unit {0}
ArePieces bytes [] (p ∷ ps) = ⊥
ArePieces bytes (t ∷ ts) [] = ⊥
ArePieces bytes (t ∷ ts) (p ∷ ps) = IsPiece t.kind (bytes_of bytes t) (place t) p × ArePieces bytes ts ps

-- ---- private contracts alone cite what follows: the same, computed

-- the number is one from -2^127 to 2^127 - 1
abbrev pub fits : ℤ → Bool
fits (pos n) = ltb n (2 ^ 127)
fits (negsuc n) = ltb n (2 ^ 127)

-- the one numeral of this number and place
abbrev pub numeral_piece : ℤ → Span → Piece
numeral_piece v s = cond (fits v) (piece.Numeral (record { value = v; span = s })) piece.WideNumeral

-- the one token of this kind, with these bytes and at this place
abbrev pub piece_of : TokenKind → List ℕ → Span → Piece
piece_of kind.Lower text s = piece.Lower (keyword_of text) s
piece_of kind.Upper text s = piece.Upper s
piece_of kind.Dollar text s = dollar_piece text s
piece_of kind.Quoted text s = piece.Quoted s
piece_of kind.Distinct text s = piece.Unsupported
piece_of kind.Numeral text s = numeral_piece (value text) s
piece_of kind.Rational text s = piece.Unsupported
piece_of kind.Real text s = piece.Unsupported
piece_of kind.Sign text s = sign_piece text

-- all of them
abbrev pub pieces_at : List ℕ → List Token → List Piece
pieces_at bytes [] = []
pieces_at bytes (t ∷ ts) = piece_of t.kind (bytes_of bytes t) (place t) ∷ pieces_at bytes ts
