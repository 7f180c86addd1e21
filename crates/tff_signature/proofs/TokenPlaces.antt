-- The tokens of a text that its trees name, each with the byte where it begins, in the order of the text.
use Rattle.std.proofs.Common.{◌≡◌, ℕ, ◌+◌, ◌≤◌, ◌<◌, ℤ, Bool, true, false, List, [], ◌∷◌, drop, refl, ap, arith}
use Rattle.std.specs.Prelude.{Option, Some, None, if◌then◌else◌}
use Rattle.tff_lexer.specs.declared.spans.TokenKind.{TokenKind}
use Rattle.tff_lexer.specs.declared.spans.TokenKind.TheVariants as kind
use Rattle.tff_lexer.specs.declared.spans.Token.{Token}
use Rattle.tff_lexer.specs.Blanks.{skip, skipped_length}
use Rattle.tff_lexer.specs.Scans.{ScansAt, token_length}
use Rattle.tff_lexer.specs.Values.{value}
use Rattle.tff_lexer.proofs.Scanning.{some_byte}
use Rattle.tff_grammar.specs.declared.pieces.Span.{Span}
use Rattle.tff_grammar.specs.declared.pieces.Sign.{Sign}
use Rattle.tff_grammar.specs.declared.pieces.Link.{Link}
use Rattle.tff_grammar.specs.declared.pieces.Operation.{Operation}
use Rattle.tff_grammar.specs.declared.pieces.BasicSort.TheVariants.{Individual, Int}
use Rattle.tff_grammar.specs.declared.pieces.Junction.TheVariants.{And, Or}
use Rattle.tff_grammar.specs.declared.pieces.Quantifier.TheVariants.{ForAll, Exists}
use Rattle.tff_grammar.specs.declared.pieces.Relation.TheVariants.{Equal, Differ}
use Rattle.tff_grammar.specs.declared.pieces.Piece.{Piece}
use Rattle.tff_grammar.specs.declared.pieces.Piece.TheVariants as piece
use Rattle.tff_grammar.specs.Pieces.{place, bytes_of, IsNumeral, IsPiece, ArePieces}
use Rattle.tff_grammar.specs.Words.{spells, keyword_of, operation_of, operation_piece, dollar_piece, mark_of, mark_piece, link_of, link_piece, other_piece, sign_piece}

-- a word, a variable, a numeral or an arithmetic word in front of what follows; the trees name no place of another token
abbrev pub token_place : Piece → List ℕ → List ℕ
token_place (piece.Lower k s) ps = s.start ∷ ps
token_place (piece.Quoted s) ps = s.start ∷ ps
token_place (piece.Upper s) ps = s.start ∷ ps
token_place (piece.Numeral m) ps = m.span.start ∷ ps
token_place (piece.Operation o s) ps = s.start ∷ ps
token_place p ps = ps

abbrev pub token_places : List Piece → List ℕ
token_places [] = []
token_places (p ∷ ps) = token_place p (token_places ps)

-- each stands at this byte or behind it, and before the next one
abbrev pub Rise : ℕ → List ℕ → Type 0
Rise from [] = Unit {0}
Rise from (p ∷ ps) = (from ≤ p) × Rise (p + 1) ps

pub rise_sooner : (a b : ℕ) (ps : List ℕ) → a ≤ b → Rise b ps → Rise a ps
rise_sooner a b [] l h = tt
rise_sooner a b (p ∷ ps) l h = let x = h.0 in (omega (arith, l, x), h.1)

-- ---- one token

-- in front of what stands behind this byte
record IsPlaced (at : ℕ) (p : Piece) : Type 0 where
  rises : (ps : List ℕ) → Rise (at + 1) ps → Rise at (token_place p ps)

placed : (at : ℕ) (p : Piece) → ((ps : List ℕ) → token_place p ps ≡ at ∷ ps) → IsPlaced at p
placed at p h = record { rises = λ ps r. rw (h ps) (omega arith, r) }

unnamed : (at : ℕ) (p : Piece) → ((ps : List ℕ) → token_place p ps ≡ ps) → IsPlaced at p
unnamed at p h = record { rises = λ ps r. rw (h ps) (rise_sooner at (at + 1) ps (omega arith) r) }

either : (b : Bool) (at : ℕ) (p q : Piece) → IsPlaced at p → IsPlaced at q → IsPlaced at (if b then p else q)
either true at p q h k = h
either false at p q h k = k

operation_placed : (s : Span) (o : Option Operation) → IsPlaced s.start (operation_piece s o)
operation_placed s (Some o) = placed s.start (piece.Operation o s) (λ ps. refl)
operation_placed s None = unnamed s.start piece.Unsupported (λ ps. refl)

dollar_placed : (text : List ℕ) (s : Span) → IsPlaced s.start (dollar_piece text s)
dollar_placed text s =
    either (spells "$tType" text) s.start _ _ (unnamed s.start piece.OfTypes (λ ps. refl))
    (either (spells "$i" text) s.start _ _ (unnamed s.start (piece.Basic Individual) (λ ps. refl))
    (either (spells "$int" text) s.start _ _ (unnamed s.start (piece.Basic Int) (λ ps. refl))
    (either (spells "$o" text) s.start _ _ (unnamed s.start piece.Truth (λ ps. refl))
    (either (spells "$true" text) s.start _ _ (unnamed s.start (piece.Constant true) (λ ps. refl))
    (either (spells "$false" text) s.start _ _ (unnamed s.start (piece.Constant false) (λ ps. refl)) (operation_placed s (operation_of text)))))))

mark_placed : (at : ℕ) (o : Option Sign) (p : Piece) → IsPlaced at p → IsPlaced at (mark_piece o p)
mark_placed at (Some s) p h = unnamed at (piece.Sign s) (λ ps. refl)
mark_placed at None p h = h

link_placed : (at : ℕ) (o : Option Link) (p : Piece) → IsPlaced at p → IsPlaced at (link_piece o p)
link_placed at (Some l) p h = unnamed at (piece.Link l) (λ ps. refl)
link_placed at None p h = h

other_placed : (at : ℕ) (text : List ℕ) → IsPlaced at (other_piece text)
other_placed at text =
    either (spells "&" text) at _ _ (unnamed at (piece.Junction And) (λ ps. refl))
    (either (spells "|" text) at _ _ (unnamed at (piece.Junction Or) (λ ps. refl))
    (either (spells "!" text) at _ _ (unnamed at (piece.Quantifier ForAll) (λ ps. refl))
    (either (spells "?" text) at _ _ (unnamed at (piece.Quantifier Exists) (λ ps. refl))
    (either (spells "=" text) at _ _ (unnamed at (piece.Relation Equal) (λ ps. refl))
    (either (spells "!=" text) at _ _ (unnamed at (piece.Relation Differ) (λ ps. refl)) (unnamed at piece.Unsupported (λ ps. refl)))))))

sign_placed : (at : ℕ) (text : List ℕ) → IsPlaced at (sign_piece text)
sign_placed at text = mark_placed at (mark_of text) (link_piece (link_of text) (other_piece text)) (link_placed at (link_of text) (other_piece text) (other_placed at text))

numeral_placed : (v : ℤ) (s : Span) (p : Piece) → IsNumeral v s p → IsPlaced s.start p
numeral_placed v s (piece.Numeral m) i = placed s.start (piece.Numeral m) (λ ps. ap (λ n. n.span.start ∷ ps) i.1)
numeral_placed v s piece.WideNumeral i = unnamed s.start piece.WideNumeral (λ ps. refl)
numeral_placed v s p i = absurd i

token_placed : (k : TokenKind) (text : List ℕ) (s : Span) (p : Piece) → IsPiece k text s p → IsPlaced s.start p
token_placed kind.Lower text s p i = rw i (placed s.start (piece.Lower (keyword_of text) s) (λ ps. refl))
token_placed kind.Upper text s p i = rw i (placed s.start (piece.Upper s) (λ ps. refl))
token_placed kind.Dollar text s p i = rw i (dollar_placed text s)
token_placed kind.Quoted text s p i = rw i (placed s.start (piece.Quoted s) (λ ps. refl))
token_placed kind.Distinct text s p i = rw i (unnamed s.start piece.Unsupported (λ ps. refl))
token_placed kind.Numeral text s p i = numeral_placed (value text) s p i
token_placed kind.Rational text s p i = rw i (unnamed s.start piece.Unsupported (λ ps. refl))
token_placed kind.Real text s p i = rw i (unnamed s.start piece.Unsupported (λ ps. refl))
token_placed kind.Sign text s p i = rw i (sign_placed s.start text)

-- ---- all of them

pub places_rise : (bytes : List ℕ) (at : ℕ) (rest : List ℕ) (tokens : List Token) (stop : Option ℕ) (ps : List Piece)
    → ScansAt at rest tokens stop → ArePieces bytes tokens ps → Rise at (token_places ps)
places_rise bytes at rest [] stop [] s a = tt
places_rise bytes at rest [] stop (p ∷ ps) s a = absurd a
places_rise bytes at rest (t ∷ ts) stop [] s a = absurd a
places_rise bytes at rest (t ∷ ts) stop (p ∷ ps) s a =
    let left : List ℕ = skip (drop (token_length t) rest) in
    let next : ℕ = t.end + skipped_length (drop (token_length t) rest) in
    let some : 0 < token_length t = some_byte rest t.kind (token_length t) s.1 in
    let later : Rise next (token_places ps) = places_rise bytes next left ts stop ps s.2 a.1 in
    let behind : Rise (t.start + 1) (token_places ps) = rise_sooner (t.start + 1) next (token_places ps) (omega (arith, some)) later in
    rw (← s.0) ((token_placed t.kind (bytes_of bytes t) (place t) p a.0).rises (token_places ps) behind)
