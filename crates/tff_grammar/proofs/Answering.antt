-- What reading gives is what the bytes give.
use Rattle.std.proofs.Common.{◌≡◌, ℕ, zero, suc, ◌+◌, ◌-◌, ◌<◌, ◌≤◌, ℤ, List, [], ◌∷◌, length, Option, Some, None, refl, sym, ap, subst, ◌∙◌, arith, length-append}
use Rattle.std.specs.Prelude.{Result, IfOk, IfErr, MatchResult, is_some, slice_get, FitsSigned}
use Rattle.std.specs.Int.{w128}
use Rattle.tff_lexer.specs.declared.spans.Token.{Token}
use Rattle.tff_lexer.specs.declared.spans.TokenKind.{TokenKind}
use Rattle.tff_lexer.specs.declared.spans.TokenKind.TheVariants as kind
use Rattle.tff_lexer.specs.Scans.{Scans}
use Rattle.tff_grammar.specs.declared.faults.FaultName.{FaultName}
use Rattle.tff_grammar.specs.declared.faults.FaultName.TheVariants as n
use Rattle.tff_grammar.specs.declared.faults.Fault.{Fault}
use Rattle.tff_grammar.specs.declared.faults.Found.{Found}
use Rattle.tff_grammar.specs.declared.pieces.Span.{Span}
use Rattle.tff_grammar.specs.declared.pieces.Piece.{Piece}
use Rattle.tff_grammar.specs.declared.pieces.Piece.TheVariants as piece
use Rattle.tff_grammar.specs.declared.trees.Statement.{Statement}
use Rattle.tff_grammar.specs.Meaning.{file_of}
use Rattle.tff_grammar.specs.FirstFault.{IsFile, IsFirst}
use Rattle.tff_grammar.specs.Machine.{Values, file_value, whole, fault, read}
use Rattle.tff_grammar.specs.Pieces.{bytes_of, place, IsNumeral, IsPiece, ArePieces}
use Rattle.tff_grammar.specs.Answer.{IsText, IsFirstFault, name_there, IsThere}
use Rattle.tff_grammar.proofs.Texts.{text_read, read_text}
use Rattle.tff_grammar.proofs.Stops.{last_name, first_fault, first_stop}

-- ---- tokens are classified in one way

numeral_one : (v : ℤ) (s : Span) (p q : Piece) → IsNumeral v s p → IsNumeral v s q → p ≡ q
numeral_one v s (piece.Numeral x) (piece.Numeral y) (f, e) (g, i) = ap piece.Numeral (e ∙ sym i)
numeral_one v s (piece.Numeral x) piece.WideNumeral (f, e) g = absurd (g f)
numeral_one v s piece.WideNumeral (piece.Numeral y) f (g, i) = absurd (f g)
numeral_one v s piece.WideNumeral piece.WideNumeral f g = refl
numeral_one v s (piece.Numeral x) q f g = absurd g
numeral_one v s piece.WideNumeral q f g = absurd g
numeral_one v s p q f g = absurd f

piece_one : (k : TokenKind) (text : List ℕ) (s : Span) (p q : Piece) → IsPiece k text s p → IsPiece k text s q → p ≡ q
piece_one kind.Numeral text s p q e i = numeral_one _ s p q e i
piece_one k text s p q e i = e ∙ sym i

cons_is : (a b : Piece) (qs rs : List Piece) → a ≡ b → qs ≡ rs → a ∷ qs ≡ b ∷ rs
cons_is a b qs rs h i = cc

pub pieces_one : (bytes : List ℕ) (ts : List Token) (ps qs : List Piece) → ArePieces bytes ts ps → ArePieces bytes ts qs → ps ≡ qs
pieces_one bytes [] [] [] a b = refl
pieces_one bytes [] [] (q ∷ qs) a b = absurd b
pieces_one bytes [] (p ∷ ps) qs a b = absurd a
pieces_one bytes (t ∷ ts) [] qs a b = absurd a
pieces_one bytes (t ∷ ts) (p ∷ ps) [] a b = absurd b
pieces_one bytes (t ∷ ts) (p ∷ ps) (q ∷ qs) a b = cons_is p q ps qs (piece_one t.kind (bytes_of bytes t) (place t) p q a.0 b.0) (pieces_one bytes ts ps qs a.1 b.1)

pub pieces_length : (bytes : List ℕ) (ts : List Token) (ps : List Piece) → ArePieces bytes ts ps → length ts ≡ length ps
pieces_length bytes [] [] a = refl
pieces_length bytes [] (p ∷ ps) a = absurd a
pieces_length bytes (t ∷ ts) [] a = absurd a
pieces_length bytes (t ∷ ts) (p ∷ ps) a = ap suc (pieces_length bytes ts ps a.1)

-- ---- texts

is_file : (ps : List Piece) (ss : List Statement) → read ps ≡ whole (file_value ss ∷ []) → IsFile ps ss
is_file ps ss e = let r = read_text ps (file_value ss ∷ []) e in record { file = r.file; spells = r.spells; meant = same ss (file_of r.file) r.gives }
  where
    same : (a b : List Statement) → file_value a ∷ [] ≡ file_value b ∷ [] → a ≡ b
    same a b h = cc

pub is_text : (bytes : List ℕ) (ts : List Token) (ps : List Piece) (ss : List Statement) → Scans bytes ts None → ArePieces bytes ts ps → read ps ≡ whole (file_value ss ∷ []) → IsText bytes ss
is_text bytes ts ps ss scan c e = record { tokens = ts; pieces = ps; scanned = scan; classified = c; file = is_file ps ss e }

abbrev pub OneScan : Type 0
OneScan = (bytes : List ℕ) (first second : List Token) (stop other : Option ℕ) → Scans bytes first stop → Scans bytes second other → (first ≡ second) × (stop ≡ other)

-- what reading a text gives
pub text_gives : OneScan → (bytes : List ℕ) (ts : List Token) (stop : Option ℕ) (ps : List Piece) (ss : List Statement) → Scans bytes ts stop → ArePieces bytes ts ps → IsText bytes ss
    → (stop ≡ None) × (read ps ≡ whole (file_value ss ∷ []))
text_gives one bytes ts stop ps ss scan c x =
    let (same, ends) = one bytes ts x.tokens stop None scan x.scanned in
    let pieces : ps ≡ x.pieces = pieces_one bytes x.tokens ps x.pieces (rw same at c) x.classified in
    (ends, rw (pieces, x.file.meant) (text_read x.file.file x.pieces x.file.spells))

pub whole_same : (a b : List Statement) → whole (file_value a ∷ []) ≡ whole (file_value b ∷ []) → a ≡ b
whole_same a b h = cc

pub not_whole : (f : Found) (v : Values) → fault f ≡ whole v → ⊥
not_whole f v h = absurd cc

-- ---- faults

get_none : (ts : List Token) → slice_get ts (length ts) ≡ None
get_none [] = refl
get_none (t ∷ ts) = get_none ts

get_some : (ts : List Token) (i : ℕ) → i < length ts → (t : Token) × (slice_get ts i ≡ Some t)
get_some [] i h = absurd (omega (arith, h))
get_some (t ∷ ts) zero h = (t, refl)
get_some (t ∷ ts) (suc i) h = get_some ts i (omega (arith, h))

-- the name of the last fault, by whether a token stands there
same_last : (ts : List Token) (front left : List Piece) (stop : Option ℕ) (name : FaultName) → length ts ≡ length front + length left
    → name_there stop (slice_get ts (length front)) name ≡ last_name (is_some stop) left name
same_last ts front [] None name e = by (slice_get ts (length front))
  where
    by : (o : Option Token) → name_there None o name ≡ name
    by None = refl
    by (Some t) = refl
same_last ts front [] (Some at) name e =
    let all : length front ≡ length ts = omega (arith, e) in
    let none : slice_get ts (length front) ≡ None = ap (slice_get ts) all ∙ get_none ts in
    rw none refl
same_last ts front (p ∷ left) None name e = by (slice_get ts (length front))
  where
    by : (o : Option Token) → name_there None o name ≡ name
    by None = refl
    by (Some t) = refl
same_last ts front (p ∷ left) (Some at) name e =
    let (t, some) = get_some ts (length front) (omega (arith, e)) in
    rw some refl

pub found_within : (ps : List Piece) (f : Found) → read ps ≡ fault f → f.left ≤ length ps
found_within ps f e =
    let (front, left, split, left_is, first) = first_fault ps f Rattle.std.specs.Prelude.false e in
    let n = ap length split ∙ length-append front left in
    omega (arith, n, left_is)

pub fault_text : (bytes : List ℕ) (ts : List Token) (stop : Option ℕ) (ps : List Piece) (f : Found) (given : Fault) → Scans bytes ts stop → ArePieces bytes ts ps → read ps ≡ fault f
    → IsThere (length bytes) ts stop f given → IsFirstFault bytes given
fault_text bytes ts stop ps f given scan c e there =
    let (front, left, split, left_is, first) = first_fault ps f (is_some stop) e in
    let n : length ts ≡ length front + length left = pieces_length bytes ts ps c ∙ ap length split ∙ length-append front left in
    let at : length ts - f.left ≡ length front = omega (arith, n, left_is) in
    let token : given.token ≡ slice_get ts (length front) = there.token ∙ ap (slice_get ts) at in
    let name : given.name ≡ last_name (is_some stop) left f.name = there.name ∙ ap (λ (o : Option Token). name_there stop o f.name) token ∙ same_last ts front left stop f.name n in
    record {
      tokens = ts;
      stop = stop;
      pieces = ps;
      at = length front;
      scanned = scan;
      classified = c;
      first = subst (λ (i : FaultName). IsFirst ps (is_some stop) (length front) i) (sym name) first;
      token = token;
      place = there.place;
    }

pub stop_text : (bytes : List ℕ) (ts : List Token) (at : ℕ) (ps : List Piece) (v : Values) → Scans bytes ts (Some at) → ArePieces bytes ts ps → read ps ≡ whole v
    → IsFirstFault bytes (record { name = n.Lex; at = at; token = None })
stop_text bytes ts at ps v scan c e = record {
  tokens = ts;
  stop = Some at;
  pieces = ps;
  at = length ps;
  scanned = scan;
  classified = c;
  first = first_stop ps v e;
  token = sym (ap (slice_get ts) (sym (pieces_length bytes ts ps c)) ∙ get_none ts);
  place = refl;
}
