-- The faults of types and of products stand in the order of the text.
use Rattle.std.proofs.Common.{◌≡◌, ℕ, zero, suc, ◌+◌, ◌-◌, ◌<◌, ◌≤◌, Bool, true, false, ◌&&◌, not, ◌==◌, List, [], ◌∷◌, ◌++◌, map, length, take, drop, refl, sym, ◌∙◌, ap, subst, arith, append-nil, inl, inr}
use Rattle.std.specs.Prelude.{◌⊎◌, Option, Some, None, option_map, ℤ, IsTrue, flat_map, if◌then◌else◌}
use Rattle.std.specs.List.{All, AllPairs}
use Rattle.std.proofs.lemmas.List.Kept.{AllPairs-cons}
use Rattle.std.proofs.lemmas.List.Elements.{All-nil, All-cons}
use Rattle.term_base.specs.declared.symbols.Sort.{Sort}
use Rattle.term_base.specs.declared.symbols.Sort.TheVariants as sorts
use Rattle.term_base.specs.declared.symbols.Symbol.{Symbol}
use Rattle.tff_lexer.specs.declared.spans.TokenKind.{TokenKind}
use Rattle.tff_lexer.specs.declared.spans.TokenKind.TheVariants as kind
use Rattle.tff_lexer.specs.declared.spans.Token.{Token}
use Rattle.tff_lexer.specs.Forms.{is_token}
use Rattle.tff_lexer.specs.Blanks.{skip, skipped_length}
use Rattle.tff_lexer.specs.Scans.{Scans, ScansAt, token_length}
use Rattle.tff_grammar.specs.declared.pieces.Span.{Span}
use Rattle.tff_grammar.specs.declared.pieces.Number.{Number}
use Rattle.tff_grammar.specs.declared.pieces.Operation.{Operation}
use Rattle.tff_grammar.specs.declared.pieces.Junction.{Junction}
use Rattle.tff_grammar.specs.declared.pieces.Link.{Link}
use Rattle.tff_grammar.specs.declared.pieces.Quantifier.{Quantifier}
use Rattle.tff_grammar.specs.declared.pieces.Relation.{Relation}
use Rattle.tff_grammar.specs.declared.pieces.BasicSort.{BasicSort}
use Rattle.tff_grammar.specs.declared.pieces.Sign.{Sign}
use Rattle.tff_grammar.specs.declared.pieces.Sign.TheVariants.{OpenRound, CloseRound, OpenSquare, CloseSquare, Comma, Dot, Colon, Star, Arrow}
use Rattle.tff_grammar.specs.declared.pieces.Junction.TheVariants as junctions
use Rattle.tff_grammar.specs.declared.pieces.Quantifier.TheVariants as quantifiers
use Rattle.tff_grammar.specs.declared.pieces.Relation.TheVariants as relations
use Rattle.tff_grammar.specs.declared.pieces.BasicSort.TheVariants as basics
use Rattle.tff_grammar.specs.declared.pieces.Operation.TheVariants as operations
use Rattle.tff_lexer.specs.Values.{value}
use Rattle.tff_grammar.specs.declared.pieces.Piece.{Piece}
use Rattle.tff_grammar.specs.declared.pieces.Piece.TheVariants as piece
use Rattle.tff_grammar.specs.declared.trees.Word.{Word}
use Rattle.tff_grammar.specs.declared.trees.Sort.{Sort as WrittenSort}
use Rattle.tff_grammar.specs.declared.trees.Sort.TheVariants as sort
use Rattle.tff_grammar.specs.declared.trees.DeclaredType.{DeclaredType}
use Rattle.tff_grammar.specs.declared.trees.DeclaredType.TheVariants as type
use Rattle.tff_grammar.specs.declared.trees.Head.{Head}
use Rattle.tff_grammar.specs.declared.trees.Head.TheVariants as head
use Rattle.tff_grammar.specs.declared.trees.Term.{Term}
use Rattle.tff_grammar.specs.declared.trees.Term.TheOpen as t
use Rattle.tff_grammar.specs.declared.trees.Term.TheVariants as term
use Rattle.tff_grammar.specs.declared.trees.Variable.{Variable}
use Rattle.tff_grammar.specs.declared.trees.Formula.{Formula}
use Rattle.tff_grammar.specs.declared.trees.Formula.TheOpen as f
use Rattle.tff_grammar.specs.declared.trees.Formula.TheVariants as formula
use Rattle.tff_grammar.specs.declared.trees.Content.{Content}
use Rattle.tff_grammar.specs.declared.trees.Content.TheVariants as content
use Rattle.tff_grammar.specs.declared.trees.Statement.{Statement}
use Rattle.tff_grammar.specs.Words.{dollar_piece, sign_piece, operation_of, operation_piece, mark_of, link_of, mark_piece, link_piece, other_piece}
use Rattle.tff_grammar.specs.Pieces.{bytes_of, place, IsNumeral, IsPiece, ArePieces}
use Rattle.tff_grammar.specs.Grammar as tree
use Rattle.tff_grammar.specs.Grammar.{WordTree, NameTree, ArgumentTree, SortTree, ArgsTree, TypeTree, TypingTree, HeadTree, TermTree, ArgumentsTree, TermsTree, SecondTree, VariableTree, UnitTree, FormulaTree, TailTree, UnitsTree, NotesTree, EndingTree, BodyTree, StatementTree, FileTree}
use Rattle.tff_grammar.specs.Text.{Leveleds, word_text, name_text, argument_text, sort_text, more_arguments, args_text, type_text, typing_text, head_text, term_text, arguments_text, terms_text, second_text, variable_sort_text, variable_text, more_variables, binder_text, unit_text, formula_text, tail_text, units_text, notes_text, close_text, ending_text, body_text, statement_text, file_text}
use Rattle.tff_grammar.specs.Meaning as of
use Rattle.tff_grammar.specs.FirstFault.{pieces_of}
use Rattle.tff_grammar.specs.Answer.{IsText}
use Rattle.tff_signature.specs.declared.faults.Later.{Later}
use Rattle.tff_signature.specs.declared.faults.LaterName.{LaterName}
use Rattle.tff_signature.specs.declared.faults.LaterName.TheVariants.{IllTyped}
use Rattle.tff_signature.specs.Faults.{Faults, fault, alone}
use Rattle.tff_signature.specs.Symbols.{Signature, signature_of}
use Rattle.tff_reader.specs.declared.numbers.Computed.{Computed}
use Rattle.tff_reader.specs.declared.numbers.Computed.TheVariants.{Value, Wide}
use Rattle.tff_reader.specs.declared.heads.Wanted.{Wanted}
use Rattle.tff_reader.specs.declared.heads.Wanted.TheVariants as wanted
use Rattle.tff_reader.specs.Scopes.{Scope, bind}
use Rattle.tff_reader.specs.NumberTerms as numbers
use Rattle.tff_reader.specs.NumberTerms.{Products, products, products_step, product_faults, product_faults_step, numbers_of, factor, product_fault, phase_4, content_products}
use Rattle.tff_reader.specs.Typing.{HeadType, suits, own_fault, head_fault, head_place, arguments, asked, argument_faults, head_type, bound_sort, term_sort, term_faults, term_faults_step, right_side, relation_faults}
use Rattle.tff_reader.specs.Meaning.{FormulaMeaning, Meaning, members, behind, faults_of, meaning_step, meaning, formula_meaning, content_faults, typing_faults, phase_3}
use Rattle.tff_grammar.specs.TreeFolds as folds

-- ---- faults between two bytes

-- the faults stand from one byte to another, each behind those in front of it
abbrev Spread : ℕ → ℕ → Faults → Type 0
Spread a b [] = a ≤ b
Spread a b (e ∷ fs) = (a ≤ e.at) × Spread (e.at + 1) b fs

spread_from : (a a' b : ℕ) (fs : Faults) → a' ≤ a → Spread a b fs → Spread a' b fs
spread_from a a' b [] le h = omega arith
spread_from a a' b (e ∷ fs) le h = (omega (arith, h.0), h.1)

spread_both : (a b c : ℕ) (fs gs : Faults) → Spread a b fs → Spread b c gs → Spread a c (fs ++ gs)
spread_both a b c [] gs h k = spread_from b a c gs h k
spread_both a b c (e ∷ fs) gs h k = (h.0, spread_both (e.at + 1) b c fs gs h.1 k)

spread_same : (a b : ℕ) (fs gs : Faults) → fs ≡ gs → Spread a b gs → Spread a b fs
spread_same a b fs gs e h = subst (Spread a b) (sym e) h

-- one fault at most, at this byte
spread_if : (a at : ℕ) (b : Bool) (name : LaterName) → a ≤ at → Spread a (at + 1) (if b then [] else alone name at)
spread_if a at true name le = omega arith
spread_if a at false name le = (le, omega arith)

spread_behind : (a b : ℕ) (fs : Faults) → Spread (a + 1) b fs → All (λ (e : Later). a < e.at) fs
spread_behind a b [] h = All-nil (λ (e : Later). a < e.at)
spread_behind a b (e ∷ fs) h = All-cons (λ (x : Later). a < x.at) e fs (omega (arith, h.0)) (spread_behind a b fs (spread_from (e.at + 1) (a + 1) b fs (omega (arith, h.0)) h.1))

-- ---- pieces from a byte on

-- where a piece stands, where it tells
abbrev piece_span : Piece → Option Span
piece_span (piece.Lower k s) = Some s
piece_span (piece.Quoted s) = Some s
piece_span (piece.Upper s) = Some s
piece_span (piece.Numeral m) = Some m.span
piece_span (piece.Operation o s) = Some s
piece_span p = None

-- where a piece is to stand, and the byte behind its first, where it tells
abbrev low : ℕ → Option Span → ℕ
low a None = a
low a (Some s) = s.start

abbrev next : ℕ → Option Span → ℕ
next a None = a
next a (Some s) = s.start + 1

-- the pieces stand from this byte on, each behind those in front of it
abbrev Above : ℕ → List Piece → Type 0
Above a [] = Unit {0}
Above a (p ∷ ps) = (a ≤ low a (piece_span p)) × Above (next a (piece_span p)) ps

above_at : (a b : ℕ) (ps : List Piece) (o : Option Span) → a ≤ b → (Above b ps → Above a ps) → (b ≤ low b o) × Above (next b o) ps → (a ≤ low a o) × Above (next a o) ps
above_at a b ps None le later h = (omega arith, later h.1)
above_at a b ps (Some s) le later h = (omega (arith, h.0), h.1)

above_later : (a b : ℕ) (ps : List Piece) → a ≤ b → Above b ps → Above a ps
above_later a b [] le h = tt
above_later a b (p ∷ ps) le h = above_at a b ps (piece_span p) le (above_later a b ps le) h

-- a piece tells nothing of its place, or this
record IsAt (s : Span) (p : Piece) : Type 0 where
  is : (piece_span p ≡ None) ⊎ (piece_span p ≡ Some s)

at_none : (s : Span) (p : Piece) → piece_span p ≡ None → IsAt s p
at_none s p h = record { is = inl h }

at_this : (s : Span) (p : Piece) → piece_span p ≡ Some s → IsAt s p
at_this s p h = record { is = inr h }

at_if : (s : Span) (b : Bool) (p q : Piece) → IsAt s p → IsAt s q → IsAt s (if b then p else q)
at_if s true p q h k = h
at_if s false p q h k = k

at_operation : (s : Span) (o : Option Operation) → IsAt s (operation_piece s o)
at_operation s None = at_none s piece.Unsupported refl
at_operation s (Some o) = at_this s (piece.Operation o s) refl

at_mark : (s : Span) (o : Option Sign) (p : Piece) → IsAt s p → IsAt s (mark_piece o p)
at_mark s None p h = h
at_mark s (Some m) p h = at_none s (piece.Sign m) refl

at_link : (s : Span) (o : Option Link) (p : Piece) → IsAt s p → IsAt s (link_piece o p)
at_link s None p h = h
at_link s (Some l) p h = at_none s (piece.Link l) refl

at_numeral : (v : ℤ) (s : Span) (p : Piece) → IsNumeral v s p → IsAt s p
at_numeral v s (piece.Numeral m) h = at_this s (piece.Numeral m) (ap (λ (n : Number). Some n.span) h.1)
at_numeral v s piece.WideNumeral h = at_none s piece.WideNumeral refl
at_numeral v s _ h = absurd h

at_dollar : (text : List ℕ) (s : Span) → IsAt s (dollar_piece text s)
at_dollar text s =
    at_if s _ _ _ (at_none s piece.OfTypes refl) (at_if s _ _ _ (at_none s (piece.Basic basics.Individual) refl) (at_if s _ _ _ (at_none s (piece.Basic basics.Int) refl) (at_if s _ _ _ (at_none s piece.Truth refl)
    (at_if s _ _ _ (at_none s (piece.Constant true) refl) (at_if s _ _ _ (at_none s (piece.Constant false) refl) (at_operation s (operation_of text)))))))

at_other : (text : List ℕ) (s : Span) → IsAt s (other_piece text)
at_other text s =
    at_if s _ _ _ (at_none s (piece.Junction junctions.And) refl) (at_if s _ _ _ (at_none s (piece.Junction junctions.Or) refl) (at_if s _ _ _ (at_none s (piece.Quantifier quantifiers.ForAll) refl)
    (at_if s _ _ _ (at_none s (piece.Quantifier quantifiers.Exists) refl) (at_if s _ _ _ (at_none s (piece.Relation relations.Equal) refl)
    (at_if s _ _ _ (at_none s (piece.Relation relations.Differ) refl) (at_none s piece.Unsupported refl))))))

at_piece : (k : TokenKind) (text : List ℕ) (s : Span) (p : Piece) → IsPiece k text s p → IsAt s p
at_piece kind.Lower text s p h = at_this s p (ap piece_span h)
at_piece kind.Upper text s p h = at_this s p (ap piece_span h)
at_piece kind.Dollar text s p h = subst (IsAt s) (sym h) (at_dollar text s)
at_piece kind.Quoted text s p h = at_this s p (ap piece_span h)
at_piece kind.Distinct text s p h = at_none s p (ap piece_span h)
at_piece kind.Numeral text s p h = at_numeral (value text) s p h
at_piece kind.Rational text s p h = at_none s p (ap piece_span h)
at_piece kind.Real text s p h = at_none s p (ap piece_span h)
at_piece kind.Sign text s p h = subst (IsAt s) (sym h) (at_mark s (mark_of text) (link_piece (link_of text) (other_piece text)) (at_link s (link_of text) (other_piece text) (at_other text s)))

no_token : (k : TokenKind) → is_token k [] ≡ false
no_token kind.Lower = refl
no_token kind.Upper = refl
no_token kind.Dollar = refl
no_token kind.Quoted = refl
no_token kind.Distinct = refl
no_token kind.Numeral = refl
no_token kind.Rational = refl
no_token kind.Real = refl
no_token kind.Sign = refl

filled : (k : TokenKind) (n : ℕ) (text : List ℕ) → is_token k (take n text) ≡ true → 0 < n
filled k zero text h = let none : is_token k (take 0 text) ≡ false = no_token k in absurd (cc)
filled k (suc n) text h = omega arith

pieces_above : (bytes : List ℕ) (ts : List Token) (at : ℕ) (rest : List ℕ) (stop : Option ℕ) (ps : List Piece) → ScansAt at rest ts stop → ArePieces bytes ts ps → Above at ps
pieces_above bytes [] at rest stop [] h k = tt
pieces_above bytes [] at rest stop (p ∷ ps) h k = absurd k
pieces_above bytes (x ∷ ts) at rest stop [] h k = absurd k
pieces_above bytes (x ∷ ts) at rest stop (p ∷ ps) h k =
    let more = pieces_above bytes ts (x.end + skipped_length (drop (token_length x) rest)) (skip (drop (token_length x) rest)) stop ps h.2 k.1 in
    let some_byte : 0 < token_length x = filled x.kind (token_length x) rest h.1.token in
    let start : x.start ≡ at = h.0 in
    let onward : at + 1 ≤ x.end + skipped_length (drop (token_length x) rest) = omega (arith, some_byte) in
    let from_here = above_later (at + 1) (x.end + skipped_length (drop (token_length x) rest)) ps onward more in
    at_span (piece_span p) (at_piece x.kind (bytes_of bytes x) (place x) p k.0).is from_here start
  where
    at_span : (o : Option Span) → (o ≡ None) ⊎ (o ≡ Some (place x)) → Above (at + 1) ps → x.start ≡ at → (at ≤ low at o) × Above (next at o) ps
    at_span o (inl none) above start = subst (λ (q : Option Span). (at ≤ low at q) × Above (next at q) ps) (sym none) (omega arith, above_later at (at + 1) ps (omega arith) above)
    at_span o (inr some) above start =
        subst (λ (q : Option Span). (at ≤ low at q) × Above (next at q) ps) (sym some) (omega arith, subst (λ (n : ℕ). Above (n + 1) ps) (sym start) above)

-- ---- what stands from one byte to another

-- a fact that ends at some byte, from which on the rest stands
record Reaches (a : ℕ) (rest : Leveleds) (P : ℕ → Type 0) : Type 0 where
  end_at : ℕ
  onward : a ≤ end_at
  above : Above end_at (pieces_of rest)
  holds : P end_at

reaches : (a b : ℕ) (rest : Leveleds) (P : ℕ → Type 0) → a ≤ b → Above b (pieces_of rest) → P b → Reaches a rest P
reaches a b rest P le above holds = record { end_at = b; onward = le; above = above; holds = holds }

-- a word or a head that stands from this byte on
record HeadReaches (a : ℕ) (rest : Leveleds) (h : Head) : Type 0 where
  onward : a ≤ head_place h
  above : Above (head_place h + 1) (pieces_of rest)

head_places : (n : ℕ) (x : HeadTree) (rest : Leveleds) (a : ℕ) → Above a (pieces_of (head_text n x rest)) → HeadReaches a rest (of.head_of x)
head_places n (tree.head_word (tree.lower k s)) rest a h = record { onward = h.0; above = h.1 }
head_places n (tree.head_word (tree.quoted s)) rest a h = record { onward = h.0; above = h.1 }
head_places n (tree.head_operation o s) rest a h = record { onward = h.0; above = h.1 }

-- ---- what has no faults of these phases

-- the rest stands from this byte on
abbrev Passes : ℕ → Leveleds → Type 0
Passes a rest = Above a (pieces_of rest)

word_passed : (n : ℕ) (w : WordTree) (rest : Leveleds) (a : ℕ) → Passes a (word_text n w rest) → Passes a rest
word_passed n (tree.lower k s) rest a h = above_later a (s.start + 1) (pieces_of rest) (omega (arith, h.0)) h.1
word_passed n (tree.quoted s) rest a h = above_later a (s.start + 1) (pieces_of rest) (omega (arith, h.0)) h.1

argument_passed : (n : ℕ) (x : ArgumentTree) (rest : Leveleds) (a : ℕ) → Passes a (argument_text n x rest) → Passes a rest
argument_passed n (tree.declared w) rest a h = word_passed n w rest a h
argument_passed n (tree.basic b) rest a h = h.1

sort_passed : (n : ℕ) (x : SortTree) (rest : Leveleds) (a : ℕ) → Passes a (sort_text n x rest) → Passes a rest
sort_passed n (tree.of_argument x) rest a h = argument_passed n x rest a h
sort_passed n tree.truth rest a h = h.1

more_passed : (n : ℕ) (xs : List ArgumentTree) (rest : Leveleds) (a : ℕ) → Passes a (more_arguments n xs rest) → Passes a rest
more_passed n [] rest a h = h
more_passed n (x ∷ xs) rest a h = more_passed n xs rest a (argument_passed n x (more_arguments n xs rest) a h.1)

args_passed : (n : ℕ) (x : ArgsTree) (rest : Leveleds) (a : ℕ) → Passes a (args_text n x rest) → Passes a rest
args_passed n (tree.one x) rest a h = argument_passed n x rest a h
args_passed n (tree.several x xs) rest a h = (more_passed (n + 1) xs ((piece.Sign CloseRound, n + 1) ∷ rest) a (argument_passed (n + 1) x (more_arguments (n + 1) xs ((piece.Sign CloseRound, n + 1) ∷ rest)) a h.1)).1

type_passed : (n : ℕ) (x : TypeTree) (rest : Leveleds) (a : ℕ) → Passes a (type_text n x rest) → Passes a rest
type_passed n tree.of_types rest a h = h.1
type_passed n (tree.constant x) rest a h = sort_passed n x rest a h
type_passed n (tree.function xs x) rest a h = sort_passed n x rest a (args_passed n xs ((piece.Sign Arrow, n) ∷ sort_text n x rest) a h).1
type_passed n (tree.bracketed x) rest a h = (type_passed (n + 1) x ((piece.Sign CloseRound, n + 1) ∷ rest) a h.1).1

typing_passed : (n : ℕ) (x : TypingTree) (rest : Leveleds) (a : ℕ) → Passes a (typing_text n x rest) → Passes a rest
typing_passed n (tree.typing w x) rest a h = type_passed n x rest a (word_passed n w ((piece.Sign Colon, n) ∷ type_text n x rest) a h).1
typing_passed n (tree.enclosed x) rest a h = (typing_passed (n + 1) x ((piece.Sign CloseRound, n + 1) ∷ rest) a h.1).1

variable_passed : (n : ℕ) (v : VariableTree) (rest : Leveleds) (a : ℕ) → Passes a (variable_text n v rest) → Passes a rest
variable_passed n v rest a h = at_sort v.sort (above_later a (v.name.start + 1) (pieces_of (variable_sort_text n v.sort rest)) (omega (arith, h.0)) h.1)
  where
    at_sort : (o : Option ArgumentTree) → Passes a (variable_sort_text n o rest) → Passes a rest
    at_sort None k = k
    at_sort (Some x) k = argument_passed n x rest a k.1

variables_passed : (n : ℕ) (vs : List VariableTree) (rest : Leveleds) (a : ℕ) → Passes a (more_variables n vs rest) → Passes a rest
variables_passed n [] rest a h = h
variables_passed n (v ∷ vs) rest a h = variables_passed n vs rest a (variable_passed n v (more_variables n vs rest) a h.1)

binder_passed : (n : ℕ) (v : VariableTree) (vs : List VariableTree) (rest : Leveleds) (a : ℕ) → Passes a (binder_text n v vs rest) → Passes a rest
binder_passed n v vs rest a h =
    (variables_passed n vs ((piece.Sign CloseSquare, n) ∷ rest) a (variable_passed n v (more_variables n vs ((piece.Sign CloseSquare, n) ∷ rest)) a h)).1

notes_passed : (x : NotesTree) (n : ℕ) (rest : Leveleds) (a : ℕ) → Passes a (notes_text n x rest) → Passes a rest
notes_passed tree.no_notes n rest a h = h
notes_passed (tree.token p is more) n rest a h = notes_passed more n rest a (at_span (piece_span p) h)
  where
    at_span : (o : Option Span) → (a ≤ low a o) × Above (next a o) (pieces_of (notes_text n more rest)) → Passes a (notes_text n more rest)
    at_span None k = k.1
    at_span (Some s) k = above_later a (s.start + 1) (pieces_of (notes_text n more rest)) (omega (arith, k.0)) k.1
notes_passed (tree.round x more) n rest a h = notes_passed more n rest a (notes_passed x (n + 1) ((piece.Sign CloseRound, n + 1) ∷ notes_text n more rest) a h.1).1
notes_passed (tree.square x more) n rest a h = notes_passed more n rest a (notes_passed x n ((piece.Sign CloseSquare, n) ∷ notes_text n more rest) a h.1).1

ending_passed : (x : EndingTree) (rest : Leveleds) (a : ℕ) → Passes a (ending_text x rest) → Passes a rest
ending_passed tree.bare rest a h = h.1.1
ending_passed (tree.annotated x) rest a h = (notes_passed x 0 (close_text rest) a h.1).1.1

name_passed : (x : NameTree) (rest : Leveleds) (a : ℕ) → Passes a (name_text x rest) → Passes a rest
name_passed (tree.named w) rest a h = word_passed 0 w rest a h
name_passed (tree.numbered m) rest a h = above_later a (m.span.start + 1) (pieces_of rest) (omega (arith, h.0)) h.1

-- ---- terms

own_places : (a at : ℕ) (w : Wanted) (o : Option Sort) → a ≤ at → Spread a (at + 1) (own_fault w at o)
own_places a at w None le = (le, omega arith)
own_places a at w (Some s) le = spread_if a at (suits w s) IllTyped le

head_fault_places : (a at arity : ℕ) (w : Wanted) (o : Option HeadType) → a ≤ at → Spread a (at + 1) (head_fault w at arity o)
head_fault_places a at arity w None le = (le, omega arith)
head_fault_places a at arity w (Some ty) le = spread_if a at (suits w ty.result && (arity == length ty.args)) IllTyped le

product_places : (a at : ℕ) (o : Option Computed) → a ≤ at → Spread a (at + 1) (product_fault at o)
product_places a at None le = (le, omega arith)
product_places a at (Some Wide) le = (le, omega arith)
product_places a at (Some (Value k)) le = omega arith

head_product_places : (a : ℕ) (h : Head) (cs : List (Option Computed)) → a ≤ head_place h → Spread a (head_place h + 1) (numbers.head_fault h cs)
head_product_places a (head.Operation operations.Product s) cs le = product_places a s.start (factor cs) le
head_product_places a h cs le = omega arith

module _ (text : List ℕ) (sig : Signature) where
  -- the faults of a term, wherever it stands, and those of its products
  abbrev TermSpread : ℕ → Term → ℕ → Type 0
  TermSpread a u b = ((scope : Scope) (w : Wanted) → Spread a b (term_faults text sig.symbols scope u w)) × Spread a b (products u).faults

  abbrev TermsSpread : ℕ → List Term → ℕ → Type 0
  TermsSpread a us b = ((scope : Scope) (ss : List Sort) → Spread a b (argument_faults ss (map (term_faults text sig.symbols scope) us))) × Spread a b (flat_map (λ p. p.faults) (map products us))

  variable_spread : (a : ℕ) (s : Span) → a ≤ s.start → TermSpread a (term.Variable s) (s.start + 1)
  variable_spread a s le = (
    λ scope w. spread_same a (s.start + 1) (term_faults text sig.symbols scope (term.Variable s) w) (own_fault w s.start (bound_sort text sig.symbols scope s))
        (ap (λ (q : Wanted → Faults). q w) (folds.fold-Variable (Wanted → Faults) (term_faults_step text sig.symbols scope) s)) (own_places a s.start w (bound_sort text sig.symbols scope s) le),
    spread_same a (s.start + 1) (products (term.Variable s)).faults [] (ap (λ (p : Products). p.faults) (folds.fold-Variable Products products_step s)) (omega arith),
  )

  numeral_spread : (a : ℕ) (m : Number) → a ≤ m.span.start → TermSpread a (term.Numeral m) (m.span.start + 1)
  numeral_spread a m le = (
    λ scope w. spread_same a (m.span.start + 1) (term_faults text sig.symbols scope (term.Numeral m) w) (own_fault w m.span.start (Some sorts.Int))
        (ap (λ (q : Wanted → Faults). q w) (folds.fold-Numeral (Wanted → Faults) (term_faults_step text sig.symbols scope) m)) (own_places a m.span.start w (Some sorts.Int) le),
    spread_same a (m.span.start + 1) (products (term.Numeral m)).faults [] (ap (λ (p : Products). p.faults) (folds.fold-Numeral Products products_step m)) (omega arith),
  )

  apply_spread : (a b : ℕ) (h : Head) (us : List Term) → a ≤ head_place h → TermsSpread (head_place h + 1) us b → TermSpread a (term.Apply h us) b
  apply_spread a b h us le inside = (
    λ scope w.
        let ty = head_type text sig.symbols h in
        let own = head_fault w (head_place h) (length (map (term_faults text sig.symbols scope) us)) ty in
        let rest = argument_faults (arguments ty) (map (term_faults text sig.symbols scope) us) in
        spread_same a b (term_faults text sig.symbols scope (term.Apply h us) w) (own ++ rest)
        (ap (λ (q : Wanted → Faults). q w) (folds.fold-Apply (Wanted → Faults) (term_faults_step text sig.symbols scope) h us))
        (spread_both a (head_place h + 1) b own rest (head_fault_places a (head_place h) (length (map (term_faults text sig.symbols scope) us)) w ty le) (inside.0 scope (arguments ty))),
    spread_same a b (products (term.Apply h us)).faults (numbers.head_fault h (numbers_of (map products us)) ++ flat_map (λ p. p.faults) (map products us))
        (ap (λ (p : Products). p.faults) (folds.fold-Apply Products products_step h us))
        (spread_both a (head_place h + 1) b (numbers.head_fault h (numbers_of (map products us))) (flat_map (λ (p : Products). p.faults) (map products us))
        (head_product_places a h (numbers_of (map products us)) le) inside.1),
  )

  none_spread : (a : ℕ) → TermsSpread a [] a
  none_spread a = (λ scope ss. omega arith, omega arith)

  next_spread : (a b c : ℕ) (u : Term) (us : List Term) → TermSpread a u b → TermsSpread b us c → TermsSpread a (u ∷ us) c
  next_spread a b c u us h k = (
    λ scope ss. spread_both a b c (term_faults text sig.symbols scope u (asked ss)) (argument_faults (drop 1 ss) (map (term_faults text sig.symbols scope) us)) (h.0 scope (asked ss)) (k.0 scope (drop 1 ss)),
    spread_both a b c (products u).faults (flat_map (λ (p : Products). p.faults) (map products us)) h.1 k.1,
  )

  mutual
    term_places : (x : TermTree) (n : ℕ) (rest : Leveleds) (a : ℕ) → Above a (pieces_of (term_text n x rest)) → Reaches a rest (λ b. TermSpread a (of.term_of x) b)
    term_places (tree.variable s) n rest a h = reaches a (s.start + 1) rest (λ b. TermSpread a (term.Variable s) b) (omega (arith, h.0)) h.1 (variable_spread a s h.0)
    term_places (tree.numeral m) n rest a h = reaches a (m.span.start + 1) rest (λ b. TermSpread a (term.Numeral m) b) (omega (arith, h.0)) h.1 (numeral_spread a m h.0)
    term_places (tree.apply x args) n rest a h =
        let r = head_places n x (arguments_text n args rest) a h in
        let q = inside_places args n rest (head_place (of.head_of x) + 1) r.above in
        reaches a q.end_at rest (λ b. TermSpread a (term.Apply (of.head_of x) (of.all_of args)) b) (omega (arith, r.onward, q.onward)) q.above
        (apply_spread a q.end_at (of.head_of x) (of.all_of args) r.onward q.holds)

    inside_places : (x : ArgumentsTree) (n : ℕ) (rest : Leveleds) (a : ℕ) → Above a (pieces_of (arguments_text n x rest)) → Reaches a rest (λ b. TermsSpread a (of.all_of x) b)
    inside_places tree.no_arguments n rest a h = reaches a a rest (λ b. TermsSpread a [] b) (omega arith) h (none_spread a)
    inside_places (tree.arguments x more) n rest a h =
        let r = term_places x (n + 1) (terms_text (n + 1) more ((piece.Sign CloseRound, n + 1) ∷ rest)) a h.1 in
        let q = terms_places more (n + 1) ((piece.Sign CloseRound, n + 1) ∷ rest) r.end_at r.above in
        reaches a q.end_at rest (λ b. TermsSpread a (of.term_of x ∷ of.terms_of more) b) (omega (arith, r.onward, q.onward)) q.above.1
        (next_spread a r.end_at q.end_at (of.term_of x) (of.terms_of more) r.holds q.holds)

    terms_places : (x : TermsTree) (n : ℕ) (rest : Leveleds) (a : ℕ) → Above a (pieces_of (terms_text n x rest)) → Reaches a rest (λ b. TermsSpread a (of.terms_of x) b)
    terms_places tree.no_terms n rest a h = reaches a a rest (λ b. TermsSpread a [] b) (omega arith) h (none_spread a)
    terms_places (tree.next_term x more) n rest a h =
        let r = term_places x n (terms_text n more rest) a h.1 in
        let q = terms_places more n rest r.end_at r.above in
        reaches a q.end_at rest (λ b. TermsSpread a (of.term_of x ∷ of.terms_of more) b) (omega (arith, r.onward, q.onward)) q.above
        (next_spread a r.end_at q.end_at (of.term_of x) (of.terms_of more) r.holds q.holds)

  -- ---- formulas

  -- the faults of a formula in each phase
  record FormulaSpread (a : ℕ) (g : Formula) (b : ℕ) : Type 0 where
    types : (scope : Scope) (n : ℕ) → Spread a b (meaning text sig g scope n).faults
    products_in : Spread a b (product_faults g)

  record FormulasSpread (a : ℕ) (gs : List Formula) (b : ℕ) : Type 0 where
    types : (scope : Scope) (n : ℕ) → Spread a b (faults_of (members (map (meaning text sig) gs) scope n))
    products_in : Spread a b (flat_map (λ (fs : Faults). fs) (map product_faults gs))

  constant_spread : (a : ℕ) (c : Bool) → FormulaSpread a (formula.Constant c) a
  constant_spread a c = record {
    types = λ scope n. spread_same a a (meaning text sig (formula.Constant c) scope n).faults [] (ap (λ (m : Meaning). (m scope n).faults) (folds.fold-Constant Meaning (meaning_step text sig) c)) (omega arith);
    products_in = spread_same a a (product_faults (formula.Constant c)) [] (folds.fold-Constant Faults product_faults_step c) (omega arith);
  }

  atom_spread : (a b : ℕ) (u : Term) → a ≤ b → TermSpread a u b → FormulaSpread a (formula.Atom u) b
  atom_spread a b u le h = record {
    types = λ scope n. spread_same a b (meaning text sig (formula.Atom u) scope n).faults (term_faults text sig.symbols scope u wanted.Predicate)
        (ap (λ (m : Meaning). (m scope n).faults) (folds.fold-Atom Meaning (meaning_step text sig) u)) (h.0 scope wanted.Predicate);
    products_in = spread_same a b (product_faults (formula.Atom u)) (products u).faults (folds.fold-Atom Faults product_faults_step u) h.1;
  }

  relation_spread : (a b c : ℕ) (r : Relation) (s u : Term) → a ≤ c → TermSpread a s b → TermSpread b u c → FormulaSpread a (formula.Relation r s u) c
  relation_spread a b c r s u le h k = record {
    types = λ scope n. spread_same a c (meaning text sig (formula.Relation r s u) scope n).faults (relation_faults text sig.symbols scope s u)
        (ap (λ (m : Meaning). (m scope n).faults) (folds.fold-Relation Meaning (meaning_step text sig) r s u))
        (spread_both a b c (term_faults text sig.symbols scope s wanted.Term) (term_faults text sig.symbols scope u (right_side (term_sort text sig.symbols scope s))) (h.0 scope wanted.Term)
        (k.0 scope (right_side (term_sort text sig.symbols scope s))));
    products_in = spread_same a c (product_faults (formula.Relation r s u)) ((products s).faults ++ (products u).faults) (folds.fold-Relation Faults product_faults_step r s u)
        (spread_both a b c (products s).faults (products u).faults h.1 k.1);
  }

  not_spread : (a b : ℕ) (g : Formula) → FormulaSpread a g b → FormulaSpread a (formula.Not g) b
  not_spread a b g h = record {
    types = λ scope n. spread_same a b (meaning text sig (formula.Not g) scope n).faults (meaning text sig g scope n).faults
        (ap (λ (m : Meaning). (m scope n).faults) (folds.fold-Not Meaning (meaning_step text sig) g)) (h.types scope n);
    products_in = spread_same a b (product_faults (formula.Not g)) (product_faults g) (folds.fold-Not Faults product_faults_step g) h.products_in;
  }

  quantified_spread : (a b : ℕ) (q : Quantifier) (vs : List Variable) (g : Formula) → FormulaSpread a g b → FormulaSpread a (formula.Quantified q vs g) b
  quantified_spread a b q vs g h = record {
    types = λ scope n. spread_same a b (meaning text sig (formula.Quantified q vs g) scope n).faults (meaning text sig g (bind text sig.sorts n vs scope) (n + length vs)).faults
        (ap (λ (m : Meaning). (m scope n).faults) (folds.fold-Quantified Meaning (meaning_step text sig) q vs g)) (h.types (bind text sig.sorts n vs scope) (n + length vs));
    products_in = spread_same a b (product_faults (formula.Quantified q vs g)) (product_faults g) (folds.fold-Quantified Faults product_faults_step q vs g) h.products_in;
  }

  linked_spread : (a b c : ℕ) (l : Link) (g k : Formula) → FormulaSpread a g b → FormulaSpread b k c → FormulaSpread a (formula.Linked l g k) c
  linked_spread a b c l g k h i = record {
    types = λ scope n. spread_same a c (meaning text sig (formula.Linked l g k) scope n).faults ((meaning text sig g scope n).faults ++ (meaning text sig k scope (meaning text sig g scope n).next).faults)
        (ap (λ (m : Meaning). (m scope n).faults) (folds.fold-Linked Meaning (meaning_step text sig) l g k))
        (spread_both a b c (meaning text sig g scope n).faults (meaning text sig k scope (meaning text sig g scope n).next).faults (h.types scope n) (i.types scope (meaning text sig g scope n).next));
    products_in = spread_same a c (product_faults (formula.Linked l g k)) (product_faults g ++ product_faults k) (folds.fold-Linked Faults product_faults_step l g k)
        (spread_both a b c (product_faults g) (product_faults k) h.products_in i.products_in);
  }

  joined_spread : (a b : ℕ) (j : Junction) (gs : List Formula) → FormulasSpread a gs b → FormulaSpread a (formula.Joined j gs) b
  joined_spread a b j gs h = record {
    types = λ scope n. spread_same a b (meaning text sig (formula.Joined j gs) scope n).faults (faults_of (members (map (meaning text sig) gs) scope n))
        (ap (λ (m : Meaning). (m scope n).faults) (folds.fold-Joined Meaning (meaning_step text sig) j gs)) (h.types scope n);
    products_in = spread_same a b (product_faults (formula.Joined j gs)) (flat_map (λ (fs : Faults). fs) (map product_faults gs)) (folds.fold-Joined Faults product_faults_step j gs) h.products_in;
  }

  no_formulas_spread : (a : ℕ) → FormulasSpread a [] a
  no_formulas_spread a = record { types = λ scope n. omega arith; products_in = omega arith }

  next_formula_spread : (a b c : ℕ) (g : Formula) (gs : List Formula) → FormulaSpread a g b → FormulasSpread b gs c → FormulasSpread a (g ∷ gs) c
  next_formula_spread a b c g gs h k = record {
    types = λ scope n. spread_both a b c (meaning text sig g scope n).faults (faults_of (members (map (meaning text sig) gs) scope (meaning text sig g scope n).next)) (h.types scope n)
        (k.types scope (meaning text sig g scope n).next);
    products_in = spread_both a b c (product_faults g) (flat_map (λ (fs : Faults). fs) (map product_faults gs)) h.products_in k.products_in;
  }

  second_places : (x : TermTree) (y : SecondTree) (n : ℕ) (rest : Leveleds) (a : ℕ) → Above a (pieces_of (term_text n x (second_text n y rest))) → Reaches a rest (λ b. FormulaSpread a (of.atom_of (of.term_of x) y) b)
  second_places x tree.no_second n rest a h =
      let r = term_places x n rest a h in
      reaches a r.end_at rest (λ b. FormulaSpread a (formula.Atom (of.term_of x)) b) r.onward r.above (atom_spread a r.end_at (of.term_of x) r.onward r.holds)
  second_places x (tree.second s y) n rest a h =
      let r = term_places x n ((piece.Relation s, n) ∷ term_text n y rest) a h in
      let q = term_places y n rest r.end_at r.above.1 in
      let le : a ≤ q.end_at = omega (arith, r.onward, q.onward) in
      reaches a q.end_at rest (λ b. FormulaSpread a (formula.Relation s (of.term_of x) (of.term_of y)) b) le q.above (relation_spread a r.end_at q.end_at s (of.term_of x) (of.term_of y) le r.holds q.holds)

  mutual
    unit_places : (x : UnitTree) (n : ℕ) (rest : Leveleds) (a : ℕ) → Above a (pieces_of (unit_text n x rest)) → Reaches a rest (λ b. FormulaSpread a (of.unit_of x) b)
    unit_places (tree.negated x) n rest a h =
        let r = unit_places x (n + 1) rest a h.1 in
        reaches a r.end_at rest (λ b. FormulaSpread a (formula.Not (of.unit_of x)) b) r.onward r.above (not_spread a r.end_at (of.unit_of x) r.holds)
    unit_places (tree.quantified q v more x) n rest a h =
        let inside = (piece.Sign Colon, n + 1) ∷ unit_text (n + 1) x rest in
        let r = unit_places x (n + 1) rest a (binder_passed (n + 1) v more inside a h.1.1).1 in
        reaches a r.end_at rest (λ b. FormulaSpread a (formula.Quantified q (of.variable_of v ∷ of.variables_of more) (of.unit_of x)) b) r.onward r.above
        (quantified_spread a r.end_at q (of.variable_of v ∷ of.variables_of more) (of.unit_of x) r.holds)
    unit_places (tree.grouped x) n rest a h =
        let r = formula_places x (n + 1) ((piece.Sign CloseRound, n + 1) ∷ rest) a h.1 in
        reaches a r.end_at rest (λ b. FormulaSpread a (of.formula_of x) b) r.onward r.above.1 r.holds
    unit_places (tree.truth_value c) n rest a h = reaches a a rest (λ b. FormulaSpread a (formula.Constant c) b) (omega arith) h.1 (constant_spread a c)
    unit_places (tree.atomic x y) n rest a h = second_places x y n rest a h

    formula_places : (x : FormulaTree) (n : ℕ) (rest : Leveleds) (a : ℕ) → Above a (pieces_of (formula_text n x rest)) → Reaches a rest (λ b. FormulaSpread a (of.formula_of x) b)
    formula_places (tree.formula x y) n rest a h =
        let r = unit_places x n (tail_text n y rest) a h in
        tail_places y n rest a r.end_at (of.unit_of x) r.onward r.holds r.above

    tail_places : (y : TailTree) (n : ℕ) (rest : Leveleds) (a b : ℕ) (first : Formula) → a ≤ b → FormulaSpread a first b → Above b (pieces_of (tail_text n y rest)) → Reaches a rest (λ c. FormulaSpread a (of.with_tail first y) c)
    tail_places tree.alone n rest a b first le h k = reaches a b rest (λ c. FormulaSpread a first c) le k h
    tail_places (tree.linked l x) n rest a b first le h k =
        let r = unit_places x n rest b k.1 in
        reaches a r.end_at rest (λ c. FormulaSpread a (formula.Linked l first (of.unit_of x)) c) (omega (arith, r.onward)) r.above (linked_spread a b r.end_at l first (of.unit_of x) h r.holds)
    tail_places (tree.joined j x more) n rest a b first le h k =
        let r = unit_places x n (units_text n j more rest) b k.1 in
        let q = units_places more j n rest r.end_at r.above in
        reaches a q.end_at rest (λ c. FormulaSpread a (formula.Joined j (first ∷ of.unit_of x ∷ of.units_of more)) c) (omega (arith, r.onward, q.onward)) q.above
        (joined_spread a q.end_at j (first ∷ of.unit_of x ∷ of.units_of more)
        (next_formula_spread a b q.end_at first (of.unit_of x ∷ of.units_of more) h (next_formula_spread b r.end_at q.end_at (of.unit_of x) (of.units_of more) r.holds q.holds)))

    units_places : (x : UnitsTree) (j : Junction) (n : ℕ) (rest : Leveleds) (a : ℕ) → Above a (pieces_of (units_text n j x rest)) → Reaches a rest (λ b. FormulasSpread a (of.units_of x) b)
    units_places tree.no_units j n rest a h = reaches a a rest (λ b. FormulasSpread a [] b) (omega arith) h (no_formulas_spread a)
    units_places (tree.next_unit x more) j n rest a h =
        let r = unit_places x n (units_text n j more rest) a h.1 in
        let q = units_places more j n rest r.end_at r.above in
        reaches a q.end_at rest (λ b. FormulasSpread a (of.unit_of x ∷ of.units_of more) b) (omega (arith, r.onward, q.onward)) q.above
        (next_formula_spread a r.end_at q.end_at (of.unit_of x) (of.units_of more) r.holds q.holds)

  -- ---- statements

  -- the faults of a statement
  record ContentSpread (a : ℕ) (c : Content) (b : ℕ) : Type 0 where
    types : Spread a b (content_faults text sig c)
    products_in : Spread a b (content_products c)

  -- a declaration has none
  declaration_spread : (a : ℕ) (x : TypingTree) → ContentSpread a (of.typing_of x) a
  declaration_spread a (tree.typing w ty) = record { types = omega arith; products_in = omega arith }
  declaration_spread a (tree.enclosed x) = declaration_spread a x

  body_places : (x : BodyTree) (rest : Leveleds) (a : ℕ) → Above a (pieces_of (body_text x rest)) → Reaches a rest (λ b. ContentSpread a (of.body_of x) b)
  body_places (tree.declaration s x) rest a h =
      let from_here = above_later a (s.start + 1) (pieces_of (typing_text 0 x rest)) (omega (arith, h.0)) h.1.1 in
      reaches a a rest (λ b. ContentSpread a (of.typing_of x) b) (omega arith) (typing_passed 0 x rest a from_here) (declaration_spread a x)
  body_places (tree.premise s x) rest a h =
      let from_here = above_later a (s.start + 1) (pieces_of (formula_text 0 x rest)) (omega (arith, h.0)) h.1.1 in
      let r = formula_places x 0 rest a from_here in
      reaches a r.end_at rest (λ b. ContentSpread a (content.Premise (of.formula_of x)) b) r.onward r.above
      (record { types = r.holds.types [] 0; products_in = r.holds.products_in })
  body_places (tree.conjecture s x) rest a h =
      let from_here = above_later a (s.start + 1) (pieces_of (formula_text 0 x rest)) (omega (arith, h.0)) h.1.1 in
      let r = formula_places x 0 rest a from_here in
      reaches a r.end_at rest (λ b. ContentSpread a (content.Conjecture (of.formula_of x)) b) r.onward r.above
      (record { types = r.holds.types [] 0; products_in = r.holds.products_in })

  statement_places : (x : StatementTree) (rest : Leveleds) (a : ℕ) → Above a (pieces_of (statement_text x rest)) → Reaches a rest (λ b. ContentSpread a (of.body_of x.body) b)
  statement_places x rest a h =
      let behind_word = above_later a (x.word.start + 1) (pieces_of (name_text x.name ((piece.Sign Comma, 0) ∷ body_text x.body (ending_text x.ending rest)))) (omega (arith, h.0)) h.1.1 in
      let behind_name = name_passed x.name ((piece.Sign Comma, 0) ∷ body_text x.body (ending_text x.ending rest)) a behind_word in
      let r = body_places x.body (ending_text x.ending rest) a behind_name.1 in
      reaches a r.end_at rest (λ b. ContentSpread a (of.body_of x.body) b) r.onward (ending_passed x.ending rest r.end_at r.above) r.holds

  -- the faults of a file
  record FileSpread (a : ℕ) (ss : List Statement) (b : ℕ) : Type 0 where
    types : Spread a b (typing_faults text sig ss)
    products_in : Spread a b (phase_4 ss)

  file_places : (x : FileTree) (a : ℕ) → Above a (pieces_of (file_text x)) → (b : ℕ) × FileSpread a (of.file_of x) b
  file_places tree.no_statements a h = (a, record { types = omega arith; products_in = omega arith })
  file_places (tree.next_statement x more) a h =
      let r = statement_places x (file_text more) a h in
      let q = file_places more r.end_at r.above in
      let c = of.body_of x.body in
      let ss = of.file_of more in (
        q.0,
        record {
          types = spread_both a r.end_at q.0 (content_faults text sig c) (typing_faults text sig ss) r.holds.types q.1.types;
          products_in = spread_both a r.end_at q.0 (content_products c) (phase_4 ss) r.holds.products_in q.1.products_in;
        },
      )

-- ---- the law

abbrev Ascend : Faults → Type 0
Ascend fs = AllPairs (λ (f g : Later). f.at < g.at) fs

ordered : (a b : ℕ) (fs : Faults) → Spread a b fs → Ascend fs
ordered a b [] h = λ i j d lt lt'. absurd (omega arith)
ordered a b (e ∷ fs) h = AllPairs-cons (λ (f g : Later). f.at < g.at) e fs (spread_behind e.at b fs h.1) (ordered (e.at + 1) b fs h.1)

-- the first one stands in front of the others
first_least : (a b : ℕ) (fs others : Faults) (first : Later) → fs ≡ first ∷ others → Spread a b fs → All (λ (f : Later). first.at < f.at) others
first_least a b fs others first is h =
    let r : Spread a b (first ∷ others) = subst (Spread a b) is h in
    spread_behind first.at b others r.1

-- the faults of both phases stand from one byte to another
record InOrder (bytes : List ℕ) (ss : List Statement) : Type 0 where
  start : ℕ
  end_at : ℕ
  types : Spread start end_at (phase_3 bytes ss)
  products_in : Spread start end_at (phase_4 ss)

in_order : (bytes : List ℕ) (ss : List Statement) → IsText bytes ss → InOrder bytes ss
in_order bytes ss is =
    let x = is.file.file in
    let all_above = pieces_above bytes is.tokens (skipped_length bytes) (skip bytes) None is.pieces is.scanned is.classified in
    let above = subst (λ (ps : List Piece). Above (skipped_length bytes) ps) (sym is.file.spells.spelled) all_above in
    let q = file_places bytes (signature_of bytes (of.file_of x)) x (skipped_length bytes) above in
    subst (InOrder bytes) (sym is.file.meant) (record { start = skipped_length bytes; end_at = q.0; types = q.1.types; products_in = q.1.products_in })

pub types_ascend : (bytes : List ℕ) (ss : List Statement) → IsText bytes ss → Ascend (phase_3 bytes ss)
types_ascend bytes ss is = let o = in_order bytes ss is in ordered o.start o.end_at (phase_3 bytes ss) o.types

pub products_ascend : (bytes : List ℕ) (ss : List Statement) → IsText bytes ss → Ascend (phase_4 ss)
products_ascend bytes ss is = let o = in_order bytes ss is in ordered o.start o.end_at (phase_4 ss) o.products_in

pub least_type : (bytes : List ℕ) (ss : List Statement) (first : Later) (others : Faults)
    → IsText bytes ss → phase_3 bytes ss ≡ first ∷ others → All (λ (f : Later). first.at < f.at) others
least_type bytes ss first others is h = let o = in_order bytes ss is in first_least o.start o.end_at (phase_3 bytes ss) others first h o.types

pub least_product : (bytes : List ℕ) (ss : List Statement) (first : Later) (others : Faults)
    → IsText bytes ss → phase_4 ss ≡ first ∷ others → All (λ (f : Later). first.at < f.at) others
least_product bytes ss first others is h = let o = in_order bytes ss is in first_least o.start o.end_at (phase_4 ss) others first h o.products_in
