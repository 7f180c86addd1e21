-- The words and signs that the grammar names (TPTP), by their texts.
use Rattle.std.specs.Prelude.{ℕ, Bool, true, false, nat_eq, List, Option, Some, None, codes, if◌then◌else◌}
use Rattle.std.specs.Cmp.Lexicographic.{pointwise}
use Prim.Native.String.{String}
use Rattle.tff_grammar.specs.declared.pieces.Span.{Span}
use Rattle.tff_grammar.specs.declared.pieces.Sign.{Sign}
use Rattle.tff_grammar.specs.declared.pieces.Sign.TheVariants as signs
use Rattle.tff_grammar.specs.declared.pieces.Junction.TheVariants as junctions
use Rattle.tff_grammar.specs.declared.pieces.Link.{Link}
use Rattle.tff_grammar.specs.declared.pieces.Link.TheVariants as links
use Rattle.tff_grammar.specs.declared.pieces.Quantifier.TheVariants as quantifiers
use Rattle.tff_grammar.specs.declared.pieces.Relation.TheVariants as relations
use Rattle.tff_grammar.specs.declared.pieces.BasicSort.TheVariants as basics
use Rattle.tff_grammar.specs.declared.pieces.Operation.{Operation}
use Rattle.tff_grammar.specs.declared.pieces.Operation.TheVariants as operations
use Rattle.tff_grammar.specs.declared.pieces.Keyword.{Keyword}
use Rattle.tff_grammar.specs.declared.pieces.Keyword.TheVariants as keywords
use Rattle.tff_grammar.specs.declared.pieces.Piece.{Piece}
use Rattle.tff_grammar.specs.declared.pieces.Piece.TheVariants as piece

-- the text is this word
abbrev pub spells : String → List ℕ → Bool
spells word text = pointwise nat_eq text (codes word)

-- another language of the same family
abbrev pub is_language : List ℕ → Bool
is_language text = if spells "thf" text then true else if spells "tcf" text then true else if spells "fof" text then true else if spells "cnf" text then true else spells "tpi" text

-- a role of premises
abbrev pub is_premise : List ℕ → Bool
is_premise text =
    if spells "axiom" text then true else if spells "hypothesis" text then true else if spells "definition" text then true else if spells "assumption" text then true
    else if spells "lemma" text then true else if spells "theorem" text then true else if spells "corollary" text then true else spells "negated_conjecture" text

-- what a lower word is beside a name
abbrev pub keyword_of : List ℕ → Keyword
keyword_of text =
    if spells "tff" text then keywords.Tff
    else if spells "include" text then keywords.Include
    else if spells "type" text then keywords.Declaration
    else if spells "conjecture" text then keywords.Conjecture
    else if is_language text then keywords.Language
    else if is_premise text then keywords.Premise
    else keywords.Other

-- the arithmetic word that a text is
abbrev pub operation_of : List ℕ → Option Operation
operation_of text =
    if spells "$sum" text then Some operations.Sum
    else if spells "$difference" text then Some operations.Difference
    else if spells "$uminus" text then Some operations.Uminus
    else if spells "$product" text then Some operations.Product
    else if spells "$less" text then Some operations.Less
    else if spells "$lesseq" text then Some operations.LessEq
    else if spells "$greater" text then Some operations.Greater
    else if spells "$greatereq" text then Some operations.GreaterEq
    else None

-- an arithmetic word, or another dollar word
abbrev pub operation_piece : Span → Option Operation → Piece
operation_piece s (Some o) = piece.Operation o s
operation_piece s None = piece.Unsupported

-- a dollar word as the grammar sees it
abbrev pub dollar_piece : List ℕ → Span → Piece
dollar_piece text s =
    if spells "$tType" text then piece.OfTypes
    else if spells "$i" text then piece.Basic basics.Individual
    else if spells "$int" text then piece.Basic basics.Int
    else if spells "$o" text then piece.Truth
    else if spells "$true" text then piece.Constant true
    else if spells "$false" text then piece.Constant false
    else operation_piece s (operation_of text)

-- the sign of its own that a text is
abbrev pub mark_of : List ℕ → Option Sign
mark_of text =
    if spells "(" text then Some signs.OpenRound
    else if spells ")" text then Some signs.CloseRound
    else if spells "[" text then Some signs.OpenSquare
    else if spells "]" text then Some signs.CloseSquare
    else if spells "," text then Some signs.Comma
    else if spells "." text then Some signs.Dot
    else if spells ":" text then Some signs.Colon
    else if spells "~" text then Some signs.Not
    else if spells "*" text then Some signs.Star
    else if spells ">" text then Some signs.Arrow
    else None

-- the sign between two formulas that a text is
abbrev pub link_of : List ℕ → Option Link
link_of text =
    if spells "=>" text then Some links.Implies
    else if spells "<=" text then Some links.Implied
    else if spells "<=>" text then Some links.Iff
    else if spells "<~>" text then Some links.Xor
    else if spells "~&" text then Some links.Nand
    else if spells "~|" text then Some links.Nor
    else None

-- that sign as the grammar sees it, or another token
abbrev pub link_piece : Option Link → Piece → Piece
link_piece (Some l) other = piece.Link l
link_piece None other = other

-- the sign of its own as the grammar sees it, or another token
abbrev pub mark_piece : Option Sign → Piece → Piece
mark_piece (Some s) other = piece.Sign s
mark_piece None other = other

-- `&`, `|`, a quantifier, `=`, `!=`, or `!>`, which is unsupported
abbrev pub other_piece : List ℕ → Piece
other_piece text =
    if spells "&" text then piece.Junction junctions.And
    else if spells "|" text then piece.Junction junctions.Or
    else if spells "!" text then piece.Quantifier quantifiers.ForAll
    else if spells "?" text then piece.Quantifier quantifiers.Exists
    else if spells "=" text then piece.Relation relations.Equal
    else if spells "!=" text then piece.Relation relations.Differ
    else piece.Unsupported

-- a sign as the grammar sees it
abbrev pub sign_piece : List ℕ → Piece
sign_piece text = mark_piece (mark_of text) (link_piece (link_of text) (other_piece text))
