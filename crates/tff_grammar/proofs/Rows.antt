-- Worked rows of the definitions.
use Rattle.std.proofs.Common.{◌≡◌, refl}
use Rattle.std.specs.Prelude.{codes}
use Rattle.tff_grammar.specs.declared.pieces.Span.{Span}
use Rattle.tff_grammar.specs.declared.pieces.Link.TheVariants.{Xor}
use Rattle.tff_grammar.specs.declared.pieces.Operation.TheVariants.{GreaterEq}
use Rattle.tff_grammar.specs.declared.pieces.Keyword.TheVariants.{Language, Premise, Other}
use Rattle.tff_grammar.specs.declared.pieces.Piece.TheVariants as piece
use Rattle.tff_grammar.specs.Words.{keyword_of, dollar_piece, sign_piece}

language : keyword_of (codes "tpi") ≡ Language
language = refl

premise : keyword_of (codes "negated_conjecture") ≡ Premise
premise = refl

a_name : keyword_of (codes "axioms") ≡ Other
a_name = refl

operation : (s : Span) → dollar_piece (codes "$greatereq") s ≡ piece.Operation GreaterEq s
operation s = refl

unsupported : (s : Span) → dollar_piece (codes "$$less") s ≡ piece.Unsupported
unsupported s = refl

link : sign_piece (codes "<~>") ≡ piece.Link Xor
link = refl

for_all : sign_piece (codes "!>") ≡ piece.Unsupported
for_all = refl
