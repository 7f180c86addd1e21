-- The texts of literals and clauses.
use Rattle.std.specs.Prelude.{◌≡◌, ℕ, Bool, true, false, List, [], ◌∷◌, codes, ◌==◌, if◌then◌else◌}
use Rattle.term_base.specs.declared.terms.Term.{Term}
use Rattle.term_base.specs.declared.clauses.Literal.{Literal}
use Rattle.term_base.specs.declared.clauses.Literal.TheVariants as literal
use Rattle.term_base.specs.declared.clauses.Clause.{Clause}
use Rattle.text_pieces.specs.Languages.{Cat, Image}
use Rattle.text_pieces.specs.Fronts.{Front, Word}
use Rattle.text_pieces.specs.Kinds.{OneKind}
use Rattle.text_pieces.specs.Runs.{Run}
use Rattle.term_text.specs.declared.kinds.Relation.{Relation}
use Rattle.term_text.specs.declared.kinds.Relation.TheVariants.{Equal, Differ, AtMost}
use Rattle.term_text.specs.Terms.{SpellsTerm}

-- ---- literals
-- the word of a relation
abbrev pub relation_word : Relation → List ℕ
relation_word Equal = codes "="
relation_word Differ = codes "!="
relation_word AtMost = codes "<="

abbrev pub RelationWord : Relation → List ℕ → Type 0
RelationWord relation text = text ≡ relation_word relation

-- the relation whose word stands at this place
abbrev pub relation_at : ℕ → Relation
relation_at place = if place == 0 then Equal else (if place == 1 then Differ else AtMost)

-- the literal of a relation and the sides
abbrev pub related : Relation → Term → Term → Literal
related Equal s t = literal.Equal s t
related Differ s t = literal.Differ s t
related AtMost s t = literal.AtMost s t

abbrev pub literal_of : Term × (Relation × Term) → Literal
literal_of p = related (p.1.0) p.0 (p.1.1)

-- a literal: two sides with a relation between them
abbrev pub SpellsLiteral : Literal → List ℕ → Type 0
SpellsLiteral = Image literal_of (Cat SpellsTerm (λ s. Front (codes " ") (Cat RelationWord (λ relation. Front (codes " ") SpellsTerm))))

-- ---- clauses
-- the clause of the first literal and more
abbrev pub clause_of : Literal × List Literal → Clause
clause_of p = record { literals = p.0 ∷ p.1 }

-- more literals, each behind a stroke, up to the end of the line
abbrev pub MoreLiterals : List Literal → List ℕ → Type 0
MoreLiterals = Run (λ (u : Unit {0}). Front (codes " | ") SpellsLiteral) (λ u l. u) (codes "\n") tt

-- an empty clause or one with literals, and the end of the line
abbrev pub ClauseParts : Bool → Clause → List ℕ → Type 0
ClauseParts true = Image (λ (u : Unit {0}). record { literals = [] }) (Word (codes "$false\n"))
ClauseParts false = Image clause_of (Cat SpellsLiteral (λ first. MoreLiterals))

-- a clause and the end of its line
abbrev pub SpellsClauseLine : Clause → List ℕ → Type 0
SpellsClauseLine = OneKind ClauseParts

-- whether the first byte is that of an empty clause
abbrev pub is_dollar : ℕ → Bool
is_dollar b = b == 36
