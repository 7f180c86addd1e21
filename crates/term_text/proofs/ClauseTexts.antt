-- The one text of each clause, place and substitution.
use Rattle.std.proofs.Common.{◌≡◌, ℕ, Bool, true, false, List, [], ◌∷◌, ◌++◌, map, Option, Some, None, refl, sym, ap, ◌∙◌, append_assoc}
use Rattle.std.specs.Prelude.{codes}
use Rattle.std.specs.List.{flat_map}
use Rattle.term_base.specs.declared.variables.Variable.{Variable}
use Rattle.term_base.specs.declared.terms.Term.{Term}
use Rattle.term_base.specs.declared.clauses.Literal.{Literal}
use Rattle.term_base.specs.declared.clauses.Clause.{Clause}
use Rattle.term_base.specs.declared.places.Place.{Place}
use Rattle.text_pieces.specs.Decimals.{decimal}
use Rattle.text_pieces.specs.Languages.{Cat}
use Rattle.text_pieces.specs.Numbers.{Number, Word32}
use Rattle.text_pieces.proofs.OneText.{Texts, text-cat, text-number, text-front, text-image, text-kinds, run_text, text-run}
use Rattle.term_text.specs.Texts.{variable_text, term_text, literal_text, clause_text, behind}
use Rattle.text_pieces.specs.Fronts.{Front, Word}
use Rattle.term_text.specs.declared.kinds.Relation.{Relation}
use Rattle.term_text.specs.declared.kinds.Relation.TheVariants.{Equal, Differ, AtMost}
use Rattle.term_text.specs.Terms.{SpellsTerm}
use Rattle.term_text.specs.Clauses.{relation_word, RelationWord, related, literal_of, SpellsLiteral, MoreLiterals, ClauseParts, SpellsClauseLine, clause_of}
use Rattle.term_text.specs.Places.{side_word, SpellsSide, SpellsPath, SpellsPlace, place_of}
use Rattle.term_text.specs.Substitutions.{VariableAfter, TermBut, PairAfter, MorePairs, PairsParts, SpellsSubst}
use Rattle.term_text.proofs.TermTexts.{text-variable, text-term}

-- ---- literals
related_is : (r : Relation) (s t : Term) → term_text s ++ (codes " " ++ (relation_word r ++ (codes " " ++ term_text t))) ≡ literal_text (related r s t)
related_is Equal s t = refl
related_is Differ s t = refl
related_is AtMost s t = refl

text-related : Texts (Cat RelationWord (λ r. Front (codes " ") SpellsTerm)) (λ p. relation_word p.0 ++ (codes " " ++ term_text p.1))
text-related = text-cat RelationWord (λ r. Front (codes " ") SpellsTerm) relation_word (λ r t. codes " " ++ term_text t) (λ r t e. e) (λ r. text-front (codes " ") SpellsTerm term_text text-term)

pub text-literal : Texts SpellsLiteral literal_text
text-literal =
    text-image literal_of _ literal_text (λ p t s.
    text-cat SpellsTerm (λ s. Front (codes " ") (Cat RelationWord (λ r. Front (codes " ") SpellsTerm))) term_text (λ s q. codes " " ++ (relation_word q.0 ++ (codes " " ++ term_text q.1))) text-term
    (λ s. text-front (codes " ") _ (λ q. relation_word q.0 ++ (codes " " ++ term_text q.1)) text-related) p t s
    ∙ related_is (p.1.0) p.0 (p.1.1))

-- ---- clauses
abbrev stroke : Unit {0} → Literal → List ℕ
stroke u l = codes " | " ++ literal_text l

more_is : (ls : List Literal) → run_text stroke (λ u l. u) (codes "\n") tt ls ≡ flat_map (behind (codes " | ")) (map literal_text ls) ++ codes "\n"
more_is [] = refl
more_is (l ∷ ls) = ap (λ z. (codes " | " ++ literal_text l) ++ z) (more_is ls) ∙ sym (append_assoc (codes " | " ++ literal_text l) (flat_map (behind (codes " | ")) (map literal_text ls)) (codes "\n"))

abbrev pub line_text : Clause → List ℕ
line_text c = clause_text c ++ codes "\n"

text-clause_parts : (k : Bool) → Texts (ClauseParts k) line_text
text-clause_parts true = text-image (λ (u : Unit {0}). record { literals = [] }) (Word (codes "$false\n")) line_text (λ u t e. e)
text-clause_parts false =
    text-image clause_of _ line_text (λ p t s.
    text-cat SpellsLiteral (λ first. MoreLiterals) literal_text (λ first. run_text stroke (λ u l. u) (codes "\n") tt) text-literal
    (λ first. text-run (λ (u : Unit {0}). Front (codes " | ") SpellsLiteral) (λ u l. u) (codes "\n") stroke (λ u. text-front (codes " | ") SpellsLiteral literal_text text-literal) tt) p t s
    ∙ ap (λ z. literal_text p.0 ++ z) (more_is p.1) ∙ sym (append_assoc (literal_text p.0) (flat_map (behind (codes " | ")) (map literal_text p.1)) (codes "\n")))

pub text-clause_line : Texts SpellsClauseLine line_text
text-clause_line = text-kinds ClauseParts line_text text-clause_parts

-- ---- places
abbrev dotted : Unit {0} → ℕ → List ℕ
dotted u n = codes "." ++ decimal n

abbrev pub path_text : List ℕ → List ℕ
path_text = run_text dotted (λ u n. u) (codes " ") tt

pub text-side : Texts SpellsSide side_word
text-side s t e = e

abbrev pub place_text : Place → List ℕ
place_text p = decimal p.literal ++ (side_word p.side ++ path_text p.path)

pub text-place : Texts SpellsPlace place_text
text-place =
    text-image place_of _ place_text (text-cat (Number Word32) (λ n. Cat SpellsSide (λ side. SpellsPath)) decimal (λ n q. side_word q.0 ++ path_text q.1) (text-number Word32)
    (λ n. text-cat SpellsSide (λ side. SpellsPath) side_word (λ side. path_text) text-side (λ side. text-run (λ (u : Unit {0}). Front (codes ".") (Number Word32)) (λ u n. u) (codes " ") dotted (λ u. text-front (codes ".") (Number Word32) decimal (text-number Word32)) tt)))

-- ---- substitutions
abbrev pair_text : Variable × Term → List ℕ
pair_text p = variable_text p.0 ++ (codes ">" ++ term_text p.1)

text-pair : (last : Option Variable) → Texts (PairAfter last) pair_text
text-pair last =
    text-cat (VariableAfter last) (λ v. Front (codes ">") (TermBut v)) variable_text (λ v t. codes ">" ++ term_text t) (λ v t s. text-variable v t s.spelled)
    (λ v. text-front (codes ">") (TermBut v) term_text (λ a t s. text-term a t s.spelled))

abbrev comma : Option Variable → Variable × Term → List ℕ
comma last p = codes "," ++ pair_text p

abbrev more_text : Option Variable → List (Variable × Term) → List ℕ
more_text = run_text comma (λ last p. Some p.0) (codes "]")

text-more : (last : Option Variable) → Texts (MorePairs last) (more_text last)
text-more = text-run (λ last. Front (codes ",") (PairAfter last)) (λ last p. Some p.0) (codes "]") comma (λ last. text-front (codes ",") (PairAfter last) pair_text (text-pair last))

abbrev pairs_text : List (Variable × Term) → List ℕ
pairs_text [] = codes "]"
pairs_text (p ∷ ps) = pair_text p ++ more_text (Some p.0) ps

text-pairs_parts : (k : Bool) → Texts (PairsParts k) pairs_text
text-pairs_parts true = text-image (λ (u : Unit {0}). []) (Word (codes "]")) pairs_text (λ u t e. e)
text-pairs_parts false =
    text-image (λ (p : (Variable × Term) × List (Variable × Term)). p.0 ∷ p.1) _ pairs_text
    (text-cat (PairAfter None) (λ p. MorePairs (Some p.0)) pair_text (λ p. more_text (Some p.0)) (text-pair None) (λ p. text-more (Some p.0)))

abbrev pub substitution_text : List (Variable × Term) → List ℕ
substitution_text ps = codes "[" ++ pairs_text ps

pub text-substitution : Texts SpellsSubst substitution_text
text-substitution = text-front (codes "[") _ pairs_text (text-kinds PairsParts pairs_text text-pairs_parts)
