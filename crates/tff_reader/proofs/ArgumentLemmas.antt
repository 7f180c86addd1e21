-- Arithmetic words over their arguments, list by list.
use Rattle.std.proofs.Common.{◌≡◌, ℕ, List, [], ◌∷◌, map, refl, sym, ◌∙◌, ap}
use Rattle.term_base.specs.declared.symbols.Symbol.{Symbol}
use Rattle.tff_grammar.specs.declared.pieces.Operation.{Operation}
use Rattle.tff_grammar.specs.declared.pieces.Operation.TheVariants as o
use Rattle.tff_grammar.specs.declared.trees.Head.{Head}
use Rattle.tff_grammar.specs.declared.trees.Head.TheVariants as head
use Rattle.tff_reader.specs.declared.terms.Arguments.{Arguments}
use Rattle.tff_reader.specs.Meaning.{TermMeaning, operation_term, head_term}
use Rattle.tff_reader.specs.Arguments.{AreMeant, operated, applied}

pub operated_is : (op : Operation) (ms : List TermMeaning) → operated op (map (λ m. m.number) ms) (map (λ m. m.term) ms) ≡ operation_term op ms
operated_is o.Uminus [] = refl
operated_is o.Uminus (a ∷ []) = refl
operated_is o.Uminus (a ∷ b ∷ ms) = refl
operated_is op [] = refl
operated_is op (a ∷ []) = refl
operated_is op (a ∷ b ∷ []) = refl
operated_is op (a ∷ b ∷ c ∷ ms) = refl

pub applied_is : (text : List ℕ) (symbols : List Symbol) (h : Head) (ms : List TermMeaning) (r : Arguments) → AreMeant ms r
    → applied text symbols h r ≡ head_term text symbols h ms
applied_is text symbols (head.Word w) ms r h = rw h.terms refl
applied_is text symbols (head.Operation op s) ms r h = rw (h.numbers, h.terms) (operated_is op ms)
