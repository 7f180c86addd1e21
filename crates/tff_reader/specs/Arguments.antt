-- What the arguments of a head mean, list by list. Private contracts alone cite this file.
use Rattle.std.specs.Prelude.{◌≡◌, ℕ, List, [], ◌∷◌, ◌++◌, length, map, Option, Some, None}
use Rattle.term_base.specs.declared.symbols.Sort.{Sort}
use Rattle.term_base.specs.declared.symbols.Symbol.{Symbol}
use Rattle.term_base.specs.declared.terms.Term.{Term}
use Rattle.term_base.specs.declared.terms.Term.TheVariants as term
use Rattle.tff_grammar.specs.declared.pieces.Operation.{Operation}
use Rattle.tff_grammar.specs.declared.pieces.Operation.TheVariants as o
use Rattle.tff_grammar.specs.declared.trees.Head.{Head}
use Rattle.tff_grammar.specs.declared.trees.Head.TheVariants as head
use Rattle.tff_grammar.specs.declared.trees.Term.{Term as WrittenTerm}
use Rattle.tff_reader.specs.declared.numbers.Computed.{Computed}
use Rattle.tff_reader.specs.declared.heads.Wanted.{Wanted}
use Rattle.tff_reader.specs.declared.terms.TermMeaning.{TermMeaning as ReadMeaning}
use Rattle.tff_reader.specs.declared.terms.Arguments.{Arguments}
use Rattle.tff_signature.specs.Names.{name_of}
use Rattle.tff_signature.specs.Faults.{Faults}
use Rattle.tff_signature.specs.Symbols.{symbol_number}
use Rattle.tff_reader.specs.Scopes.{Scope}
use Rattle.tff_reader.specs.Typing.{head_place, head_fault, head_type, arguments, argument_faults, term_faults}
use Rattle.tff_reader.specs.Meaning.{TermMeaning, scaled, minus_one}

-- what was read of a term is what it means
pub record IsMeant (m : TermMeaning) (r : ReadMeaning) : Type 0 where
  pub number : r.number ≡ m.number
  pub term : r.term ≡ m.term

-- what was read of arguments is what they mean
pub record AreMeant (ms : List TermMeaning) (r : Arguments) : Type 0 where
  pub numbers : r.numbers ≡ map (λ m. m.number) ms
  pub terms : r.terms ≡ map (λ m. m.term) ms

-- the faults of a head and of its arguments
abbrev pub head_faults : List ℕ → List Symbol → Scope → Wanted → Head → List WrittenTerm → Faults
head_faults text symbols scope w h args =
    head_fault w (head_place h) (length args) (head_type text symbols h) ++ argument_faults (arguments (head_type text symbols h)) (map (term_faults text symbols scope) args)

-- the terms of a list of two
abbrev pub pair_of : List Term → Option (Term × Term)
pair_of (a ∷ b ∷ []) = Some (a, b)
pair_of ts = None

-- the term of a list of one
abbrev pub single_of : List Term → Option Term
single_of (a ∷ []) = Some a
single_of ts = None

-- a product, by what its two arguments compute to
abbrev pub scaled_by : List (Option Computed) → Term → Term → Term
scaled_by (a ∷ b ∷ []) s u = scaled a b s u
scaled_by numbers s u = term.True

-- an arithmetic word over two arguments, by what these compute to
abbrev pub combined : Operation → List (Option Computed) → Term → Term → Term
combined o.Sum numbers s u = term.Sum s u
combined o.Difference numbers s u = term.Sum s (term.Scale minus_one u)
combined o.Product numbers s u = scaled_by numbers s u
combined op numbers s u = term.True

-- the same, where there are two
abbrev pub combined_pair : Operation → List (Option Computed) → Option (Term × Term) → Term
combined_pair op numbers None = term.True
combined_pair op numbers (Some p) = combined op numbers p.0 p.1

-- -1 times a term, where there is one
abbrev pub negated : Option Term → Term
negated None = term.True
negated (Some s) = term.Scale minus_one s

-- an arithmetic word over these arguments
abbrev pub operated : Operation → List (Option Computed) → List Term → Term
operated o.Uminus numbers ts = negated (single_of ts)
operated op numbers ts = combined_pair op numbers (pair_of ts)

-- a head over what was read of its arguments
abbrev pub applied : List ℕ → List Symbol → Head → Arguments → Term
applied text symbols (head.Word w) r = term.App (symbol_number symbols (name_of text w)) r.terms
applied text symbols (head.Operation op s) r = operated op r.numbers r.terms

-- arguments on the way: what was read, and what is left
pub record AreOnWay (numbers : List (Option Computed)) (terms : List Term) (faults : Faults) (ss : List Sort) (ms : List TermMeaning) (rest : List TermMeaning) (left : List (Wanted → Faults)) : Type 0 where
  pub numbers_read : map (λ m. m.number) ms ≡ numbers ++ map (λ m. m.number) rest
  pub terms_read : map (λ m. m.term) ms ≡ terms ++ map (λ m. m.term) rest
  pub faults_left : faults ≡ argument_faults ss left
