-- What statements mean: the problem, and the faults of typing, phase 3.
use Rattle.std.specs.Prelude.{ℕ, ◌+◌, Bool, true, false, ℤ, pos, negsuc, List, [], ◌∷◌, ◌++◌, length, map, flat_map, filter_map, Option, Some, None, option_map}
use Rattle.std.specs.Option.{option_map_or}
use Rattle.term_base.specs.declared.symbols.Symbol.{Symbol}
use Rattle.term_base.specs.declared.variables.Variable.{Variable}
use Rattle.term_base.specs.declared.terms.Term.{Term}
use Rattle.term_base.specs.declared.terms.Term.TheVariants as term
use Rattle.formula_base.specs.declared.formulas.Formula.{Formula}
use Rattle.formula_base.specs.declared.formulas.Formula.TheVariants as g
use Rattle.formula_base.specs.declared.problems.Problem.{Problem}
use Rattle.tff_grammar.specs.declared.pieces.Operation.{Operation}
use Rattle.tff_grammar.specs.declared.pieces.Operation.TheVariants as o
use Rattle.tff_grammar.specs.declared.pieces.Junction.{Junction}
use Rattle.tff_grammar.specs.declared.pieces.Junction.TheVariants as junction
use Rattle.tff_grammar.specs.declared.pieces.Link.{Link}
use Rattle.tff_grammar.specs.declared.pieces.Link.TheVariants as link
use Rattle.tff_grammar.specs.declared.pieces.Quantifier.{Quantifier}
use Rattle.tff_grammar.specs.declared.pieces.Quantifier.TheVariants.{ForAll, Exists}
use Rattle.tff_grammar.specs.declared.pieces.Relation.{Relation}
use Rattle.tff_grammar.specs.declared.pieces.Relation.TheVariants.{Equal, Differ}
use Rattle.tff_grammar.specs.declared.trees.Head.{Head}
use Rattle.tff_grammar.specs.declared.trees.Head.TheVariants as head
use Rattle.tff_grammar.specs.declared.trees.Term.{Term as WrittenTerm}
use Rattle.tff_grammar.specs.declared.trees.Term.TheOpen as t
use Rattle.tff_grammar.specs.declared.trees.Term.TheOpen.{Term-F}
use Rattle.tff_grammar.specs.declared.trees.Term.TheFolds.{fold-Term}
use Rattle.tff_grammar.specs.declared.trees.Term.TheViews.{out-Term}
use Rattle.tff_grammar.specs.declared.trees.Formula.{Formula as WrittenFormula}
use Rattle.tff_grammar.specs.declared.trees.Formula.TheOpen as f
use Rattle.tff_grammar.specs.declared.trees.Formula.TheOpen.{Formula-F}
use Rattle.tff_grammar.specs.declared.trees.Formula.TheFolds.{fold-Formula}
use Rattle.tff_grammar.specs.declared.trees.Content.{Content}
use Rattle.tff_grammar.specs.declared.trees.Content.TheVariants as content
use Rattle.tff_grammar.specs.declared.trees.Statement.{Statement}
use Rattle.tff_grammar.specs.Pieces.{bytes_at}
use Rattle.tff_reader.specs.declared.numbers.Computed.{Computed}
use Rattle.tff_reader.specs.declared.numbers.Computed.TheVariants.{Value, Wide}
use Rattle.tff_reader.specs.declared.heads.Wanted.TheVariants.{Predicate}
use Rattle.tff_signature.specs.Names.{Name, name_of}
use Rattle.tff_signature.specs.Faults.{Faults}
use Rattle.tff_signature.specs.Symbols.{Signature, signature_of, symbol_number}
use Rattle.tff_reader.specs.Scopes.{Scope, bound_by, variables_from, bind}
use Rattle.tff_reader.specs.NumberTerms.{head_number}
use Rattle.tff_reader.specs.Typing.{term_faults, relation_faults}

-- ---- terms. What is said of terms with a fault of typing or of a product doesn't matter.

-- the term of what a name is bound to
abbrev pub variable_term : Option Variable → Term
variable_term (Some v) = term.Var v
variable_term None = term.True

-- the value by which a product scales
abbrev pub factor_value : Computed → ℤ
factor_value (Value k) = k
factor_value Wide = pos 0

-- by the first argument where that is a number-term, else by the second
abbrev pub scaled : Option Computed → Option Computed → Term → Term → Term
scaled (Some k) other s u = term.Scale (factor_value k) u
scaled None (Some k) s u = term.Scale (factor_value k) s
scaled None None s u = term.True

-- the number -1
abbrev pub minus_one : ℤ
minus_one = negsuc 0

-- what a term means, and what it computes to where it is a number-term
pub record TermMeaning : Type 0 where
  pub number : Option Computed
  pub term : Term

-- an arithmetic word with the result `$int`
abbrev pub operation_term : Operation → List TermMeaning → Term
operation_term o.Sum (a ∷ b ∷ []) = term.Sum a.term b.term
operation_term o.Difference (a ∷ b ∷ []) = term.Sum a.term (term.Scale minus_one b.term)
operation_term o.Uminus (a ∷ []) = term.Scale minus_one a.term
operation_term o.Product (a ∷ b ∷ []) = scaled a.number b.number a.term b.term
operation_term op args = term.True

-- an arithmetic word with the result `$o`
abbrev pub comparison : Operation → List Term → Formula
comparison o.Less (s ∷ u ∷ []) = g.Less s u
comparison o.LessEq (s ∷ u ∷ []) = g.LessEq s u
comparison o.Greater (s ∷ u ∷ []) = g.Less u s
comparison o.GreaterEq (s ∷ u ∷ []) = g.LessEq u s
comparison op args = g.True

-- the terms of these
abbrev pub terms_of : List TermMeaning → List Term
terms_of = map (λ a. a.term)

module _ (text : List ℕ) (symbols : List Symbol) where
  -- a head over its arguments: the symbol of a word, or an arithmetic word
  abbrev pub head_term : Head → List TermMeaning → Term
  head_term (head.Word w) args = term.App (symbol_number symbols (name_of text w)) (terms_of args)
  head_term (head.Operation op s) args = operation_term op args

  -- one layer of a term
  abbrev pub term_meaning_step : Scope → Term-F TermMeaning → TermMeaning
  term_meaning_step scope (t.Variable s) = record { number = None; term = variable_term (bound_by scope (bytes_at text s)) }
  term_meaning_step scope (t.Numeral m) = record { number = Some (Value m.value); term = term.Num m.value }
  term_meaning_step scope (t.Apply h args) = record { number = head_number h (map (λ a. a.number) args); term = head_term h args }

  -- what a term means where this is bound
  abbrev pub term_meaning : Scope → WrittenTerm → TermMeaning
  term_meaning scope = fold-Term TermMeaning (term_meaning_step scope)

  -- the term alone
  abbrev pub term_of : Scope → WrittenTerm → Term
  term_of scope u = (term_meaning scope u).term

  -- ---- atoms

  -- a term that stands as a formula, by its first layer
  abbrev pub atom_step : Scope → WrittenTerm → Term-F WrittenTerm → Formula
  atom_step scope u (t.Apply (head.Operation op s) args) = comparison op (map (term_of scope) args)
  atom_step scope u (t.Apply (head.Word w) args) = g.Atom (term_of scope u)
  atom_step scope u (t.Variable s) = g.Atom (term_of scope u)
  atom_step scope u (t.Numeral m) = g.Atom (term_of scope u)

  -- an arithmetic word compares its arguments, any other term is an atom
  abbrev pub atom_of : Scope → WrittenTerm → Formula
  atom_of scope u = atom_step scope u (out-Term u)

-- an equation, or its negation
abbrev pub relation_of : Relation → Term → Term → Formula
relation_of Equal s u = g.Same s u
relation_of Differ s u = g.Not (g.Same s u)

-- `$true` and `$false`
abbrev pub constant_of : Bool → Formula
constant_of true = g.True
constant_of false = g.False

-- ---- formulas

-- a quantifier over its variables
abbrev pub quantified : Quantifier → List Variable → Formula → Formula
quantified ForAll vs a = g.All vs a
quantified Exists vs a = g.Some vs a

-- two formulas with a sign between them
abbrev pub linked : Link → Formula → Formula → Formula
linked link.Implies a b = g.Implies a b
linked link.Implied a b = g.Or (a ∷ g.Not b ∷ [])
linked link.Iff a b = g.Iff a b
linked link.Xor a b = g.Not (g.Iff a b)
linked link.Nand a b = g.Not (g.And (a ∷ b ∷ []))
linked link.Nor a b = g.Not (g.Or (a ∷ b ∷ []))

-- formulas with `&` or `|` between them
abbrev pub joined : Junction → List Formula → Formula
joined junction.And members = g.And members
joined junction.Or members = g.Or members

-- what a formula means where it stands
pub record FormulaMeaning : Type 0 where
  -- the faults of its typing, in reading order
  pub faults : Faults
  pub formula : Formula
  -- the number of the next binder behind it
  pub next : ℕ

-- by what is bound, and the number of the next binder
abbrev pub Meaning : Type 0
Meaning = Scope → ℕ → FormulaMeaning

-- the members from left to right; the binders of each are numbered behind those of the members before it
abbrev pub members : List Meaning → Scope → ℕ → List FormulaMeaning
members [] scope n = []
members (m ∷ ms) scope n = m scope n ∷ members ms scope (m scope n).next

-- the number of the next binder behind the members
abbrev pub behind : List Meaning → Scope → ℕ → ℕ
behind [] scope n = n
behind (m ∷ ms) scope n = behind ms scope (m scope n).next

-- the formulas of these
abbrev pub formulas_of : List FormulaMeaning → List Formula
formulas_of = map (λ m. m.formula)

-- the faults of these, from left to right
abbrev pub faults_of : List FormulaMeaning → Faults
faults_of = flat_map (λ m. m.faults)

module _ (text : List ℕ) (sig : Signature) where
  -- one layer of a formula
  abbrev pub meaning_step : Formula-F Meaning → Meaning
  meaning_step (f.Constant b) scope n = record { faults = []; formula = constant_of b; next = n }
  meaning_step (f.Atom s) scope n = record { faults = term_faults text sig.symbols scope s Predicate; formula = atom_of text sig.symbols scope s; next = n }
  meaning_step (f.Relation r s u) scope n = record {
    faults = relation_faults text sig.symbols scope s u;
    formula = relation_of r (term_of text sig.symbols scope s) (term_of text sig.symbols scope u);
    next = n;
  }
  meaning_step (f.Not m) scope n = let a = m scope n in record { faults = a.faults; formula = g.Not a.formula; next = a.next }
  meaning_step (f.Quantified q vs m) scope n =
      let a = m (bind text sig.sorts n vs scope) (n + length vs) in
      record { faults = a.faults; formula = quantified q (variables_from text sig.sorts n vs) a.formula; next = a.next }
  meaning_step (f.Linked l m m') scope n =
      let a = m scope n in
      let b = m' scope a.next in
      record { faults = a.faults ++ b.faults; formula = linked l a.formula b.formula; next = b.next }
  meaning_step (f.Joined j ms) scope n = record {
    faults = faults_of (members ms scope n);
    formula = joined j (formulas_of (members ms scope n));
    next = behind ms scope n;
  }

  -- what a formula means, by what is bound and the number of the next binder
  abbrev pub meaning : WrittenFormula → Meaning
  meaning = fold-Formula Meaning meaning_step

  -- a formula of a statement, where nothing is bound
  abbrev pub formula_meaning : WrittenFormula → FormulaMeaning
  formula_meaning a = meaning a [] 0

  -- the faults of typing in a statement
  abbrev pub content_faults : Content → Faults
  content_faults (content.Declaration w ty) = []
  content_faults (content.Premise a) = (formula_meaning a).faults
  content_faults (content.Conjecture a) = (formula_meaning a).faults

  -- the formula of a premise
  abbrev pub premise_of : Content → Option Formula
  premise_of (content.Declaration w ty) = None
  premise_of (content.Premise a) = Some (formula_meaning a).formula
  premise_of (content.Conjecture a) = None

  -- the formula of a conjecture
  abbrev pub conjecture_of : Content → Option Formula
  conjecture_of (content.Declaration w ty) = None
  conjecture_of (content.Premise a) = None
  conjecture_of (content.Conjecture a) = Some (formula_meaning a).formula

-- ---- the file

-- the faults of typing in all formulas, in file order
abbrev pub typing_faults : List ℕ → Signature → List Statement → Faults
typing_faults text sig = flat_map (λ s. content_faults text sig s.content)

-- phase 3; all declarations count from the start
abbrev pub phase_3 : List ℕ → List Statement → Faults
phase_3 text statements = typing_faults text (signature_of text statements) statements

-- the premises of a file, in file order
abbrev pub premises_of : List ℕ → Signature → List Statement → List Formula
premises_of text sig = filter_map (λ s. premise_of text sig s.content)

-- the conjectures of a file, of which the grammar lets one stand
abbrev pub conjectures_of : List ℕ → Signature → List Statement → List Formula
conjectures_of text sig = filter_map (λ s. conjecture_of text sig s.content)

-- the first of a list, where there is one
abbrev pub first : {A : Type 0} → List A → Option A
first [] = None
first (x ∷ xs) = Some x

-- the problem; its conjecture isn't yet negated
abbrev pub problem_of : List ℕ → List Statement → Problem
problem_of text statements =
    let sig = signature_of text statements in
    record {
      symbols = sig.symbols;
      sorts = length sig.sorts;
      premises = premises_of text sig statements;
      conjecture = first (conjectures_of text sig statements);
    }
