-- The syntax trees that what is written stands for: without brackets and annotations.
use Rattle.std.specs.Prelude.{List, [], ◌∷◌, map, option_map}
use Rattle.tff_grammar.specs.declared.pieces.Span.{Span}
use Rattle.tff_grammar.specs.declared.trees.Word.{Word}
use Rattle.tff_grammar.specs.declared.trees.Word.TheVariants as word
use Rattle.tff_grammar.specs.declared.trees.Sort.{Sort}
use Rattle.tff_grammar.specs.declared.trees.Sort.TheVariants as sort
use Rattle.tff_grammar.specs.declared.trees.DeclaredType.{DeclaredType}
use Rattle.tff_grammar.specs.declared.trees.DeclaredType.TheVariants as type
use Rattle.tff_grammar.specs.declared.trees.Head.{Head}
use Rattle.tff_grammar.specs.declared.trees.Head.TheVariants as head
use Rattle.tff_grammar.specs.declared.trees.Term.{Term}
use Rattle.tff_grammar.specs.declared.trees.Term.TheVariants as term
use Rattle.tff_grammar.specs.declared.trees.Variable.{Variable}
use Rattle.tff_grammar.specs.declared.trees.Formula.{Formula}
use Rattle.tff_grammar.specs.declared.trees.Formula.TheVariants as f
use Rattle.tff_grammar.specs.declared.trees.Content.{Content}
use Rattle.tff_grammar.specs.declared.trees.Content.TheVariants as content
use Rattle.tff_grammar.specs.declared.trees.Statement.{Statement}
use Rattle.tff_grammar.specs.Grammar.{WordTree, lower, quoted, NameTree, named, numbered, ArgumentTree, declared, basic, SortTree, of_argument, truth, ArgsTree, one, several, TypeTree, of_types, constant, function, bracketed, TypingTree, typing, enclosed, HeadTree, head_word, head_operation, TermTree, variable, numeral, apply, ArgumentsTree, no_arguments, arguments, TermsTree, no_terms, next_term, SecondTree, no_second, second, VariableTree, UnitTree, negated, quantified, grouped, truth_value, atomic, FormulaTree, formula, TailTree, alone, linked, joined, UnitsTree, no_units, next_unit, BodyTree, declaration, premise, conjecture, StatementTree, FileTree, no_statements, next_statement}

-- a word with its place
abbrev pub word_of : WordTree → Word
word_of (lower k s) = word.Lower s
word_of (quoted s) = word.Quoted s

-- the place of a word
abbrev pub word_place : WordTree → Span
word_place (lower k s) = s
word_place (quoted s) = s

-- the place of a statement's name
abbrev pub name_place : NameTree → Span
name_place (named w) = word_place w
name_place (numbered m) = m.span

-- ---- types

-- the sort of an argument or a variable
abbrev pub argument_of : ArgumentTree → Sort
argument_of (declared w) = sort.Word (word_of w)
argument_of (basic b) = sort.Basic b

-- a sort
abbrev pub sort_of : SortTree → Sort
sort_of (of_argument a) = argument_of a
sort_of truth = sort.Truth

-- the sorts of arguments
abbrev pub arguments_of : List ArgumentTree → List Sort
arguments_of = map argument_of

-- the sorts in front of a `>`
abbrev pub args_of : ArgsTree → List Sort
args_of (one a) = argument_of a ∷ []
args_of (several a more) = argument_of a ∷ arguments_of more

-- a type: that of a sort, or a function type, which has no arguments where no `>` is written
abbrev pub type_of : TypeTree → DeclaredType
type_of of_types = type.OfTypes
type_of (constant s) = type.Function [] (sort_of s)
type_of (function args s) = type.Function (args_of args) (sort_of s)
type_of (bracketed t) = type_of t

-- the word that gets a type, and the type
abbrev pub typing_of : TypingTree → Content
typing_of (typing w t) = content.Declaration (word_of w) (type_of t)
typing_of (enclosed w) = typing_of w

-- ---- terms

-- a head with its place
abbrev pub head_of : HeadTree → Head
head_of (head_word w) = head.Word (word_of w)
head_of (head_operation o s) = head.Operation o s

abbrev mutual
  pub term_of : TermTree → Term
  term_of (variable s) = term.Variable s
  term_of (numeral m) = term.Numeral m
  term_of (apply h args) = term.Apply (head_of h) (all_of args)

  pub all_of : ArgumentsTree → List Term
  all_of no_arguments = []
  all_of (arguments t more) = term_of t ∷ terms_of more

  pub terms_of : TermsTree → List Term
  terms_of no_terms = []
  terms_of (next_term t more) = term_of t ∷ terms_of more

-- ---- formulas

-- a term as a formula, or two terms with a sign between them
abbrev pub atom_of : Term → SecondTree → Formula
atom_of t no_second = f.Atom t
atom_of t (second r u) = f.Relation r t (term_of u)

-- a bound variable
abbrev pub variable_of : VariableTree → Variable
variable_of v = record { name = v.name; sort = option_map argument_of v.sort }

-- bound variables
abbrev pub variables_of : List VariableTree → List Variable
variables_of = map variable_of

abbrev mutual
  pub unit_of : UnitTree → Formula
  unit_of (negated u) = f.Not (unit_of u)
  unit_of (quantified q v more u) = f.Quantified q (variable_of v ∷ variables_of more) (unit_of u)
  unit_of (grouped g) = formula_of g
  unit_of (truth_value b) = f.Constant b
  unit_of (atomic t s) = atom_of (term_of t) s

  pub formula_of : FormulaTree → Formula
  formula_of (formula u tail) = with_tail (unit_of u) tail

  -- a first member, and what follows it
  pub with_tail : Formula → TailTree → Formula
  with_tail first alone = first
  with_tail first (linked l u) = f.Linked l first (unit_of u)
  with_tail first (joined j u more) = f.Joined j (first ∷ unit_of u ∷ units_of more)

  pub units_of : UnitsTree → List Formula
  units_of no_units = []
  units_of (next_unit u more) = unit_of u ∷ units_of more

-- ---- statements

-- what a statement says, by its role
abbrev pub body_of : BodyTree → Content
body_of (declaration s w) = typing_of w
body_of (premise s g) = content.Premise (formula_of g)
body_of (conjecture s g) = content.Conjecture (formula_of g)

-- a statement
abbrev pub statement_of : StatementTree → Statement
statement_of s = record { name = name_place s.name; content = body_of s.body }

-- the statements of a file, in its order
abbrev pub file_of : FileTree → List Statement
file_of no_statements = []
file_of (next_statement s more) = statement_of s ∷ file_of more
