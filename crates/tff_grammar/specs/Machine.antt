-- Reading by one token at a time: a stack of what must still come, and what was read. It computes the trees, or the first fault.
use Rattle.std.specs.Prelude.{◌≡◌, ℕ, ◌+◌, Bool, true, false, cond, nat_lt, List, [], ◌∷◌, ◌++◌, length, Option, Some, None}
use Rattle.tff_grammar.specs.declared.faults.FaultName.{FaultName}
use Rattle.tff_grammar.specs.declared.faults.FaultName.TheVariants as n
use Rattle.tff_grammar.specs.declared.faults.Found.{Found}
use Rattle.tff_grammar.specs.declared.faults.Stop.{Stop}
use Rattle.tff_grammar.specs.declared.faults.Stop.TheVariants as stops
use Rattle.tff_grammar.specs.declared.pieces.Span.{Span}
use Rattle.tff_grammar.specs.declared.pieces.Sign.{Sign}
use Rattle.tff_grammar.specs.declared.pieces.Sign.TheVariants.{OpenRound, CloseRound, OpenSquare, CloseSquare, Comma, Dot, Colon, Not, Star, Arrow}
use Rattle.tff_grammar.specs.declared.pieces.Junction.{Junction}
use Rattle.tff_grammar.specs.declared.pieces.Junction.TheVariants.{And, Or}
use Rattle.tff_grammar.specs.declared.pieces.Link.{Link}
use Rattle.tff_grammar.specs.declared.pieces.Quantifier.{Quantifier}
use Rattle.tff_grammar.specs.declared.pieces.Relation.{Relation}
use Rattle.tff_grammar.specs.declared.pieces.Keyword.TheVariants.{Tff, Include, Language, Declaration, Conjecture, Premise}
use Rattle.tff_grammar.specs.declared.pieces.Piece.{Piece}
use Rattle.tff_grammar.specs.declared.pieces.Piece.TheVariants as piece
use Rattle.tff_grammar.specs.declared.trees.Word.{Word}
use Rattle.tff_grammar.specs.declared.trees.Word.TheVariants as word
use Rattle.tff_grammar.specs.declared.trees.Sort.{Sort}
use Rattle.tff_grammar.specs.declared.trees.Sort.TheVariants as sort
use Rattle.tff_grammar.specs.declared.trees.DeclaredType.{DeclaredType}
use Rattle.tff_grammar.specs.declared.trees.DeclaredType.TheVariants as types
use Rattle.tff_grammar.specs.declared.trees.Head.{Head}
use Rattle.tff_grammar.specs.declared.trees.Head.TheVariants as heads
use Rattle.tff_grammar.specs.declared.trees.Term.{Term}
use Rattle.tff_grammar.specs.declared.trees.Term.TheVariants as terms
use Rattle.tff_grammar.specs.declared.trees.Variable.{Variable}
use Rattle.tff_grammar.specs.declared.trees.Formula.{Formula}
use Rattle.tff_grammar.specs.declared.trees.Formula.TheVariants as formulas
use Rattle.tff_grammar.specs.declared.trees.Content.{Content}
use Rattle.tff_grammar.specs.declared.trees.Content.TheVariants as contents
use Rattle.tff_grammar.specs.declared.trees.Statement.{Statement}
use Rattle.tff_grammar.specs.FirstFault.{max_levels}

-- ---- what must still come

-- one thing that must come
pub data Symbol : Type 0 where
  -- statements, behind a conjecture or not
  statements : Bool → Symbol
  -- this sign
  sign : Sign → Symbol
  a_name : Symbol
  -- the role, and what follows it to the end of the file
  role : Bool → Symbol
  -- annotations or not, and the end of a statement
  ending : Symbol
  notes : Symbol
  -- the bracket that ends a level
  close : Symbol
  typing : Symbol
  type : Symbol
  -- `>` and a sort, or nothing, behind a sort
  result : Symbol
  result_sort : Symbol
  -- what stands behind a bracket: a type and the other bracket, or sorts, the other bracket and a result
  in_type : Symbol
  -- the same behind a first sort
  in_args : Symbol
  -- a sort behind a `*`, more of them, the bracket and the result
  argument : Symbol
  more_args : Symbol
  arrow_result : Symbol
  -- behind `$o`, no result
  no_arrow : Symbol
  unit : Symbol
  -- the end of the level of a `~`, of a quantifier
  ended : Symbol
  bound : Quantifier → Symbol
  tail : Symbol
  -- more members of a conjunction or a disjunction
  chain : Junction → Symbol
  -- the end of the unit behind a link
  after_link : Link → Symbol
  -- variables up to the bracket: one, its sort or none, the sort, further ones
  binder : Symbol
  after_binder : Symbol
  binder_sort : Symbol
  more_binders : Symbol
  term : Symbol
  -- arguments or none, more of them
  arguments : Symbol
  more_terms : Symbol
  -- a second side or none, its end
  second : Symbol
  after_relation : Relation → Symbol

-- all that must come, the next one first
abbrev pub Stack : Type 0
Stack = List Symbol

-- One level more for a symbol that ends one. No level is open at a statement, nor at its role.
abbrev pub raise : Symbol → ℕ → ℕ
raise (statements again) n = 0
raise (role again) n = 0
raise close n = n + 1
raise in_type n = n + 1
raise in_args n = n + 1
raise argument n = n + 1
raise more_args n = n + 1
raise ended n = n + 1
raise (bound q) n = n + 1
raise more_terms n = n + 1
raise s n = n

-- the levels that are open
abbrev pub levels : Stack → ℕ
levels [] = 0
levels (s ∷ k) = raise s (levels k)

-- what is asked of a token that a symbol takes: whether its level is within the limit; whether a `$o`, in a bracket or not, turns out as
-- the sort of an argument
pub data Check : Type 0 where
  free : Check
  deepens : Check
  unbracketed : Check
  bracketed : Check

-- what a symbol does with a token
pub data Answer : Type 0 where
  -- it takes the token, and these come
  takes : Stack → Answer
  -- it takes the token as the opener of a level
  opens : Stack → Answer
  -- it takes a `$o`
  looks : Check → Stack → Answer
  -- it is done without the token
  leaves : Answer
  refuses : Answer

-- ---- the table

-- the two are one sign
abbrev pub same_sign : Sign → Sign → Bool
same_sign OpenRound OpenRound = true
same_sign CloseRound CloseRound = true
same_sign OpenSquare OpenSquare = true
same_sign CloseSquare CloseSquare = true
same_sign Comma Comma = true
same_sign Dot Dot = true
same_sign Colon Colon = true
same_sign Not Not = true
same_sign Star Star = true
same_sign Arrow Arrow = true
same_sign _ _ = false

-- the two are one sign
abbrev pub same_junction : Junction → Junction → Bool
same_junction And And = true
same_junction Or Or = true
same_junction _ _ = false

-- where a statement may begin
abbrev pub at_statements : Bool → Piece → Answer
at_statements again (piece.Lower Tff s) = takes (sign OpenRound ∷ a_name ∷ sign Comma ∷ role again ∷ [])
at_statements again p = refuses

-- where this sign must come
abbrev pub at_sign : Sign → Piece → Answer
at_sign s (piece.Sign t) = cond (same_sign s t) (takes []) refuses
at_sign s p = refuses

-- where a statement's name must come
abbrev pub at_name : Piece → Answer
at_name (piece.Lower k s) = takes []
at_name (piece.Quoted s) = takes []
at_name (piece.Numeral m) = takes []
at_name p = refuses

-- where a role must come
abbrev pub at_role : Bool → Piece → Answer
at_role again (piece.Lower Declaration s) = takes (sign Comma ∷ typing ∷ ending ∷ statements again ∷ [])
at_role again (piece.Lower Premise s) = takes (sign Comma ∷ unit ∷ tail ∷ ending ∷ statements again ∷ [])
at_role false (piece.Lower Conjecture s) = takes (sign Comma ∷ unit ∷ tail ∷ ending ∷ statements true ∷ [])
at_role again p = refuses

-- where a statement ends
abbrev pub at_ending : Piece → Answer
at_ending (piece.Sign Comma) = takes (notes ∷ sign CloseRound ∷ sign Dot ∷ [])
at_ending (piece.Sign CloseRound) = takes (sign Dot ∷ [])
at_ending p = refuses

-- in annotations
abbrev pub at_notes : Piece → Answer
at_notes (piece.Sign OpenRound) = opens (notes ∷ close ∷ notes ∷ [])
at_notes (piece.Sign OpenSquare) = takes (notes ∷ sign CloseSquare ∷ notes ∷ [])
at_notes (piece.Sign CloseRound) = leaves
at_notes (piece.Sign CloseSquare) = leaves
at_notes piece.WideNumeral = refuses
at_notes p = takes (notes ∷ [])

-- where a typing must come
abbrev pub at_typing : Piece → Answer
at_typing (piece.Lower k s) = takes (sign Colon ∷ type ∷ [])
at_typing (piece.Quoted s) = takes (sign Colon ∷ type ∷ [])
at_typing (piece.Sign OpenRound) = opens (typing ∷ close ∷ [])
at_typing p = refuses

-- a sort that arguments may have
abbrev pub at_sort : Stack → Piece → Answer
at_sort k (piece.Lower w s) = takes k
at_sort k (piece.Quoted s) = takes k
at_sort k (piece.Basic b) = takes k
at_sort k p = refuses

-- where a type must come
abbrev pub at_type : Piece → Answer
at_type piece.OfTypes = takes []
at_type (piece.Sign OpenRound) = opens (in_type ∷ [])
at_type piece.Truth = looks unbracketed (no_arrow ∷ [])
at_type p = at_sort (result ∷ []) p

-- behind the first sort of a type
abbrev pub at_result : Piece → Answer
at_result (piece.Sign Arrow) = takes (result_sort ∷ [])
at_result p = leaves

-- behind a `>`
abbrev pub at_result_sort : Piece → Answer
at_result_sort piece.Truth = takes []
at_result_sort p = at_sort [] p

-- behind the bracket that a type begins with
abbrev pub at_in_type : Piece → Answer
at_in_type piece.OfTypes = takes (close ∷ [])
at_in_type (piece.Sign OpenRound) = opens (in_type ∷ close ∷ [])
at_in_type piece.Truth = looks bracketed (close ∷ no_arrow ∷ [])
at_in_type p = at_sort (in_args ∷ []) p

-- behind the first sort in it
abbrev pub at_in_args : Piece → Answer
at_in_args (piece.Sign CloseRound) = takes (result ∷ [])
at_in_args (piece.Sign Star) = takes (argument ∷ [])
at_in_args (piece.Sign Arrow) = takes (result_sort ∷ close ∷ [])
at_in_args p = refuses

-- behind a further sort in it
abbrev pub at_more_args : Piece → Answer
at_more_args (piece.Sign Star) = takes (argument ∷ [])
at_more_args (piece.Sign CloseRound) = takes (arrow_result ∷ [])
at_more_args p = refuses

-- behind the bracket round several sorts
abbrev pub at_arrow_result : Piece → Answer
at_arrow_result (piece.Sign Arrow) = takes (result_sort ∷ [])
at_arrow_result p = refuses

-- behind a `$o`
abbrev pub at_no_arrow : Piece → Answer
at_no_arrow (piece.Sign Arrow) = refuses
at_no_arrow p = leaves

-- a term, and these behind it
abbrev pub at_term : Stack → Piece → Answer
at_term k (piece.Upper s) = takes k
at_term k (piece.Numeral m) = takes k
at_term k (piece.Lower w s) = takes (arguments ∷ k)
at_term k (piece.Quoted s) = takes (arguments ∷ k)
at_term k (piece.Operation o s) = takes (arguments ∷ k)
at_term k p = refuses

-- where a unit must come
abbrev pub at_unit : Piece → Answer
at_unit (piece.Sign Not) = opens (unit ∷ ended ∷ [])
at_unit (piece.Quantifier q) = opens (sign OpenSquare ∷ binder ∷ sign Colon ∷ unit ∷ bound q ∷ [])
at_unit (piece.Sign OpenRound) = opens (unit ∷ tail ∷ close ∷ [])
at_unit (piece.Constant b) = takes []
at_unit p = at_term (second ∷ []) p

-- behind a first unit
abbrev pub at_tail : Piece → Answer
at_tail (piece.Link l) = takes (unit ∷ after_link l ∷ [])
at_tail (piece.Junction j) = takes (unit ∷ chain j ∷ [])
at_tail p = leaves

-- behind a member of a conjunction or a disjunction
abbrev pub at_chain : Junction → Piece → Answer
at_chain j (piece.Junction i) = cond (same_junction j i) (takes (unit ∷ chain j ∷ [])) leaves
at_chain j p = leaves

-- where a variable must come that a quantifier binds
abbrev pub at_binder : Piece → Answer
at_binder (piece.Upper s) = takes (after_binder ∷ [])
at_binder p = refuses

-- behind its name
abbrev pub at_after_binder : Piece → Answer
at_after_binder (piece.Sign Colon) = takes (binder_sort ∷ [])
at_after_binder (piece.Sign Comma) = takes (binder ∷ [])
at_after_binder (piece.Sign CloseSquare) = takes []
at_after_binder p = refuses

-- behind its sort
abbrev pub at_more_binders : Piece → Answer
at_more_binders (piece.Sign Comma) = takes (binder ∷ [])
at_more_binders (piece.Sign CloseSquare) = takes []
at_more_binders p = refuses

-- behind a head
abbrev pub at_arguments : Piece → Answer
at_arguments (piece.Sign OpenRound) = opens (term ∷ more_terms ∷ [])
at_arguments p = leaves

-- behind an argument
abbrev pub at_more_terms : Piece → Answer
at_more_terms (piece.Sign Comma) = takes (term ∷ more_terms ∷ [])
at_more_terms (piece.Sign CloseRound) = takes []
at_more_terms p = refuses

-- behind the first term of an atom
abbrev pub at_second : Piece → Answer
at_second (piece.Relation r) = takes (term ∷ after_relation r ∷ [])
at_second p = leaves

-- the whole table
abbrev pub answer : Symbol → Piece → Answer
answer (statements again) p = at_statements again p
answer (sign s) p = at_sign s p
answer a_name p = at_name p
answer (role again) p = at_role again p
answer ending p = at_ending p
answer notes p = at_notes p
answer close p = at_sign CloseRound p
answer typing p = at_typing p
answer type p = at_type p
answer result p = at_result p
answer result_sort p = at_result_sort p
answer in_type p = at_in_type p
answer in_args p = at_in_args p
answer argument p = at_sort (more_args ∷ []) p
answer more_args p = at_more_args p
answer arrow_result p = at_arrow_result p
answer no_arrow p = at_no_arrow p
answer unit p = at_unit p
answer ended p = leaves
answer (bound q) p = leaves
answer tail p = at_tail p
answer (chain j) p = at_chain j p
answer (after_link l) p = leaves
answer binder p = at_binder p
answer after_binder p = at_after_binder p
answer binder_sort p = at_sort (more_binders ∷ []) p
answer more_binders p = at_more_binders p
answer term p = at_term [] p
answer arguments p = at_arguments p
answer more_terms p = at_more_terms p
answer second p = at_second p
answer (after_relation r) p = leaves

-- it may be left at the end
abbrev pub is_optional : Symbol → Bool
is_optional notes = true
is_optional result = true
is_optional no_arrow = true
is_optional ended = true
is_optional (bound q) = true
is_optional tail = true
is_optional (chain j) = true
is_optional (after_link l) = true
is_optional arguments = true
is_optional second = true
is_optional (after_relation r) = true
is_optional s = false

-- ---- the name of a token that is refused

-- the name of a token that opens a level where none may come, in so many levels
abbrev pub deep_name : ℕ → FaultName
deep_name level = cond (nat_lt level max_levels) n.Syntax n.TooDeep

-- in so many levels, where it has no name of its own place
abbrev pub plain_name : ℕ → Piece → FaultName
plain_name level piece.Unsupported = n.Unsupported
plain_name level piece.WideNumeral = n.NumberTooWide
plain_name level (piece.Sign OpenRound) = deep_name level
plain_name level (piece.Sign Not) = deep_name level
plain_name level (piece.Quantifier q) = deep_name level
plain_name level p = n.Syntax

-- where a statement may begin
abbrev pub start_name : Piece → FaultName
start_name (piece.Lower Include s) = n.Unsupported
start_name (piece.Lower Language s) = n.Language
start_name p = plain_name 0 p

-- where a role must come
abbrev pub role_name : ℕ → Piece → FaultName
role_name level (piece.Lower Conjecture s) = n.TwoConjectures
role_name level (piece.Lower k s) = n.Unsupported
role_name level p = plain_name level p

-- behind a `*`
abbrev pub argument_name : ℕ → Piece → FaultName
argument_name level piece.Truth = n.Unsupported
argument_name level piece.OfTypes = n.Unsupported
argument_name level p = plain_name level p

-- behind a `>`
abbrev pub result_name : ℕ → Piece → FaultName
result_name level piece.OfTypes = n.Unsupported
result_name level p = plain_name level p

-- behind the `:` of a bound variable
abbrev pub binder_name : ℕ → Piece → FaultName
binder_name level piece.Truth = n.Unsupported
binder_name level p = plain_name level p

-- by what must come
abbrev pub refused_name : Symbol → ℕ → Piece → FaultName
refused_name (statements again) level p = start_name p
refused_name (role again) level p = role_name level p
refused_name argument level p = argument_name level p
refused_name result_sort level p = result_name level p
refused_name binder_sort level p = binder_name level p
refused_name s level p = plain_name level p

-- ---- one step

-- what comes of a token
pub data Step : Type 0 where
  -- the levels that the token stands in, and what comes behind it
  moved : Check → ℕ → Stack → Step
  stuck : FaultName → Step

-- by what the first symbol does with it
abbrev pub step_by : Answer → Symbol → Piece → Stack → Step → Step
step_by (takes front) s p k behind = moved free (levels (s ∷ k)) (front ++ k)
step_by (opens front) s p k behind = moved deepens (levels (s ∷ k) + 1) (front ++ k)
step_by (looks check front) s p k behind = moved check (levels (s ∷ k)) (front ++ k)
step_by leaves s p k behind = behind
step_by refuses s p k behind = stuck (refused_name s (levels (s ∷ k)) p)

-- what a token makes of what must come
abbrev pub step : Stack → Piece → Step
step [] p = stuck (plain_name 0 p)
step (s ∷ k) p = step_by (answer s p) s p k (step k p)

-- ---- what was read

-- a part that was read
pub data Value : Type 0 where
  file_value : List Statement → Value
  name_value : Span → Value
  -- whether it is a conjecture
  role_value : Bool → Value
  word_value : Word → Value
  sorts_value : List Sort → Value
  type_value : DeclaredType → Value
  head_value : Head → List Term → Value
  term_value : Term → Value
  binders_value : List Variable → Value
  binder_value : Span → Value
  formula_value : Formula → Value
  members_value : List Formula → Value

-- the parts that were read, the last one first
abbrev pub Values : Type 0
Values = List Value

-- a statement's name
abbrev pub name_taken : Piece → Values → Values
name_taken (piece.Lower k s) vs = name_value s ∷ vs
name_taken (piece.Quoted s) vs = name_value s ∷ vs
name_taken (piece.Numeral m) vs = name_value m.span ∷ vs
name_taken p vs = vs

-- the role of a premise or a conjecture
abbrev pub role_taken : Piece → Values → Values
role_taken (piece.Lower Premise s) vs = role_value false ∷ vs
role_taken (piece.Lower Conjecture s) vs = role_value true ∷ vs
role_taken p vs = vs

-- a formula by its role
abbrev pub stated : Bool → Formula → Content
stated true f = contents.Conjecture f
stated false f = contents.Premise f

-- a statement joins the file
abbrev pub ending_taken : Values → Values
ending_taken (type_value t ∷ word_value w ∷ name_value s ∷ file_value ss ∷ vs) = file_value (ss ++ record { name = s; content = contents.Declaration w t } ∷ []) ∷ vs
ending_taken (formula_value f ∷ role_value c ∷ name_value s ∷ file_value ss ∷ vs) = file_value (ss ++ record { name = s; content = stated c f } ∷ []) ∷ vs
ending_taken vs = vs

-- the word that gets a type
abbrev pub typing_taken : Piece → Values → Values
typing_taken (piece.Lower k s) vs = word_value (word.Lower s) ∷ vs
typing_taken (piece.Quoted s) vs = word_value (word.Quoted s) ∷ vs
typing_taken p vs = vs

-- the sort that a token is
abbrev pub with_sort : (Sort → Values) → Values → Piece → Values
with_sort f vs (piece.Lower k s) = f (sort.Word (word.Lower s))
with_sort f vs (piece.Quoted s) = f (sort.Word (word.Quoted s))
with_sort f vs (piece.Basic b) = f (sort.Basic b)
with_sort f vs piece.Truth = f sort.Truth
with_sort f vs p = vs

-- the sort of an argument that a token is
abbrev pub argument_sort : Piece → Option Sort
argument_sort (piece.Lower k s) = Some (sort.Word (word.Lower s))
argument_sort (piece.Quoted s) = Some (sort.Word (word.Quoted s))
argument_sort (piece.Basic b) = Some (sort.Basic b)
argument_sort p = None

-- the first sort of a type
abbrev pub type_taken : Piece → Values → Values
type_taken piece.OfTypes vs = type_value types.OfTypes ∷ vs
type_taken piece.Truth vs = type_value (types.Function [] sort.Truth) ∷ vs
type_taken p vs = with_sort (λ s. sorts_value (s ∷ []) ∷ vs) vs p

-- the sort of a result ends a type
abbrev pub result_taken : Sort → Values → Values
result_taken s (sorts_value args ∷ vs) = type_value (types.Function args s) ∷ vs
result_taken s vs = vs

-- a further sort of an argument
abbrev pub argument_taken : Sort → Values → Values
argument_taken s (sorts_value args ∷ vs) = sorts_value (args ++ s ∷ []) ∷ vs
argument_taken s vs = vs

-- a sort alone is a constant's type
abbrev pub result_left : Values → Values
result_left (sorts_value (s ∷ []) ∷ vs) = type_value (types.Function [] s) ∷ vs
result_left vs = vs

-- the head of a term that a token is
abbrev pub term_head : Piece → Option Head
term_head (piece.Lower k s) = Some (heads.Word (word.Lower s))
term_head (piece.Quoted s) = Some (heads.Word (word.Quoted s))
term_head (piece.Operation o s) = Some (heads.Operation o s)
term_head p = None

-- a variable, a numeral or a head
abbrev pub term_taken : Piece → Values → Values
term_taken (piece.Upper s) vs = term_value (terms.Variable s) ∷ vs
term_taken (piece.Numeral m) vs = term_value (terms.Numeral m) ∷ vs
term_taken (piece.Lower k s) vs = head_value (heads.Word (word.Lower s)) [] ∷ vs
term_taken (piece.Quoted s) vs = head_value (heads.Word (word.Quoted s)) [] ∷ vs
term_taken (piece.Operation o s) vs = head_value (heads.Operation o s) [] ∷ vs
term_taken p vs = vs

-- what a unit begins with
abbrev pub unit_taken : Piece → Values → Values
unit_taken (piece.Quantifier q) vs = binders_value [] ∷ vs
unit_taken (piece.Constant b) vs = formula_value (formulas.Constant b) ∷ vs
unit_taken p vs = term_taken p vs

-- a head, with what was read of its arguments, is a term
abbrev pub arguments_left : Values → Values
arguments_left (head_value h ts ∷ vs) = term_value (terms.Apply h ts) ∷ vs
arguments_left vs = vs

-- an argument is read, and by the bracket the whole term
abbrev pub more_terms_taken : Piece → Values → Values
more_terms_taken (piece.Sign CloseRound) (term_value t ∷ head_value h ts ∷ vs) = term_value (terms.Apply h (ts ++ t ∷ [])) ∷ vs
more_terms_taken p (term_value t ∷ head_value h ts ∷ vs) = head_value h (ts ++ t ∷ []) ∷ vs
more_terms_taken p vs = vs

-- a term alone is a formula
abbrev pub second_left : Values → Values
second_left (term_value t ∷ vs) = formula_value (formulas.Atom t) ∷ vs
second_left vs = vs

-- two terms are one
abbrev pub after_relation_left : Relation → Values → Values
after_relation_left r (term_value u ∷ term_value t ∷ vs) = formula_value (formulas.Relation r t u) ∷ vs
after_relation_left r vs = vs

-- the name of a bound variable
abbrev pub binder_taken : Piece → Values → Values
binder_taken (piece.Upper s) vs = binder_value s ∷ vs
binder_taken p vs = vs

-- a bound variable with its sort, or without one
abbrev pub bind : Option Sort → Values → Values
bind o (binder_value s ∷ binders_value bs ∷ vs) = binders_value (bs ++ record { name = s; sort = o } ∷ []) ∷ vs
bind o vs = vs

-- a variable without a sort, where no `:` comes
abbrev pub after_binder_taken : Piece → Values → Values
after_binder_taken (piece.Sign Colon) vs = vs
after_binder_taken p vs = bind None vs

-- a unit is denied
abbrev pub ended_left : Values → Values
ended_left (formula_value f ∷ vs) = formula_value (formulas.Not f) ∷ vs
ended_left vs = vs

-- a unit is quantified
abbrev pub bound_left : Quantifier → Values → Values
bound_left q (formula_value f ∷ binders_value bs ∷ vs) = formula_value (formulas.Quantified q bs f) ∷ vs
bound_left q vs = vs

-- a formula is the first member of more
abbrev pub tail_taken : Piece → Values → Values
tail_taken (piece.Junction j) (formula_value f ∷ vs) = members_value (f ∷ []) ∷ vs
tail_taken p vs = vs

-- two formulas are linked
abbrev pub after_link_left : Link → Values → Values
after_link_left l (formula_value g ∷ formula_value f ∷ vs) = formula_value (formulas.Linked l f g) ∷ vs
after_link_left l vs = vs

-- a further member
abbrev pub chain_taken : Values → Values
chain_taken (formula_value g ∷ members_value fs ∷ vs) = members_value (fs ++ g ∷ []) ∷ vs
chain_taken vs = vs

-- the last member
abbrev pub chain_left : Junction → Values → Values
chain_left j (formula_value g ∷ members_value fs ∷ vs) = formula_value (formulas.Joined j (fs ++ g ∷ [])) ∷ vs
chain_left j vs = vs

-- what a symbol makes of the values when it takes a token
abbrev pub taken : Symbol → Piece → Values → Values
taken a_name p vs = name_taken p vs
taken (role again) p vs = role_taken p vs
taken ending p vs = ending_taken vs
taken typing p vs = typing_taken p vs
taken type p vs = type_taken p vs
taken in_type p vs = type_taken p vs
taken result_sort p vs = with_sort (λ s. result_taken s vs) vs p
taken argument p vs = with_sort (λ s. argument_taken s vs) vs p
taken unit p vs = unit_taken p vs
taken tail p vs = tail_taken p vs
taken (chain j) p vs = chain_taken vs
taken binder p vs = binder_taken p vs
taken after_binder p vs = after_binder_taken p vs
taken binder_sort p vs = with_sort (λ s. bind (Some s) vs) vs p
taken term p vs = term_taken p vs
taken more_terms p vs = more_terms_taken p vs
taken s p vs = vs

-- and when it is left
abbrev pub left : Symbol → Values → Values
left result vs = result_left vs
left ended vs = ended_left vs
left (bound q) vs = bound_left q vs
left (chain j) vs = chain_left j vs
left (after_link l) vs = after_link_left l vs
left arguments vs = arguments_left vs
left second vs = second_left vs
left (after_relation r) vs = after_relation_left r vs
left s vs = vs

-- by whether the symbol is left
abbrev pub act_by : Answer → Values → Values → Values
act_by leaves here behind = behind
act_by a here behind = here

-- what a token makes of the values
abbrev pub act : Stack → Piece → Values → Values
act [] p vs = vs
act (s ∷ k) p vs = act_by (answer s p) (taken s p vs) (act k p (left s vs))

-- ---- all tokens

-- what reading all tokens gives
pub data Outcome : Type 0 where
  whole : Values → Outcome
  fault : Found → Outcome

-- a fault in front of these tokens
abbrev pub fault_at : FaultName → List Piece → Outcome
fault_at name ps = fault (record { name = name; left = length ps })

-- at the end: all was read, or the text ends too early
abbrev pub end_of : Stack → Values → Outcome
end_of [] vs = fault_at n.Syntax []
end_of (statements again ∷ k) vs = whole vs
end_of (s ∷ k) vs = cond (is_optional s) (end_of k (left s vs)) (fault_at n.Syntax [])

-- In front of these tokens a `$o`, in a bracket or not, is the sort of an argument.
abbrev pub argument_follows : Bool → List Piece → Bool
argument_follows false (piece.Sign Arrow ∷ ps) = true
argument_follows true (piece.Sign Arrow ∷ ps) = true
argument_follows true (piece.Sign Star ∷ ps) = true
argument_follows true (piece.Sign CloseRound ∷ piece.Sign Arrow ∷ ps) = true
argument_follows _ ps = false

-- the fault of a token that is taken in so many levels, in front of these
abbrev pub checked : Check → ℕ → List Piece → Option FaultName
checked free level ps = None
checked deepens level ps = cond (nat_lt max_levels level) (Some n.TooDeep) None
checked unbracketed level ps = cond (argument_follows false ps) (Some n.Unsupported) None
checked bracketed level ps = cond (argument_follows true ps) (Some n.Unsupported) None

-- a fault of the first of these tokens, or what the rest gives
abbrev pub or_fault : List Piece → Option FaultName → Outcome → Outcome
or_fault ps (Some name) rest = fault_at name ps
or_fault ps None rest = rest

-- what a step and the tokens behind it give
abbrev pub go_on : (Stack → Outcome) → Piece → List Piece → Step → Outcome
go_on rest p ps (moved check level k) = or_fault (p ∷ ps) (checked check level ps) (rest k)
go_on rest p ps (stuck name) = fault_at name (p ∷ ps)

-- what the tokens give, where this must come and that was read
abbrev pub go : Stack → Values → List Piece → Outcome
go k vs [] = end_of k vs
go k vs (p ∷ ps) = go_on (λ next. go next (act k p vs) ps) p ps (step k p)

-- what the tokens of a text give
abbrev pub read : List Piece → Outcome
read ps = go (statements false ∷ []) (file_value [] ∷ []) ps

-- ---- what a function that reads gives

-- Wherever they stand, the tokens are read: of what must come, `front` came, and `behind` is left; `given` was read before, and `got` is after.
abbrev pub Reads : Stack → Values → Stack → Values → ℕ → List Piece → List Piece → Type 0
Reads front given behind got level tokens rest = (k : Stack) (vs : Values) → levels k ≡ level → go (front ++ k) (given ++ vs) tokens ≡ go (behind ++ k) (got ++ vs) rest

-- a fault stops it there wherever it stands
abbrev pub StopsAt : Stack → Values → ℕ → List Piece → Found → Type 0
StopsAt front given level tokens f = (k : Stack) (vs : Values) → levels k ≡ level → go (front ++ k) (given ++ vs) tokens ≡ fault f

-- Memory ran out, or a fault stops it there wherever it stands.
abbrev pub Stops : Stack → Values → ℕ → List Piece → Stop → Type 0
Stops front given level tokens stops.Memory = Unit {0}
Stops front given level tokens (stops.Fault f) = StopsAt front given level tokens f

-- the name of the first token, or of the end
abbrev pub first_name : (Piece → FaultName) → List Piece → FaultName
first_name name_of [] = n.Syntax
first_name name_of (p ∷ ps) = name_of p

-- a fault at the first token
abbrev pub refusal : (Piece → FaultName) → List Piece → Stop
refusal name_of ps = stops.Fault (record { name = first_name name_of ps; left = length ps })

-- another token than this sign is at the front, or none
abbrev pub IsOther : Sign → List Piece → Type 0
IsOther s [] = Unit {0}
IsOther s (piece.Sign t ∷ ps) = t ≡ s → ⊥
IsOther s (p ∷ ps) = Unit {0}

-- neither a connective, a quantifier nor a bracket is at the front, and no constant
abbrev pub begins_atom : List Piece → Bool
begins_atom (piece.Sign Not ∷ ps) = false
begins_atom (piece.Sign OpenRound ∷ ps) = false
begins_atom (piece.Quantifier q ∷ ps) = false
begins_atom (piece.Constant b ∷ ps) = false
begins_atom ps = true

-- no further member of a conjunction or a disjunction is at the front
abbrev pub EndsChain : Junction → List Piece → Type 0
EndsChain j [] = Unit {0}
EndsChain j (piece.Junction i ∷ ps) = i ≡ j → ⊥
EndsChain j (p ∷ ps) = Unit {0}

-- what is on top when a statement's content was read
abbrev pub content_values : Content → Values → Values
content_values (contents.Declaration w t) vs = type_value t ∷ word_value w ∷ vs
content_values (contents.Premise f) vs = formula_value f ∷ role_value false ∷ vs
content_values (contents.Conjecture f) vs = formula_value f ∷ role_value true ∷ vs

-- whether a conjecture came, behind a statement
abbrev pub again_behind : Bool → Content → Bool
again_behind again (contents.Declaration w t) = again
again_behind again (contents.Premise f) = again
again_behind again (contents.Conjecture f) = true

-- Memory ran out, or this is what reading gives.
abbrev pub Faults : List Piece → Stop → Type 0
Faults ps stops.Memory = Unit {0}
Faults ps (stops.Fault f) = read ps ≡ fault f
