-- Each stack can be completed to a text, and what completes the stack behind a token completes, with the token, the one before it.
use Rattle.std.proofs.Common.{◌≡◌, ℕ, ◌+◌, Bool, false, IsTrue, List, [], ◌∷◌, Option, Some, None, refl, ap, ◌∙◌}
use Rattle.tff_grammar.specs.declared.pieces.Sign.{Sign}
use Rattle.tff_grammar.specs.declared.pieces.Sign.TheVariants.{OpenRound, CloseRound, OpenSquare, CloseSquare, Comma, Dot, Colon, Not, Star, Arrow}
use Rattle.tff_grammar.specs.declared.pieces.Junction.{Junction}
use Rattle.tff_grammar.specs.declared.pieces.Junction.TheVariants.{And, Or}
use Rattle.tff_grammar.specs.declared.pieces.Keyword.TheVariants.{Tff, Declaration, Conjecture, Premise}
use Rattle.tff_grammar.specs.declared.pieces.Piece.{Piece}
use Rattle.tff_grammar.specs.declared.pieces.Piece.TheVariants as piece
use Rattle.tff_grammar.specs.Grammar.{lower, quoted, NameTree, named, numbered, ArgumentTree, declared, basic, SortTree, of_argument, truth, one, several, TypeTree, of_types, constant, function, bracketed, TypingTree, typing, enclosed, head_word, head_operation, TermTree, variable, numeral, apply, ArgumentsTree, no_arguments, arguments, TermsTree, no_terms, next_term, SecondTree, no_second, second, VariableTree, UnitTree, negated, quantified, grouped, truth_value, atomic, formula, TailTree, alone, linked, joined, UnitsTree, no_units, next_unit, NotesTree, no_notes, token, round, square, EndingTree, bare, annotated, BodyTree, declaration, premise, conjecture, FileTree, next_statement, one_from, has_one}
use Rattle.tff_grammar.specs.Text.{Leveled, Leveleds, word_text, argument_text, sort_text, more_arguments, type_text, typing_text, term_text, arguments_text, terms_text, second_text, variable_sort_text, variable_text, more_variables, binder_text, unit_text, tail_text, units_text, notes_text, ending_text, body_text, file_text}
use Rattle.tff_grammar.specs.Machine.{Symbol, Stack, raise, levels, Step, moved, stuck, step}
use Rattle.tff_grammar.specs.Machine as m

-- ---- what is still to come for a symbol

-- a type and the bracket behind it, or sorts, the bracket and a result
pub data InTree : Type 0 where
  type_in : TypeTree → InTree
  several_in : ArgumentTree → List ArgumentTree → SortTree → InTree

-- the same behind a first sort
pub data ArgsRest : Type 0 where
  closes : Option SortTree → ArgsRest
  more_in : ArgumentTree → List ArgumentTree → SortTree → ArgsRest
  arrow_in : SortTree → ArgsRest

abbrev pub Rest : Symbol → Type 0
Rest (m.statements again) = (file : FileTree) × IsTrue (has_one file again)
Rest (m.sign s) = Unit {0}
Rest m.a_name = NameTree
Rest (m.role again) = (b : BodyTree) × EndingTree × (file : FileTree) × IsTrue (one_from again b (has_one file))
Rest m.ending = EndingTree
Rest m.notes = NotesTree
Rest m.close = Unit {0}
Rest m.typing = TypingTree
Rest m.type = TypeTree
Rest m.result = Option SortTree
Rest m.result_sort = SortTree
Rest m.in_type = InTree
Rest m.in_args = ArgsRest
Rest m.argument = ArgumentTree × List ArgumentTree × SortTree
Rest m.more_args = List ArgumentTree × SortTree
Rest m.arrow_result = SortTree
Rest m.no_arrow = Unit {0}
Rest m.unit = UnitTree
Rest m.ended = Unit {0}
Rest (m.bound q) = Unit {0}
Rest m.tail = TailTree
Rest (m.chain j) = UnitsTree
Rest (m.after_link l) = Unit {0}
Rest m.binder = VariableTree × List VariableTree
Rest m.after_binder = Option ArgumentTree × List VariableTree
Rest m.binder_sort = ArgumentTree × List VariableTree
Rest m.more_binders = List VariableTree
Rest m.term = TermTree
Rest m.arguments = ArgumentsTree
Rest m.more_terms = TermsTree
Rest m.second = SecondTree
Rest (m.after_relation r) = Unit {0}

abbrev result_text : ℕ → Option SortTree → Leveleds → Leveleds
result_text n None ts = ts
result_text n (Some s) ts = (piece.Sign Arrow, n) ∷ sort_text n s ts

-- further arguments, the bracket and the result
abbrev arrow_text : ℕ → List ArgumentTree → SortTree → Leveleds → Leveleds
arrow_text n more s ts = more_arguments (n + 1) more ((piece.Sign CloseRound, n + 1) ∷ (piece.Sign Arrow, n) ∷ sort_text n s ts)

abbrev in_text : ℕ → InTree → Leveleds → Leveleds
in_text n (type_in t) ts = type_text (n + 1) t ((piece.Sign CloseRound, n + 1) ∷ ts)
in_text n (several_in a more s) ts = argument_text (n + 1) a (arrow_text n more s ts)

abbrev args_rest_text : ℕ → ArgsRest → Leveleds → Leveleds
args_rest_text n (closes o) ts = (piece.Sign CloseRound, n + 1) ∷ result_text n o ts
args_rest_text n (more_in a more s) ts = (piece.Sign Star, n + 1) ∷ argument_text (n + 1) a (arrow_text n more s ts)
args_rest_text n (arrow_in s) ts = (piece.Sign Arrow, n + 1) ∷ sort_text (n + 1) s ((piece.Sign CloseRound, n + 1) ∷ ts)

abbrev name_at : ℕ → NameTree → Leveleds → Leveleds
name_at n (named w) ts = word_text n w ts
name_at n (numbered x) ts = (piece.Numeral x, n) ∷ ts

abbrev ending_at : ℕ → EndingTree → Leveleds → Leveleds
ending_at n bare ts = (piece.Sign CloseRound, n) ∷ (piece.Sign Dot, n) ∷ ts
ending_at n (annotated notes) ts = (piece.Sign Comma, n) ∷ notes_text n notes ((piece.Sign CloseRound, n) ∷ (piece.Sign Dot, n) ∷ ts)

-- further variables and the bracket
abbrev binders_text : ℕ → List VariableTree → Leveleds → Leveleds
binders_text n more ts = more_variables n more ((piece.Sign CloseSquare, n) ∷ ts)

-- its tokens, where n levels are open below it, in front of others
abbrev rest_text : (s : Symbol) → ℕ → Rest s → Leveleds → Leveleds
rest_text (m.statements again) n r ts = file_text r.0
rest_text (m.sign s) n r ts = (piece.Sign s, n) ∷ ts
rest_text m.a_name n r ts = name_at n r ts
rest_text (m.role again) n r ts = body_text r.0 (ending_text r.1 (file_text r.2))
rest_text m.ending n r ts = ending_at n r ts
rest_text m.notes n r ts = notes_text n r ts
rest_text m.close n r ts = (piece.Sign CloseRound, n + 1) ∷ ts
rest_text m.typing n r ts = typing_text n r ts
rest_text m.type n r ts = type_text n r ts
rest_text m.result n r ts = result_text n r ts
rest_text m.result_sort n r ts = sort_text n r ts
rest_text m.in_type n r ts = in_text n r ts
rest_text m.in_args n r ts = args_rest_text n r ts
rest_text m.argument n r ts = argument_text (n + 1) r.0 (arrow_text n r.1 r.2 ts)
rest_text m.more_args n r ts = arrow_text n r.0 r.1 ts
rest_text m.arrow_result n r ts = (piece.Sign Arrow, n) ∷ sort_text n r ts
rest_text m.no_arrow n r ts = ts
rest_text m.unit n r ts = unit_text n r ts
rest_text m.ended n r ts = ts
rest_text (m.bound q) n r ts = ts
rest_text m.tail n r ts = tail_text n r ts
rest_text (m.chain j) n r ts = units_text n j r ts
rest_text (m.after_link l) n r ts = ts
rest_text m.binder n r ts = binder_text n r.0 r.1 ts
rest_text m.after_binder n r ts = variable_sort_text n r.0 (binders_text n r.1 ts)
rest_text m.binder_sort n r ts = argument_text n r.0 (binders_text n r.1 ts)
rest_text m.more_binders n r ts = binders_text n r ts
rest_text m.term n r ts = term_text n r ts
rest_text m.arguments n r ts = arguments_text n r ts
rest_text m.more_terms n r ts = terms_text (n + 1) r ((piece.Sign CloseRound, n + 1) ∷ ts)
rest_text m.second n r ts = second_text n r ts
rest_text (m.after_relation r) n x ts = ts

abbrev pub Rests : Stack → Type 0
Rests [] = Unit {0}
Rests (s ∷ k) = Rest s × Rests k

abbrev pub text : (k : Stack) → Rests k → Leveleds
text [] rs = []
text (s ∷ k) rs = rest_text s (levels k) rs.0 (text k rs.1)

-- ---- one step back

abbrev pub IfMoved : (ℕ → Stack → Type 0) → Step → Type 0
IfMoved holds (moved look n k) = holds n k
IfMoved holds (stuck name) = Unit {0}

abbrev pub Before : Stack → Piece → ℕ → Stack → Type 0
Before k p n next = (behind : Rests next) → (rs : Rests k) × (text k rs ≡ (p, n) ∷ text next behind)

-- what is left has no tokens
leave : (s : Symbol) (e : Rest s) (k : Stack) (p : Piece) → ((ts : Leveleds) → rest_text s (levels k) e ts ≡ ts) → (st : Step) → IfMoved (Before k p) st → IfMoved (Before (s ∷ k) p) st
leave s e k p empty (moved look n next) h = λ behind. let (rs, is) = h behind in ((e, rs), empty (text k rs) ∙ is)
leave s e k p empty (stuck name) h = tt

abbrev Takes : Symbol → Stack → Piece → Type 0
Takes s k p = IfMoved (Before (s ∷ k) p) (step (s ∷ k) p)

abbrev Leaves : Stack → Piece → Type 0
Leaves k p = IfMoved (Before k p) (step k p)

statements_take : (again : Bool) (k : Stack) (p : Piece) → Takes (m.statements again) k p
statements_take again k (piece.Lower Tff s) = λ (_, (x, (_, ((b, e, file, h), rs)))). (((next_statement (record { word = s; name = x; body = b; ending = e }) file, h), rs), name_is x _)
  where
    name_is : (x : NameTree) (ts : Leveleds) → (piece.Lower Tff s, 0) ∷ (piece.Sign OpenRound, 0) ∷ Rattle.tff_grammar.specs.Text.name_text x ts ≡ (piece.Lower Tff s, 0) ∷ (piece.Sign OpenRound, 0) ∷ name_at 0 x ts
    name_is (named w) ts = refl
    name_is (numbered y) ts = refl
statements_take again k p = tt

sign_takes : (s t : Sign) (k : Stack) → Takes (m.sign s) k (piece.Sign t)
sign_takes OpenRound OpenRound k = λ rs. ((tt, rs), refl)
sign_takes CloseRound CloseRound k = λ rs. ((tt, rs), refl)
sign_takes OpenSquare OpenSquare k = λ rs. ((tt, rs), refl)
sign_takes CloseSquare CloseSquare k = λ rs. ((tt, rs), refl)
sign_takes Comma Comma k = λ rs. ((tt, rs), refl)
sign_takes Dot Dot k = λ rs. ((tt, rs), refl)
sign_takes Colon Colon k = λ rs. ((tt, rs), refl)
sign_takes Not Not k = λ rs. ((tt, rs), refl)
sign_takes Star Star k = λ rs. ((tt, rs), refl)
sign_takes Arrow Arrow k = λ rs. ((tt, rs), refl)
sign_takes s t k = tt

a_sign_takes : (s : Sign) (k : Stack) (p : Piece) → Takes (m.sign s) k p
a_sign_takes s k (piece.Sign t) = sign_takes s t k
a_sign_takes s k p = tt

name_takes : (k : Stack) (p : Piece) → Takes m.a_name k p
name_takes k (piece.Lower w s) = λ rs. ((named (lower w s), rs), refl)
name_takes k (piece.Quoted s) = λ rs. ((named (quoted s), rs), refl)
name_takes k (piece.Numeral x) = λ rs. ((numbered x, rs), refl)
name_takes k p = tt

ending_is : (e : EndingTree) (ts : Leveleds) → ending_text e ts ≡ ending_at 0 e ts
ending_is bare ts = refl
ending_is (annotated notes) ts = refl

role_takes : (again : Bool) (k : Stack) (p : Piece) → Takes (m.role again) k p
role_takes again k (piece.Lower Declaration s) = λ (_, (w, (e, ((file, h), rs)))). (
  ((declaration s w, e, file, h), rs),
  ap (λ ts. (piece.Lower Declaration s, 0) ∷ (piece.Sign Comma, 0) ∷ typing_text 0 w ts) (ending_is e (file_text file)),
)
role_takes again k (piece.Lower Premise s) = λ (_, (u, (tail, (e, ((file, h), rs))))). (
  ((premise s (formula u tail), e, file, h), rs),
  ap (λ ts. (piece.Lower Premise s, 0) ∷ (piece.Sign Comma, 0) ∷ unit_text 0 u (tail_text 0 tail ts)) (ending_is e (file_text file)),
)
role_takes false k (piece.Lower Conjecture s) = λ (_, (u, (tail, (e, ((file, h), rs))))). (
  ((conjecture s (formula u tail), e, file, h), rs),
  ap (λ ts. (piece.Lower Conjecture s, 0) ∷ (piece.Sign Comma, 0) ∷ unit_text 0 u (tail_text 0 tail ts)) (ending_is e (file_text file)),
)
role_takes again k p = tt

ending_takes : (k : Stack) (p : Piece) → Takes m.ending k p
ending_takes k (piece.Sign Comma) = λ (notes, (_, (_, rs))). ((annotated notes, rs), refl)
ending_takes k (piece.Sign CloseRound) = λ (_, rs). ((bare, rs), refl)
ending_takes k p = tt

notes_take : (k : Stack) (p : Piece) → Leaves k p → Takes m.notes k p
notes_take k (piece.Sign OpenRound) h = λ (inner, (_, (more, rs))). ((round inner more, rs), refl)
notes_take k (piece.Sign OpenSquare) h = λ (inner, (_, (more, rs))). ((square inner more, rs), refl)
notes_take k (piece.Sign CloseRound) h = leave m.notes no_notes k _ (λ ts. refl) _ h
notes_take k (piece.Sign CloseSquare) h = leave m.notes no_notes k _ (λ ts. refl) _ h
notes_take k piece.WideNumeral h = tt
notes_take k p h = λ (more, rs). ((token p refl more, rs), refl)

close_takes : (k : Stack) (p : Piece) → Takes m.close k p
close_takes k (piece.Sign CloseRound) = λ rs. ((tt, rs), refl)
close_takes k p = tt

typing_takes : (k : Stack) (p : Piece) → Takes m.typing k p
typing_takes k (piece.Lower w s) = λ (_, (t, rs)). ((typing (lower w s) t, rs), refl)
typing_takes k (piece.Quoted s) = λ (_, (t, rs)). ((typing (quoted s) t, rs), refl)
typing_takes k (piece.Sign OpenRound) = λ (w, (_, rs)). ((enclosed w, rs), refl)
typing_takes k p = tt

-- ---- types

bracket : (i : InTree) → (t : TypeTree) × ((n : ℕ) (ts : Leveleds) → type_text n t ts ≡ (piece.Sign OpenRound, n + 1) ∷ in_text n i ts)
bracket (type_in t) = (bracketed t, λ n ts. refl)
bracket (several_in a more s) = (function (several a more) s, λ n ts. refl)

with_result : (a : ArgumentTree) (o : Option SortTree) → (t : TypeTree) × ((n : ℕ) (ts : Leveleds) → type_text n t ts ≡ argument_text n a (result_text n o ts))
with_result a None = (constant (of_argument a), λ n ts. refl)
with_result a (Some s) = (function (one a) s, λ n ts. refl)

with_args : (a : ArgumentTree) (r : ArgsRest) → (i : InTree) × ((n : ℕ) (ts : Leveleds) → in_text n i ts ≡ argument_text (n + 1) a (args_rest_text n r ts))
with_args a (closes None) = (type_in (constant (of_argument a)), λ n ts. refl)
with_args a (closes (Some s)) = (several_in a [] s, λ n ts. refl)
with_args a (more_in b more s) = (several_in a (b ∷ more) s, λ n ts. refl)
with_args a (arrow_in s) = (type_in (function (one a) s), λ n ts. refl)

type_takes : (k : Stack) (p : Piece) → Takes m.type k p
type_takes k piece.OfTypes = λ rs. ((of_types, rs), refl)
type_takes k (piece.Sign OpenRound) = λ (i, rs). let (t, e) = bracket i in ((t, rs), e _ _)
type_takes k piece.Truth = λ (_, rs). ((constant truth, rs), refl)
type_takes k (piece.Lower w s) = λ (o, rs). let (t, e) = with_result (declared (lower w s)) o in ((t, rs), e _ _)
type_takes k (piece.Quoted s) = λ (o, rs). let (t, e) = with_result (declared (quoted s)) o in ((t, rs), e _ _)
type_takes k (piece.Basic b) = λ (o, rs). let (t, e) = with_result (basic b) o in ((t, rs), e _ _)
type_takes k p = tt

result_takes : (k : Stack) (p : Piece) → Leaves k p → Takes m.result k p
result_takes k (piece.Sign Arrow) h = λ (s, rs). ((Some s, rs), refl)
result_takes k p h = leave m.result None k _ (λ ts. refl) _ h

result_sort_takes : (k : Stack) (p : Piece) → Takes m.result_sort k p
result_sort_takes k piece.Truth = λ rs. ((truth, rs), refl)
result_sort_takes k (piece.Lower w s) = λ rs. ((of_argument (declared (lower w s)), rs), refl)
result_sort_takes k (piece.Quoted s) = λ rs. ((of_argument (declared (quoted s)), rs), refl)
result_sort_takes k (piece.Basic b) = λ rs. ((of_argument (basic b), rs), refl)
result_sort_takes k p = tt

in_type_takes : (k : Stack) (p : Piece) → Takes m.in_type k p
in_type_takes k piece.OfTypes = λ (_, rs). ((type_in of_types, rs), refl)
in_type_takes k (piece.Sign OpenRound) = λ (i, (_, rs)). let (t, e) = bracket i in ((type_in t, rs), e _ _)
in_type_takes k piece.Truth = λ (_, (_, rs)). ((type_in (constant truth), rs), refl)
in_type_takes k (piece.Lower w s) = λ (r, rs). let (i, e) = with_args (declared (lower w s)) r in ((i, rs), e _ _)
in_type_takes k (piece.Quoted s) = λ (r, rs). let (i, e) = with_args (declared (quoted s)) r in ((i, rs), e _ _)
in_type_takes k (piece.Basic b) = λ (r, rs). let (i, e) = with_args (basic b) r in ((i, rs), e _ _)
in_type_takes k p = tt

in_args_take : (k : Stack) (p : Piece) → Takes m.in_args k p
in_args_take k (piece.Sign CloseRound) = λ (o, rs). ((closes o, rs), refl)
in_args_take k (piece.Sign Star) = λ ((a, more, s), rs). ((more_in a more s, rs), refl)
in_args_take k (piece.Sign Arrow) = λ (s, (_, rs)). ((arrow_in s, rs), refl)
in_args_take k p = tt

argument_takes : (k : Stack) (p : Piece) → Takes m.argument k p
argument_takes k (piece.Lower w s) = λ ((more, r), rs). (((declared (lower w s), more, r), rs), refl)
argument_takes k (piece.Quoted s) = λ ((more, r), rs). (((declared (quoted s), more, r), rs), refl)
argument_takes k (piece.Basic b) = λ ((more, r), rs). (((basic b, more, r), rs), refl)
argument_takes k p = tt

more_args_take : (k : Stack) (p : Piece) → Takes m.more_args k p
more_args_take k (piece.Sign Star) = λ ((a, more, s), rs). (((a ∷ more, s), rs), refl)
more_args_take k (piece.Sign CloseRound) = λ (s, rs). ((([], s), rs), refl)
more_args_take k p = tt

arrow_result_takes : (k : Stack) (p : Piece) → Takes m.arrow_result k p
arrow_result_takes k (piece.Sign Arrow) = λ (s, rs). ((s, rs), refl)
arrow_result_takes k p = tt

no_arrow_takes : (k : Stack) (p : Piece) → Leaves k p → Takes m.no_arrow k p
no_arrow_takes k (piece.Sign Arrow) h = tt
no_arrow_takes k p h = leave m.no_arrow tt k _ (λ ts. refl) _ h

-- ---- terms and formulas

unit_takes : (k : Stack) (p : Piece) → Takes m.unit k p
unit_takes k (piece.Sign Not) = λ (u, (_, rs)). ((negated u, rs), refl)
unit_takes k (piece.Quantifier q) = λ (_, ((v, more), (_, (u, (_, rs))))). ((quantified q v more u, rs), refl)
unit_takes k (piece.Sign OpenRound) = λ (u, (tail, (_, rs))). ((grouped (formula u tail), rs), refl)
unit_takes k (piece.Constant b) = λ rs. ((truth_value b, rs), refl)
unit_takes k (piece.Upper s) = λ (x, rs). ((atomic (variable s) x, rs), refl)
unit_takes k (piece.Numeral y) = λ (x, rs). ((atomic (numeral y) x, rs), refl)
unit_takes k (piece.Lower w s) = λ (args, (x, rs)). ((atomic (apply (head_word (lower w s)) args) x, rs), refl)
unit_takes k (piece.Quoted s) = λ (args, (x, rs)). ((atomic (apply (head_word (quoted s)) args) x, rs), refl)
unit_takes k (piece.Operation o s) = λ (args, (x, rs)). ((atomic (apply (head_operation o s) args) x, rs), refl)
unit_takes k p = tt

tail_takes : (k : Stack) (p : Piece) → Leaves k p → Takes m.tail k p
tail_takes k (piece.Link l) h = λ (u, (_, rs)). ((linked l u, rs), refl)
tail_takes k (piece.Junction j) h = λ (u, (more, rs)). ((joined j u more, rs), refl)
tail_takes k p h = leave m.tail alone k _ (λ ts. refl) _ h

chain_takes : (j : Junction) (k : Stack) (p : Piece) → Leaves k p → Takes (m.chain j) k p
chain_takes And k (piece.Junction And) h = λ (u, (more, rs)). ((next_unit u more, rs), refl)
chain_takes Or k (piece.Junction Or) h = λ (u, (more, rs)). ((next_unit u more, rs), refl)
chain_takes j k p h = leave (m.chain j) no_units k _ (λ ts. refl) _ h

binder_takes : (k : Stack) (p : Piece) → Takes m.binder k p
binder_takes k (piece.Upper s) = λ ((o, more), rs). (((record { name = s; sort = o }, more), rs), refl)
binder_takes k p = tt

after_binder_takes : (k : Stack) (p : Piece) → Takes m.after_binder k p
after_binder_takes k (piece.Sign Colon) = λ ((a, more), rs). (((Some a, more), rs), refl)
after_binder_takes k (piece.Sign Comma) = λ ((v, more), rs). (((None, v ∷ more), rs), refl)
after_binder_takes k (piece.Sign CloseSquare) = λ rs. (((None, []), rs), refl)
after_binder_takes k p = tt

binder_sort_takes : (k : Stack) (p : Piece) → Takes m.binder_sort k p
binder_sort_takes k (piece.Lower w s) = λ (more, rs). (((declared (lower w s), more), rs), refl)
binder_sort_takes k (piece.Quoted s) = λ (more, rs). (((declared (quoted s), more), rs), refl)
binder_sort_takes k (piece.Basic b) = λ (more, rs). (((basic b, more), rs), refl)
binder_sort_takes k p = tt

more_binders_take : (k : Stack) (p : Piece) → Takes m.more_binders k p
more_binders_take k (piece.Sign Comma) = λ ((v, more), rs). ((v ∷ more, rs), refl)
more_binders_take k (piece.Sign CloseSquare) = λ rs. (([], rs), refl)
more_binders_take k p = tt

term_takes : (k : Stack) (p : Piece) → Takes m.term k p
term_takes k (piece.Upper s) = λ rs. ((variable s, rs), refl)
term_takes k (piece.Numeral y) = λ rs. ((numeral y, rs), refl)
term_takes k (piece.Lower w s) = λ (args, rs). ((apply (head_word (lower w s)) args, rs), refl)
term_takes k (piece.Quoted s) = λ (args, rs). ((apply (head_word (quoted s)) args, rs), refl)
term_takes k (piece.Operation o s) = λ (args, rs). ((apply (head_operation o s) args, rs), refl)
term_takes k p = tt

arguments_take : (k : Stack) (p : Piece) → Leaves k p → Takes m.arguments k p
arguments_take k (piece.Sign OpenRound) h = λ (t, (more, rs)). ((arguments t more, rs), refl)
arguments_take k p h = leave m.arguments no_arguments k _ (λ ts. refl) _ h

more_terms_take : (k : Stack) (p : Piece) → Takes m.more_terms k p
more_terms_take k (piece.Sign Comma) = λ (t, (more, rs)). ((next_term t more, rs), refl)
more_terms_take k (piece.Sign CloseRound) = λ rs. ((no_terms, rs), refl)
more_terms_take k p = tt

second_takes : (k : Stack) (p : Piece) → Leaves k p → Takes m.second k p
second_takes k (piece.Relation r) h = λ (t, (_, rs)). ((second r t, rs), refl)
second_takes k p h = leave m.second no_second k _ (λ ts. refl) _ h

pub step_completes : (k : Stack) (p : Piece) → IfMoved (Before k p) (step k p)
step_completes [] p = tt
step_completes (m.statements again ∷ k) p = statements_take again k p
step_completes (m.sign s ∷ k) p = a_sign_takes s k p
step_completes (m.a_name ∷ k) p = name_takes k p
step_completes (m.role again ∷ k) p = role_takes again k p
step_completes (m.ending ∷ k) p = ending_takes k p
step_completes (m.notes ∷ k) p = notes_take k p (step_completes k p)
step_completes (m.close ∷ k) p = close_takes k p
step_completes (m.typing ∷ k) p = typing_takes k p
step_completes (m.type ∷ k) p = type_takes k p
step_completes (m.result ∷ k) p = result_takes k p (step_completes k p)
step_completes (m.result_sort ∷ k) p = result_sort_takes k p
step_completes (m.in_type ∷ k) p = in_type_takes k p
step_completes (m.in_args ∷ k) p = in_args_take k p
step_completes (m.argument ∷ k) p = argument_takes k p
step_completes (m.more_args ∷ k) p = more_args_take k p
step_completes (m.arrow_result ∷ k) p = arrow_result_takes k p
step_completes (m.no_arrow ∷ k) p = no_arrow_takes k p (step_completes k p)
step_completes (m.unit ∷ k) p = unit_takes k p
step_completes (m.ended ∷ k) p = leave m.ended tt k p (λ ts. refl) _ (step_completes k p)
step_completes (m.bound q ∷ k) p = leave (m.bound q) tt k p (λ ts. refl) _ (step_completes k p)
step_completes (m.tail ∷ k) p = tail_takes k p (step_completes k p)
step_completes (m.chain j ∷ k) p = chain_takes j k p (step_completes k p)
step_completes (m.after_link l ∷ k) p = leave (m.after_link l) tt k p (λ ts. refl) _ (step_completes k p)
step_completes (m.binder ∷ k) p = binder_takes k p
step_completes (m.after_binder ∷ k) p = after_binder_takes k p
step_completes (m.binder_sort ∷ k) p = binder_sort_takes k p
step_completes (m.more_binders ∷ k) p = more_binders_take k p
step_completes (m.term ∷ k) p = term_takes k p
step_completes (m.arguments ∷ k) p = arguments_take k p (step_completes k p)
step_completes (m.more_terms ∷ k) p = more_terms_take k p
step_completes (m.second ∷ k) p = second_takes k p (step_completes k p)
step_completes (m.after_relation r ∷ k) p = leave (m.after_relation r) tt k p (λ ts. refl) _ (step_completes k p)
