-- Which tokens open a level, and that `$int` is taken where `$o` is.
use Rattle.std.proofs.Common.{◌≡◌, Bool, false, [], ◌∷◌, refl}
use Rattle.tff_grammar.specs.declared.pieces.Sign.{Sign}
use Rattle.tff_grammar.specs.declared.pieces.Sign.TheVariants.{OpenRound, CloseRound, OpenSquare, CloseSquare, Comma, Dot, Colon, Not, Star, Arrow}
use Rattle.tff_grammar.specs.declared.pieces.Junction.{Junction}
use Rattle.tff_grammar.specs.declared.pieces.Junction.TheVariants.{And, Or}
use Rattle.tff_grammar.specs.declared.pieces.BasicSort.TheVariants.{Int}
use Rattle.tff_grammar.specs.declared.pieces.Keyword.TheVariants.{Tff, Declaration, Conjecture, Premise}
use Rattle.tff_grammar.specs.declared.pieces.Piece.{Piece}
use Rattle.tff_grammar.specs.declared.pieces.Piece.TheVariants as piece
use Rattle.tff_grammar.specs.FirstFault.{IsOpener}
use Rattle.tff_grammar.specs.Machine.{Symbol, Stack, Answer, takes, opens, looks, leaves, refuses, free, deepens, unbracketed, bracketed, moved, stuck, Step, step, step_by}
use Rattle.tff_grammar.specs.Machine as m

-- what a symbol does with this token alone
abbrev pub Shape : Piece → Answer → Type 0
Shape p (opens front) = IsOpener p
Shape p (looks free front) = ⊥
Shape p (looks deepens front) = ⊥
Shape p (looks check front) = p ≡ piece.Truth
Shape p a = Unit {0}

sign_shape : (s t : Sign) → Shape (piece.Sign t) (m.at_sign s (piece.Sign t))
sign_shape OpenRound OpenRound = tt
sign_shape CloseRound CloseRound = tt
sign_shape OpenSquare OpenSquare = tt
sign_shape CloseSquare CloseSquare = tt
sign_shape Comma Comma = tt
sign_shape Dot Dot = tt
sign_shape Colon Colon = tt
sign_shape Not Not = tt
sign_shape Star Star = tt
sign_shape Arrow Arrow = tt
sign_shape s t = tt

a_sign_shape : (s : Sign) (p : Piece) → Shape p (m.answer (m.sign s) p)
a_sign_shape s (piece.Sign t) = sign_shape s t
a_sign_shape s p = tt

close_shape : (p : Piece) → Shape p (m.answer m.close p)
close_shape (piece.Sign CloseRound) = tt
close_shape p = tt

role_shape : (again : Bool) (p : Piece) → Shape p (m.answer (m.role again) p)
role_shape again (piece.Lower Declaration s) = tt
role_shape again (piece.Lower Premise s) = tt
role_shape false (piece.Lower Conjecture s) = tt
role_shape again p = tt

notes_shape : (p : Piece) → Shape p (m.answer m.notes p)
notes_shape (piece.Sign CloseRound) = tt
notes_shape (piece.Sign CloseSquare) = tt
notes_shape piece.WideNumeral = tt
notes_shape p = tt

no_arrow_shape : (p : Piece) → Shape p (m.answer m.no_arrow p)
no_arrow_shape (piece.Sign Arrow) = tt
no_arrow_shape p = tt

chain_shape : (j : Junction) (p : Piece) → Shape p (m.answer (m.chain j) p)
chain_shape And (piece.Junction And) = tt
chain_shape Or (piece.Junction Or) = tt
chain_shape j p = tt

statements_shape : (again : Bool) (p : Piece) → Shape p (m.answer (m.statements again) p)
statements_shape again (piece.Lower Tff s) = tt
statements_shape again p = tt

a_name_shape : (p : Piece) → Shape p (m.answer m.a_name p)
a_name_shape (piece.Lower w s) = tt
a_name_shape (piece.Quoted s) = tt
a_name_shape (piece.Numeral x) = tt
a_name_shape p = tt

ending_shape : (p : Piece) → Shape p (m.answer m.ending p)
ending_shape (piece.Sign Comma) = tt
ending_shape (piece.Sign CloseRound) = tt
ending_shape p = tt

typing_shape : (p : Piece) → Shape p (m.answer m.typing p)
typing_shape (piece.Lower w s) = tt
typing_shape (piece.Quoted s) = tt
typing_shape (piece.Sign OpenRound) = tt
typing_shape p = tt

type_shape : (p : Piece) → Shape p (m.answer m.type p)
type_shape piece.OfTypes = tt
type_shape (piece.Sign OpenRound) = tt
type_shape piece.Truth = refl
type_shape (piece.Lower w s) = tt
type_shape (piece.Quoted s) = tt
type_shape (piece.Basic b) = tt
type_shape p = tt

result_shape : (p : Piece) → Shape p (m.answer m.result p)
result_shape (piece.Sign Arrow) = tt
result_shape p = tt

result_sort_shape : (p : Piece) → Shape p (m.answer m.result_sort p)
result_sort_shape piece.Truth = tt
result_sort_shape (piece.Lower w s) = tt
result_sort_shape (piece.Quoted s) = tt
result_sort_shape (piece.Basic b) = tt
result_sort_shape p = tt

in_type_shape : (p : Piece) → Shape p (m.answer m.in_type p)
in_type_shape piece.OfTypes = tt
in_type_shape (piece.Sign OpenRound) = tt
in_type_shape piece.Truth = refl
in_type_shape (piece.Lower w s) = tt
in_type_shape (piece.Quoted s) = tt
in_type_shape (piece.Basic b) = tt
in_type_shape p = tt

in_args_shape : (p : Piece) → Shape p (m.answer m.in_args p)
in_args_shape (piece.Sign CloseRound) = tt
in_args_shape (piece.Sign Star) = tt
in_args_shape (piece.Sign Arrow) = tt
in_args_shape p = tt

argument_shape : (p : Piece) → Shape p (m.answer m.argument p)
argument_shape (piece.Lower w s) = tt
argument_shape (piece.Quoted s) = tt
argument_shape (piece.Basic b) = tt
argument_shape p = tt

more_args_shape : (p : Piece) → Shape p (m.answer m.more_args p)
more_args_shape (piece.Sign Star) = tt
more_args_shape (piece.Sign CloseRound) = tt
more_args_shape p = tt

arrow_result_shape : (p : Piece) → Shape p (m.answer m.arrow_result p)
arrow_result_shape (piece.Sign Arrow) = tt
arrow_result_shape p = tt

unit_shape : (p : Piece) → Shape p (m.answer m.unit p)
unit_shape (piece.Sign Not) = tt
unit_shape (piece.Quantifier q) = tt
unit_shape (piece.Sign OpenRound) = tt
unit_shape (piece.Constant b) = tt
unit_shape (piece.Upper s) = tt
unit_shape (piece.Numeral x) = tt
unit_shape (piece.Lower w s) = tt
unit_shape (piece.Quoted s) = tt
unit_shape (piece.Operation o s) = tt
unit_shape p = tt

tail_shape : (p : Piece) → Shape p (m.answer m.tail p)
tail_shape (piece.Link l) = tt
tail_shape (piece.Junction j) = tt
tail_shape p = tt

binder_shape : (p : Piece) → Shape p (m.answer m.binder p)
binder_shape (piece.Upper s) = tt
binder_shape p = tt

after_binder_shape : (p : Piece) → Shape p (m.answer m.after_binder p)
after_binder_shape (piece.Sign Colon) = tt
after_binder_shape (piece.Sign Comma) = tt
after_binder_shape (piece.Sign CloseSquare) = tt
after_binder_shape p = tt

binder_sort_shape : (p : Piece) → Shape p (m.answer m.binder_sort p)
binder_sort_shape (piece.Lower w s) = tt
binder_sort_shape (piece.Quoted s) = tt
binder_sort_shape (piece.Basic b) = tt
binder_sort_shape p = tt

more_binders_shape : (p : Piece) → Shape p (m.answer m.more_binders p)
more_binders_shape (piece.Sign Comma) = tt
more_binders_shape (piece.Sign CloseSquare) = tt
more_binders_shape p = tt

term_shape : (p : Piece) → Shape p (m.answer m.term p)
term_shape (piece.Upper s) = tt
term_shape (piece.Numeral x) = tt
term_shape (piece.Lower w s) = tt
term_shape (piece.Quoted s) = tt
term_shape (piece.Operation o s) = tt
term_shape p = tt

arguments_shape : (p : Piece) → Shape p (m.answer m.arguments p)
arguments_shape (piece.Sign OpenRound) = tt
arguments_shape p = tt

more_terms_shape : (p : Piece) → Shape p (m.answer m.more_terms p)
more_terms_shape (piece.Sign Comma) = tt
more_terms_shape (piece.Sign CloseRound) = tt
more_terms_shape p = tt

second_shape : (p : Piece) → Shape p (m.answer m.second p)
second_shape (piece.Relation r) = tt
second_shape p = tt

answer_shape : (s : Symbol) (p : Piece) → Shape p (m.answer s p)
answer_shape (m.statements again) p = statements_shape again p
answer_shape (m.sign s) p = a_sign_shape s p
answer_shape m.a_name p = a_name_shape p
answer_shape (m.role again) p = role_shape again p
answer_shape m.ending p = ending_shape p
answer_shape m.notes p = notes_shape p
answer_shape m.close p = close_shape p
answer_shape m.typing p = typing_shape p
answer_shape m.type p = type_shape p
answer_shape m.result p = result_shape p
answer_shape m.result_sort p = result_sort_shape p
answer_shape m.in_type p = in_type_shape p
answer_shape m.in_args p = in_args_shape p
answer_shape m.argument p = argument_shape p
answer_shape m.more_args p = more_args_shape p
answer_shape m.arrow_result p = arrow_result_shape p
answer_shape m.no_arrow p = no_arrow_shape p
answer_shape m.unit p = unit_shape p
answer_shape m.ended p = tt
answer_shape (m.bound q) p = tt
answer_shape m.tail p = tail_shape p
answer_shape (m.chain j) p = chain_shape j p
answer_shape (m.after_link l) p = tt
answer_shape m.binder p = binder_shape p
answer_shape m.after_binder p = after_binder_shape p
answer_shape m.binder_sort p = binder_sort_shape p
answer_shape m.more_binders p = more_binders_shape p
answer_shape m.term p = term_shape p
answer_shape m.arguments p = arguments_shape p
answer_shape m.more_terms p = more_terms_shape p
answer_shape m.second p = second_shape p
answer_shape (m.after_relation r) p = tt

-- ---- one step

abbrev pub StepShape : Piece → Step → Type 0
StepShape p (moved free x next) = Unit {0}
StepShape p (moved deepens x next) = IsOpener p
StepShape p (moved check x next) = p ≡ piece.Truth
StepShape p (stuck name) = Unit {0}

shape_by : (s : Symbol) (k : Stack) (p : Piece) (a : Answer) → Shape p a → StepShape p (step k p) → StepShape p (step_by a s p k (step k p))
shape_by s k p (takes front) g h = tt
shape_by s k p (opens front) g h = g
shape_by s k p (looks free front) g h = absurd g
shape_by s k p (looks deepens front) g h = absurd g
shape_by s k p (looks unbracketed front) g h = g
shape_by s k p (looks bracketed front) g h = g
shape_by s k p leaves g h = h
shape_by s k p refuses g h = tt

pub step_shape : (k : Stack) (p : Piece) → StepShape p (step k p)
step_shape [] p = tt
step_shape (s ∷ k) p = shape_by s k p (m.answer s p) (answer_shape s p) (step_shape k p)

-- what `$int` does where `$o` does this
abbrev pub TruthInt : Step → Step → Type 0
TruthInt (moved free x next) st = st ≡ moved free x next
TruthInt (moved deepens x next) st = ⊥
TruthInt (moved unbracketed x next) st = (inner : Stack) × (next ≡ m.no_arrow ∷ inner) × (st ≡ moved free x (m.result ∷ inner))
TruthInt (moved bracketed x next) st = (inner : Stack) × (next ≡ m.close ∷ m.no_arrow ∷ inner) × (st ≡ moved free x (m.in_args ∷ inner))
TruthInt (stuck name) st = Unit {0}

pub truth_int : (k : Stack) → TruthInt (step k piece.Truth) (step k (piece.Basic Int))
truth_int [] = tt
truth_int (m.notes ∷ k) = refl
truth_int (m.type ∷ k) = (k, refl, refl)
truth_int (m.in_type ∷ k) = (k, refl, refl)
truth_int (m.result_sort ∷ k) = refl
truth_int (m.result ∷ k) = truth_int k
truth_int (m.no_arrow ∷ k) = truth_int k
truth_int (m.ended ∷ k) = truth_int k
truth_int (m.bound q ∷ k) = truth_int k
truth_int (m.tail ∷ k) = truth_int k
truth_int (m.chain j ∷ k) = truth_int k
truth_int (m.after_link l ∷ k) = truth_int k
truth_int (m.arguments ∷ k) = truth_int k
truth_int (m.second ∷ k) = truth_int k
truth_int (m.after_relation r ∷ k) = truth_int k
truth_int (s ∷ k) = tt
