-- What the table keeps: levels are counted, a `$o` that may be an argument lets no `>` follow, and only what need not come is left.
use Rattle.std.proofs.Common.{◌≡◌, ℕ, ◌+◌, ◌≤◌, Bool, true, false, [], ◌∷◌, ◌++◌, refl, arith}
use Rattle.tff_grammar.specs.declared.pieces.Sign.{Sign}
use Rattle.tff_grammar.specs.declared.pieces.Sign.TheVariants.{OpenRound, CloseRound, OpenSquare, CloseSquare, Comma, Dot, Colon, Not, Star, Arrow}
use Rattle.tff_grammar.specs.declared.pieces.Junction.{Junction}
use Rattle.tff_grammar.specs.declared.pieces.Junction.TheVariants.{And, Or}
use Rattle.tff_grammar.specs.declared.pieces.Keyword.TheVariants.{Tff, Declaration, Conjecture, Premise}
use Rattle.tff_grammar.specs.declared.pieces.Piece.{Piece}
use Rattle.tff_grammar.specs.declared.pieces.Piece.TheVariants as piece
use Rattle.tff_grammar.specs.Machine.{Symbol, Stack, levels, Answer, takes, opens, looks, leaves, refuses, free, deepens, unbracketed, bracketed, moved, stuck, Step, step, step_by, is_optional}
use Rattle.tff_grammar.specs.Machine as m

-- an answer of this symbol is in order
abbrev pub Good : Symbol → Answer → Type 0
Good s (takes front) = (k : Stack) → levels (front ++ k) ≤ levels (s ∷ k)
Good s (opens front) = (k : Stack) → levels (front ++ k) ≤ levels (s ∷ k) + 1
Good s (looks free front) = ⊥
Good s (looks deepens front) = ⊥
Good s (looks unbracketed front) = (front ≡ m.no_arrow ∷ []) × ((k : Stack) → levels (front ++ k) ≤ levels (s ∷ k))
Good s (looks bracketed front) = (front ≡ m.close ∷ m.no_arrow ∷ []) × ((k : Stack) → levels (front ++ k) ≤ levels (s ∷ k))
Good s leaves = (is_optional s ≡ true) × ((k : Stack) → levels k ≤ levels (s ∷ k))
Good s refuses = Unit {0}

sign_good : (s t : Sign) → Good (m.sign s) (m.at_sign s (piece.Sign t))
sign_good OpenRound OpenRound = λ k. omega arith
sign_good CloseRound CloseRound = λ k. omega arith
sign_good OpenSquare OpenSquare = λ k. omega arith
sign_good CloseSquare CloseSquare = λ k. omega arith
sign_good Comma Comma = λ k. omega arith
sign_good Dot Dot = λ k. omega arith
sign_good Colon Colon = λ k. omega arith
sign_good Not Not = λ k. omega arith
sign_good Star Star = λ k. omega arith
sign_good Arrow Arrow = λ k. omega arith
sign_good s t = tt

a_sign_good : (s : Sign) (p : Piece) → Good (m.sign s) (m.answer (m.sign s) p)
a_sign_good s (piece.Sign t) = sign_good s t
a_sign_good s p = tt

close_good : (p : Piece) → Good m.close (m.answer m.close p)
close_good (piece.Sign CloseRound) = λ k. omega arith
close_good p = tt

role_good : (again : Bool) (p : Piece) → Good (m.role again) (m.answer (m.role again) p)
role_good again (piece.Lower Declaration s) = λ k. omega arith
role_good again (piece.Lower Premise s) = λ k. omega arith
role_good false (piece.Lower Conjecture s) = λ k. omega arith
role_good again p = tt

notes_good : (p : Piece) → Good m.notes (m.answer m.notes p)
notes_good (piece.Sign CloseRound) = (refl, λ k. omega arith)
notes_good (piece.Sign CloseSquare) = (refl, λ k. omega arith)
notes_good piece.WideNumeral = tt
notes_good p = λ k. omega arith

no_arrow_good : (p : Piece) → Good m.no_arrow (m.answer m.no_arrow p)
no_arrow_good (piece.Sign Arrow) = tt
no_arrow_good p = (refl, λ k. omega arith)

chain_good : (j : Junction) (p : Piece) → Good (m.chain j) (m.answer (m.chain j) p)
chain_good And (piece.Junction And) = λ k. omega arith
chain_good Or (piece.Junction Or) = λ k. omega arith
chain_good j p = (refl, λ k. omega arith)

statements_good : (again : Bool) (p : Piece) → Good (m.statements again) (m.answer (m.statements again) p)
statements_good again (piece.Lower Tff s) = λ k. omega arith
statements_good again p = tt

a_name_good : (p : Piece) → Good m.a_name (m.answer m.a_name p)
a_name_good (piece.Lower w s) = λ k. omega arith
a_name_good (piece.Quoted s) = λ k. omega arith
a_name_good (piece.Numeral x) = λ k. omega arith
a_name_good p = tt

ending_good : (p : Piece) → Good m.ending (m.answer m.ending p)
ending_good (piece.Sign Comma) = λ k. omega arith
ending_good (piece.Sign CloseRound) = λ k. omega arith
ending_good p = tt

typing_good : (p : Piece) → Good m.typing (m.answer m.typing p)
typing_good (piece.Lower w s) = λ k. omega arith
typing_good (piece.Quoted s) = λ k. omega arith
typing_good (piece.Sign OpenRound) = λ k. omega arith
typing_good p = tt

type_good : (p : Piece) → Good m.type (m.answer m.type p)
type_good piece.OfTypes = λ k. omega arith
type_good (piece.Sign OpenRound) = λ k. omega arith
type_good piece.Truth = (refl, λ k. omega arith)
type_good (piece.Lower w s) = λ k. omega arith
type_good (piece.Quoted s) = λ k. omega arith
type_good (piece.Basic b) = λ k. omega arith
type_good p = tt

result_good : (p : Piece) → Good m.result (m.answer m.result p)
result_good (piece.Sign Arrow) = λ k. omega arith
result_good p = (refl, λ k. omega arith)

result_sort_good : (p : Piece) → Good m.result_sort (m.answer m.result_sort p)
result_sort_good piece.Truth = λ k. omega arith
result_sort_good (piece.Lower w s) = λ k. omega arith
result_sort_good (piece.Quoted s) = λ k. omega arith
result_sort_good (piece.Basic b) = λ k. omega arith
result_sort_good p = tt

in_type_good : (p : Piece) → Good m.in_type (m.answer m.in_type p)
in_type_good piece.OfTypes = λ k. omega arith
in_type_good (piece.Sign OpenRound) = λ k. omega arith
in_type_good piece.Truth = (refl, λ k. omega arith)
in_type_good (piece.Lower w s) = λ k. omega arith
in_type_good (piece.Quoted s) = λ k. omega arith
in_type_good (piece.Basic b) = λ k. omega arith
in_type_good p = tt

in_args_good : (p : Piece) → Good m.in_args (m.answer m.in_args p)
in_args_good (piece.Sign CloseRound) = λ k. omega arith
in_args_good (piece.Sign Star) = λ k. omega arith
in_args_good (piece.Sign Arrow) = λ k. omega arith
in_args_good p = tt

argument_good : (p : Piece) → Good m.argument (m.answer m.argument p)
argument_good (piece.Lower w s) = λ k. omega arith
argument_good (piece.Quoted s) = λ k. omega arith
argument_good (piece.Basic b) = λ k. omega arith
argument_good p = tt

more_args_good : (p : Piece) → Good m.more_args (m.answer m.more_args p)
more_args_good (piece.Sign Star) = λ k. omega arith
more_args_good (piece.Sign CloseRound) = λ k. omega arith
more_args_good p = tt

arrow_result_good : (p : Piece) → Good m.arrow_result (m.answer m.arrow_result p)
arrow_result_good (piece.Sign Arrow) = λ k. omega arith
arrow_result_good p = tt

unit_good : (p : Piece) → Good m.unit (m.answer m.unit p)
unit_good (piece.Sign Not) = λ k. omega arith
unit_good (piece.Quantifier q) = λ k. omega arith
unit_good (piece.Sign OpenRound) = λ k. omega arith
unit_good (piece.Constant b) = λ k. omega arith
unit_good (piece.Upper s) = λ k. omega arith
unit_good (piece.Numeral x) = λ k. omega arith
unit_good (piece.Lower w s) = λ k. omega arith
unit_good (piece.Quoted s) = λ k. omega arith
unit_good (piece.Operation o s) = λ k. omega arith
unit_good p = tt

tail_good : (p : Piece) → Good m.tail (m.answer m.tail p)
tail_good (piece.Link l) = λ k. omega arith
tail_good (piece.Junction j) = λ k. omega arith
tail_good p = (refl, λ k. omega arith)

binder_good : (p : Piece) → Good m.binder (m.answer m.binder p)
binder_good (piece.Upper s) = λ k. omega arith
binder_good p = tt

after_binder_good : (p : Piece) → Good m.after_binder (m.answer m.after_binder p)
after_binder_good (piece.Sign Colon) = λ k. omega arith
after_binder_good (piece.Sign Comma) = λ k. omega arith
after_binder_good (piece.Sign CloseSquare) = λ k. omega arith
after_binder_good p = tt

binder_sort_good : (p : Piece) → Good m.binder_sort (m.answer m.binder_sort p)
binder_sort_good (piece.Lower w s) = λ k. omega arith
binder_sort_good (piece.Quoted s) = λ k. omega arith
binder_sort_good (piece.Basic b) = λ k. omega arith
binder_sort_good p = tt

more_binders_good : (p : Piece) → Good m.more_binders (m.answer m.more_binders p)
more_binders_good (piece.Sign Comma) = λ k. omega arith
more_binders_good (piece.Sign CloseSquare) = λ k. omega arith
more_binders_good p = tt

term_good : (p : Piece) → Good m.term (m.answer m.term p)
term_good (piece.Upper s) = λ k. omega arith
term_good (piece.Numeral x) = λ k. omega arith
term_good (piece.Lower w s) = λ k. omega arith
term_good (piece.Quoted s) = λ k. omega arith
term_good (piece.Operation o s) = λ k. omega arith
term_good p = tt

arguments_good : (p : Piece) → Good m.arguments (m.answer m.arguments p)
arguments_good (piece.Sign OpenRound) = λ k. omega arith
arguments_good p = (refl, λ k. omega arith)

more_terms_good : (p : Piece) → Good m.more_terms (m.answer m.more_terms p)
more_terms_good (piece.Sign Comma) = λ k. omega arith
more_terms_good (piece.Sign CloseRound) = λ k. omega arith
more_terms_good p = tt

second_good : (p : Piece) → Good m.second (m.answer m.second p)
second_good (piece.Relation r) = λ k. omega arith
second_good p = (refl, λ k. omega arith)

pub answer_good : (s : Symbol) (p : Piece) → Good s (m.answer s p)
answer_good (m.statements again) p = statements_good again p
answer_good (m.sign s) p = a_sign_good s p
answer_good m.a_name p = a_name_good p
answer_good (m.role again) p = role_good again p
answer_good m.ending p = ending_good p
answer_good m.notes p = notes_good p
answer_good m.close p = close_good p
answer_good m.typing p = typing_good p
answer_good m.type p = type_good p
answer_good m.result p = result_good p
answer_good m.result_sort p = result_sort_good p
answer_good m.in_type p = in_type_good p
answer_good m.in_args p = in_args_good p
answer_good m.argument p = argument_good p
answer_good m.more_args p = more_args_good p
answer_good m.arrow_result p = arrow_result_good p
answer_good m.no_arrow p = no_arrow_good p
answer_good m.unit p = unit_good p
answer_good m.ended p = (refl, λ k. omega arith)
answer_good (m.bound q) p = (refl, λ k. omega arith)
answer_good m.tail p = tail_good p
answer_good (m.chain j) p = chain_good j p
answer_good (m.after_link l) p = (refl, λ k. omega arith)
answer_good m.binder p = binder_good p
answer_good m.after_binder p = after_binder_good p
answer_good m.binder_sort p = binder_sort_good p
answer_good m.more_binders p = more_binders_good p
answer_good m.term p = term_good p
answer_good m.arguments p = arguments_good p
answer_good m.more_terms p = more_terms_good p
answer_good m.second p = second_good p
answer_good (m.after_relation r) p = (refl, λ k. omega arith)

-- ---- one step

-- the least levels in which a token may stand, when all that need not come is left
abbrev pub floor_by : Bool → ℕ → ℕ → ℕ
floor_by true below here = below
floor_by false below here = here

abbrev pub floor : Stack → ℕ
floor [] = 0
floor (s ∷ k) = floor_by (is_optional s) (floor k) (levels (s ∷ k))

-- what a step keeps: the levels behind it are at most those of the token, and these at most one above those before it
abbrev pub Kept : Stack → Step → Type 0
Kept k (moved free n next) = (levels next ≤ n) × (n ≤ levels k) × (floor k ≤ n)
Kept k (moved deepens n next) = (levels next ≤ n) × (n ≤ levels k + 1) × (floor k ≤ n)
Kept k (moved unbracketed n next) = (levels next ≤ n) × (n ≤ levels k) × (floor k ≤ n) × (inner : Stack) × (next ≡ m.no_arrow ∷ inner)
Kept k (moved bracketed n next) = (levels next ≤ n) × (n ≤ levels k) × (floor k ≤ n) × (inner : Stack) × (next ≡ m.close ∷ m.no_arrow ∷ inner)
Kept k (stuck name) = Unit {0}

-- what need not come raises the levels or leaves them
pub optional_low : (s : Symbol) (k : Stack) → is_optional s ≡ true → levels k ≤ levels (s ∷ k)
optional_low (m.statements again) k h = absurd cc
optional_low (m.role again) k h = absurd cc
optional_low s k h = omega arith

pub floor_low : (k : Stack) → floor k ≤ levels k
floor_low [] = omega arith
floor_low (s ∷ k) = by (floor_low k) (is_optional s) refl
  where
    by : floor k ≤ levels k → (b : Bool) → is_optional s ≡ b → floor_by b (floor k) (levels (s ∷ k)) ≤ levels (s ∷ k)
    by a true e = let c = optional_low s k e in omega (arith, a, c)
    by a false e = omega arith

floor_here : (s : Symbol) (k : Stack) → floor (s ∷ k) ≤ levels (s ∷ k)
floor_here s k = floor_low (s ∷ k)

pub floor_left : (s : Symbol) (k : Stack) → is_optional s ≡ true → floor (s ∷ k) ≡ floor k
floor_left s k e = rw e refl

-- what a step below it keeps, above what is left
keep_left : (s : Symbol) (k : Stack) (st : Step) → floor (s ∷ k) ≡ floor k → levels k ≤ levels (s ∷ k) → Kept k st → Kept (s ∷ k) st
keep_left s k (moved free n next) f l (a, b, c) = (a, omega (arith, b, l), omega (arith, f, c))
keep_left s k (moved deepens n next) f l (a, b, c) = (a, omega (arith, b, l), omega (arith, f, c))
keep_left s k (moved unbracketed n next) f l (a, b, c, x, d) = (a, omega (arith, b, l), omega (arith, f, c), x, d)
keep_left s k (moved bracketed n next) f l (a, b, c, x, d) = (a, omega (arith, b, l), omega (arith, f, c), x, d)
keep_left s k (stuck name) f l h = tt

keep_by : (s : Symbol) (k : Stack) (p : Piece) (a : Answer) → Good s a → Kept k (step k p) → Kept (s ∷ k) (step_by a s p k (step k p))
keep_by s k p (takes front) g h = (g k, omega arith, floor_here s k)
keep_by s k p (opens front) g h = let f = floor_here s k in (g k, omega arith, omega (arith, f))
keep_by s k p (looks free front) g h = absurd g
keep_by s k p (looks deepens front) g h = absurd g
keep_by s k p (looks unbracketed front) (e, g) h = (g k, omega arith, floor_here s k, k, rw e refl)
keep_by s k p (looks bracketed front) (e, g) h = (g k, omega arith, floor_here s k, k, rw e refl)
keep_by s k p leaves (e, g) h = keep_left s k (step k p) (floor_left s k e) (g k) h
keep_by s k p refuses g h = tt

pub step_keeps : (k : Stack) (p : Piece) → Kept k (step k p)
step_keeps [] p = tt
step_keeps (s ∷ k) p = keep_by s k p (m.answer s p) (answer_good s p) (step_keeps k p)
