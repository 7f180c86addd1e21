-- The places in the trees of a text are those of its tokens, in their order.
use Rattle.std.proofs.Common.{◌≡◌, ℕ, ◌+◌, ◌<◌, ◌≤◌, List, [], ◌∷◌, ◌++◌, map, length, flat_map, Option, Some, None, option_map, refl, sym, ap, subst, ◌∙◌, append_assoc, arith, ◌⊎◌, inl, inr, ℤ}
use Rattle.std.specs.Prelude.{if◌then◌else◌}
use Rattle.std.specs.Option.{option_map_or}
use Rattle.std.proofs.lemmas.Bool.{cond_both}
use Rattle.tff_lexer.specs.declared.spans.Token.{Token}
use Rattle.tff_lexer.specs.declared.spans.TokenKind.{TokenKind}
use Rattle.tff_lexer.specs.declared.spans.TokenKind.TheVariants as kind
use Rattle.tff_lexer.specs.Scans.{Scans, SpansAscend}
use Rattle.tff_lexer.specs.Values.{value}
use Rattle.tff_grammar.specs.declared.pieces.Span.{Span}
use Rattle.tff_grammar.specs.declared.pieces.Number.{Number}
use Rattle.tff_grammar.specs.declared.pieces.Sign.{Sign}
use Rattle.tff_grammar.specs.declared.pieces.Sign.TheVariants.{CloseRound, CloseSquare, Comma, Colon, Arrow}
use Rattle.tff_grammar.specs.declared.pieces.Junction.{Junction}
use Rattle.tff_grammar.specs.declared.pieces.Link.{Link}
use Rattle.tff_grammar.specs.declared.pieces.Operation.{Operation}
use Rattle.tff_grammar.specs.declared.pieces.Piece.{Piece}
use Rattle.tff_grammar.specs.declared.pieces.Piece.TheVariants as piece
use Rattle.tff_grammar.specs.declared.trees.Term.{Term}
use Rattle.tff_grammar.specs.declared.trees.Variable.{Variable}
use Rattle.tff_grammar.specs.declared.trees.Formula.{Formula}
use Rattle.tff_grammar.specs.declared.trees.Statement.{Statement}
use Rattle.tff_grammar.specs.Grammar.{WordTree, lower, quoted, NameTree, named, numbered, ArgumentTree, declared, basic, SortTree, of_argument, truth, ArgsTree, one, several, TypeTree, of_types, constant, function, bracketed, TypingTree, typing, enclosed, HeadTree, head_word, head_operation, TermTree, variable, numeral, apply, ArgumentsTree, no_arguments, arguments, TermsTree, no_terms, next_term, SecondTree, no_second, second, VariableTree, UnitTree, negated, quantified, grouped, truth_value, atomic, FormulaTree, formula, TailTree, alone, linked, joined, UnitsTree, no_units, next_unit, NotesTree, no_notes, token, round, square, EndingTree, bare, annotated, BodyTree, declaration, premise, conjecture, StatementTree, FileTree, no_statements, next_statement}
use Rattle.tff_grammar.specs.Text.{Leveleds, word_text, name_text, argument_text, sort_text, more_arguments, args_text, type_text, typing_text, head_text, term_text, arguments_text, terms_text, second_text, variable_sort_text, variable_text, more_variables, binder_text, unit_text, formula_text, tail_text, units_text, notes_text, close_text, ending_text, body_text, statement_text, file_text}
use Rattle.tff_grammar.specs.Meaning.{word_of, name_place, argument_of, sort_of, arguments_of, args_of, type_of, typing_of, head_of, term_of, all_of, terms_of, atom_of, variable_of, variables_of, unit_of, formula_of, with_tail, units_of, body_of, statement_of, file_of}
use Rattle.tff_grammar.specs.FirstFault.{pieces_of}
use Rattle.tff_grammar.specs.Words.{spells, operation_of, operation_piece, dollar_piece, mark_of, link_of, link_piece, mark_piece, other_piece, sign_piece}
use Rattle.tff_grammar.specs.Pieces.{place, bytes_of, IsNumeral, IsPiece, ArePieces}
use Rattle.tff_grammar.specs.Answer.{IsText}
use Rattle.tff_grammar.specs.TreeFolds.{fold-Variable, fold-Numeral, fold-Apply, fold-Constant, fold-Atom, fold-Relation, fold-Not, fold-Quantified, fold-Linked, fold-Joined}
use Rattle.tff_grammar.specs.Order.{PlacesAscend, word_places, sort_places, type_places, head_places, term_places_step, term_places, variable_places, formula_places_step, formula_places, content_places, statement_places, places}

-- the place that a token keeps, if it does
abbrev piece_places : Piece → List Span
piece_places (piece.Lower k s) = s ∷ []
piece_places (piece.Quoted s) = s ∷ []
piece_places (piece.Upper s) = s ∷ []
piece_places (piece.Numeral m) = m.span ∷ []
piece_places (piece.Operation o s) = s ∷ []
piece_places p = []

-- those of tokens with their levels
abbrev written : Leveleds → List Span
written ts = flat_map piece_places (pieces_of ts)

-- ---- words and types

word_written : (n : ℕ) (w : WordTree) (rest : Leveleds) → written (word_text n w rest) ≡ word_places (word_of w) ++ written rest
word_written n (lower k s) rest = refl
word_written n (quoted s) rest = refl

name_written : (x : NameTree) (rest : Leveleds) → written (name_text x rest) ≡ name_place x ∷ written rest
name_written (named (lower k s)) rest = refl
name_written (named (quoted s)) rest = refl
name_written (numbered m) rest = refl

argument_written : (n : ℕ) (a : ArgumentTree) (rest : Leveleds) → written (argument_text n a rest) ≡ sort_places (argument_of a) ++ written rest
argument_written n (declared w) rest = word_written n w rest
argument_written n (basic b) rest = refl

sort_written : (n : ℕ) (s : SortTree) (rest : Leveleds) → written (sort_text n s rest) ≡ sort_places (sort_of s) ++ written rest
sort_written n (of_argument a) rest = argument_written n a rest
sort_written n truth rest = refl

-- two parts, one behind the other
joined_written : (front more rest whole : List Span) → more ≡ whole ++ rest → front ++ more ≡ (front ++ whole) ++ rest
joined_written front more rest whole e = ap (λ (ss : List Span). front ++ ss) e ∙ sym (append_assoc front whole rest)

more_written : (n : ℕ) (more : List ArgumentTree) (rest : Leveleds) → written (more_arguments n more rest) ≡ flat_map sort_places (arguments_of more) ++ written rest
more_written n [] rest = refl
more_written n (a ∷ more) rest =
    let after : Leveleds = more_arguments n more rest in
    argument_written n a after ∙ joined_written (sort_places (argument_of a)) (written after) (written rest) (flat_map sort_places (arguments_of more)) (more_written n more rest)

args_written : (n : ℕ) (args : ArgsTree) (rest : Leveleds) → written (args_text n args rest) ≡ flat_map sort_places (args_of args) ++ written rest
args_written n (one a) rest = argument_written n a rest ∙ joined_written (sort_places (argument_of a)) (written rest) (written rest) [] refl
args_written n (several a more) rest =
    let close : Leveleds = (piece.Sign CloseRound, n + 1) ∷ rest in
    let after : Leveleds = more_arguments (n + 1) more close in
    argument_written (n + 1) a after ∙ joined_written (sort_places (argument_of a)) (written after) (written rest) (flat_map sort_places (arguments_of more)) (more_written (n + 1) more close)

type_written : (n : ℕ) (t : TypeTree) (rest : Leveleds) → written (type_text n t rest) ≡ type_places (type_of t) ++ written rest
type_written n of_types rest = refl
type_written n (constant s) rest = sort_written n s rest
type_written n (function args s) rest =
    let after : Leveleds = (piece.Sign Arrow, n) ∷ sort_text n s rest in
    args_written n args after ∙ joined_written (flat_map sort_places (args_of args)) (written after) (written rest) (sort_places (sort_of s)) (sort_written n s rest)
type_written n (bracketed t) rest = type_written (n + 1) t ((piece.Sign CloseRound, n + 1) ∷ rest)

typing_written : (n : ℕ) (w : TypingTree) (rest : Leveleds) → written (typing_text n w rest) ≡ content_places (typing_of w) ++ written rest
typing_written n (typing w t) rest =
    let after : Leveleds = (piece.Sign Colon, n) ∷ type_text n t rest in
    word_written n w after ∙ joined_written (word_places (word_of w)) (written after) (written rest) (type_places (type_of t)) (type_written n t rest)
typing_written n (enclosed w) rest = typing_written (n + 1) w ((piece.Sign CloseRound, n + 1) ∷ rest)

-- ---- terms

head_written : (n : ℕ) (h : HeadTree) (rest : Leveleds) → written (head_text n h rest) ≡ head_places (head_of h) ++ written rest
head_written n (head_word w) rest = word_written n w rest
head_written n (head_operation o s) rest = refl

-- what a fold gives, in front of the rest
in_front : (rest here there : List Span) → there ≡ here → here ++ rest ≡ there ++ rest
in_front rest here there e = ap (λ (ss : List Span). ss ++ rest) (sym e)

abbrev each_term : List Term → List Span
each_term ts = flat_map (λ ss. ss) (map term_places ts)

mutual
  term_written : (n : ℕ) (t : TermTree) (rest : Leveleds) → written (term_text n t rest) ≡ term_places (term_of t) ++ written rest
  term_written n (variable s) rest = in_front (written rest) (s ∷ []) _ (fold-Variable (List Span) term_places_step s)
  term_written n (numeral m) rest = in_front (written rest) (m.span ∷ []) _ (fold-Numeral (List Span) term_places_step m)
  term_written n (apply h args) rest =
      let after : Leveleds = arguments_text n args rest in
      head_written n h after ∙ joined_written (head_places (head_of h)) (written after) (written rest) (each_term (all_of args)) (arguments_written n args rest)
      ∙ in_front (written rest) (head_places (head_of h) ++ each_term (all_of args)) _ (fold-Apply (List Span) term_places_step (head_of h) (all_of args))

  arguments_written : (n : ℕ) (args : ArgumentsTree) (rest : Leveleds) → written (arguments_text n args rest) ≡ each_term (all_of args) ++ written rest
  arguments_written n no_arguments rest = refl
  arguments_written n (arguments t more) rest =
      let close : Leveleds = (piece.Sign CloseRound, n + 1) ∷ rest in
      let after : Leveleds = terms_text (n + 1) more close in
      term_written (n + 1) t after ∙ joined_written (term_places (term_of t)) (written after) (written rest) (each_term (terms_of more)) (terms_written (n + 1) more close)

  terms_written : (n : ℕ) (more : TermsTree) (rest : Leveleds) → written (terms_text n more rest) ≡ each_term (terms_of more) ++ written rest
  terms_written n no_terms rest = refl
  terms_written n (next_term t more) rest =
      let after : Leveleds = terms_text n more rest in
      term_written n t after ∙ joined_written (term_places (term_of t)) (written after) (written rest) (each_term (terms_of more)) (terms_written n more rest)

second_written : (n : ℕ) (t : Term) (s : SecondTree) (rest : Leveleds) → term_places t ++ written (second_text n s rest) ≡ formula_places (atom_of t s) ++ written rest
second_written n t no_second rest = in_front (written rest) (term_places t) _ (fold-Atom (List Span) formula_places_step t)
second_written n t (second r u) rest =
    joined_written (term_places t) (written (term_text n u rest)) (written rest) (term_places (term_of u)) (term_written n u rest)
    ∙ in_front (written rest) (term_places t ++ term_places (term_of u)) _ (fold-Relation (List Span) formula_places_step r t (term_of u))

-- ---- formulas

variable_sort_written : (n : ℕ) (o : Option ArgumentTree) (rest : Leveleds) → written (variable_sort_text n o rest) ≡ option_map_or sort_places (option_map argument_of o) [] ++ written rest
variable_sort_written n None rest = refl
variable_sort_written n (Some a) rest = argument_written n a rest

variable_written : (n : ℕ) (v : VariableTree) (rest : Leveleds) → written (variable_text n v rest) ≡ variable_places (variable_of v) ++ written rest
variable_written n v rest = ap (λ (ss : List Span). v.name ∷ ss) (variable_sort_written n v.sort rest)

more_variables_written : (n : ℕ) (more : List VariableTree) (rest : Leveleds) → written (more_variables n more rest) ≡ flat_map variable_places (variables_of more) ++ written rest
more_variables_written n [] rest = refl
more_variables_written n (v ∷ more) rest =
    let after : Leveleds = more_variables n more rest in
    variable_written n v after ∙ joined_written (variable_places (variable_of v)) (written after) (written rest) (flat_map variable_places (variables_of more)) (more_variables_written n more rest)

binder_written : (n : ℕ) (v : VariableTree) (more : List VariableTree) (rest : Leveleds)
    → written (binder_text n v more rest) ≡ flat_map variable_places (variable_of v ∷ variables_of more) ++ written rest
binder_written n v more rest =
    let close : Leveleds = (piece.Sign CloseSquare, n) ∷ rest in
    let after : Leveleds = more_variables n more close in
    variable_written n v after ∙ joined_written (variable_places (variable_of v)) (written after) (written rest) (flat_map variable_places (variables_of more)) (more_variables_written n more close)

abbrev each_formula : List Formula → List Span
each_formula gs = flat_map (λ ss. ss) (map formula_places gs)

-- a member, and those behind it
member_written : (n : ℕ) (j : Junction) (u : UnitTree) (more : UnitsTree) (rest : Leveleds)
    → written (unit_text n u (units_text n j more rest)) ≡ formula_places (unit_of u) ++ written (units_text n j more rest)
    → written (units_text n j more rest) ≡ each_formula (units_of more) ++ written rest
    → written (unit_text n u (units_text n j more rest)) ≡ each_formula (unit_of u ∷ units_of more) ++ written rest
member_written n j u more rest e i = e ∙ joined_written (formula_places (unit_of u)) (written (units_text n j more rest)) (written rest) (each_formula (units_of more)) i

mutual
  unit_written : (n : ℕ) (u : UnitTree) (rest : Leveleds) → written (unit_text n u rest) ≡ formula_places (unit_of u) ++ written rest
  unit_written n (negated u) rest = unit_written (n + 1) u rest ∙ in_front (written rest) (formula_places (unit_of u)) _ (fold-Not (List Span) formula_places_step (unit_of u))
  unit_written n (quantified q v more u) rest =
      let vs : List Variable = variable_of v ∷ variables_of more in
      let after : Leveleds = (piece.Sign Colon, n + 1) ∷ unit_text (n + 1) u rest in
      binder_written (n + 1) v more after ∙ joined_written (flat_map variable_places vs) (written after) (written rest) (formula_places (unit_of u)) (unit_written (n + 1) u rest)
      ∙ in_front (written rest) (flat_map variable_places vs ++ formula_places (unit_of u)) _ (fold-Quantified (List Span) formula_places_step q vs (unit_of u))
  unit_written n (grouped g) rest = formula_written (n + 1) g ((piece.Sign CloseRound, n + 1) ∷ rest)
  unit_written n (truth_value b) rest = in_front (written rest) [] _ (fold-Constant (List Span) formula_places_step b)
  unit_written n (atomic t s) rest = term_written n t (second_text n s rest) ∙ second_written n (term_of t) s rest

  formula_written : (n : ℕ) (g : FormulaTree) (rest : Leveleds) → written (formula_text n g rest) ≡ formula_places (formula_of g) ++ written rest
  formula_written n (formula u tail) rest = unit_written n u (tail_text n tail rest) ∙ tail_written n (unit_of u) tail rest

  -- a first member, and what follows it
  tail_written : (n : ℕ) (g : Formula) (tail : TailTree) (rest : Leveleds) → formula_places g ++ written (tail_text n tail rest) ≡ formula_places (with_tail g tail) ++ written rest
  tail_written n g alone rest = refl
  tail_written n g (linked l u) rest =
      joined_written (formula_places g) (written (unit_text n u rest)) (written rest) (formula_places (unit_of u)) (unit_written n u rest)
      ∙ in_front (written rest) (formula_places g ++ formula_places (unit_of u)) _ (fold-Linked (List Span) formula_places_step l g (unit_of u))
  tail_written n g (joined j u more) rest =
      joined_written (formula_places g) (written (unit_text n u (units_text n j more rest))) (written rest) (each_formula (unit_of u ∷ units_of more))
      (member_written n j u more rest (unit_written n u (units_text n j more rest)) (units_written n j more rest))
      ∙ in_front (written rest) (each_formula (g ∷ unit_of u ∷ units_of more)) _ (fold-Joined (List Span) formula_places_step j (g ∷ unit_of u ∷ units_of more))

  units_written : (n : ℕ) (j : Junction) (more : UnitsTree) (rest : Leveleds) → written (units_text n j more rest) ≡ each_formula (units_of more) ++ written rest
  units_written n j no_units rest = refl
  units_written n j (next_unit u more) rest = member_written n j u more rest (unit_written n u (units_text n j more rest)) (units_written n j more rest)

-- ---- places that are left out

places_lower : (total a b : ℕ) (ss : List Span) → b ≤ a → PlacesAscend total a ss → PlacesAscend total b ss
places_lower total a b [] l h = omega (arith, l, h)
places_lower total a b (s ∷ ss) l h = let x = h.0 in (omega (arith, l, x), h.1, h.2)

-- where these places ascend, those do
abbrev Keeps : List Span → List Span → Type 0
Keeps xs ys = (total from : ℕ) → PlacesAscend total from xs → PlacesAscend total from ys

without : (xs ys : List Span) (total from : ℕ) → PlacesAscend total from (xs ++ ys) → PlacesAscend total from ys
without [] ys total from h = h
without (s ∷ xs) ys total from h =
    let x = h.0 in
    let y = h.1 in
    places_lower total s.«end» from ys (omega (arith, x, y)) (without xs ys total s.«end» h.2)

behind : (xs ys zs : List Span) → Keeps ys zs → (total from : ℕ) → PlacesAscend total from (xs ++ ys) → PlacesAscend total from (xs ++ zs)
behind [] ys zs keeps total from h = keeps total from h
behind (s ∷ xs) ys zs keeps total from h = (h.0, h.1, behind xs ys zs keeps total s.«end» h.2)

-- ---- statements

notes_kept : (n : ℕ) (notes : NotesTree) (rest : Leveleds) (total from : ℕ) → PlacesAscend total from (written (notes_text n notes rest)) → PlacesAscend total from (written rest)
notes_kept n no_notes rest total from h = h
notes_kept n (token p is more) rest total from h = notes_kept n more rest total from (without (piece_places p) (written (notes_text n more rest)) total from h)
notes_kept n (round inner more) rest total from h = notes_kept n more rest total from (notes_kept (n + 1) inner _ total from h)
notes_kept n (square inner more) rest total from h = notes_kept n more rest total from (notes_kept n inner _ total from h)

ending_kept : (e : EndingTree) (rest : Leveleds) (total from : ℕ) → PlacesAscend total from (written (ending_text e rest)) → PlacesAscend total from (written rest)
ending_kept bare rest total from h = h
ending_kept (annotated notes) rest total from h = notes_kept 0 notes (close_text rest) total from h

body_kept : (b : BodyTree) (rest : Leveleds) (total from : ℕ) → PlacesAscend total from (written (body_text b rest)) → PlacesAscend total from (content_places (body_of b) ++ written rest)
body_kept (declaration s w) rest total from h = subst (PlacesAscend total from) (typing_written 0 w rest) (without (s ∷ []) (written (typing_text 0 w rest)) total from h)
body_kept (premise s g) rest total from h = subst (PlacesAscend total from) (formula_written 0 g rest) (without (s ∷ []) (written (formula_text 0 g rest)) total from h)
body_kept (conjecture s g) rest total from h = subst (PlacesAscend total from) (formula_written 0 g rest) (without (s ∷ []) (written (formula_text 0 g rest)) total from h)

statement_kept : (s : StatementTree) (rest : Leveleds) (more : List Span) → Keeps (written rest) more → (total from : ℕ) → PlacesAscend total from (written (statement_text s rest))
    → PlacesAscend total from (statement_places (statement_of s) ++ more)
statement_kept s rest more keeps total from h =
    let ending : Leveleds = ending_text s.ending rest in
    let body : Leveleds = body_text s.body ending in
    let named_body : Leveleds = (piece.Sign Comma, 0) ∷ body in
    let said : List Span = content_places (body_of s.body) in
    let name = subst (PlacesAscend total from) (name_written s.name named_body) (without (s.word ∷ []) (written (name_text s.name named_body)) total from h) in
    behind (name_place s.name ∷ []) (written body) (said ++ more)
    (λ t f g. behind said (written ending) more (λ t' f' g'. keeps t' f' (ending_kept s.ending rest t' f' g')) t f (body_kept s.body ending t f g))
    total from name

file_kept : (file : FileTree) (total from : ℕ) → PlacesAscend total from (written (file_text file)) → PlacesAscend total from (places (file_of file))
file_kept no_statements total from h = h
file_kept (next_statement s more) total from h = statement_kept s (file_text more) (places (file_of more)) (λ t f g. file_kept more t f g) total from h

-- ---- tokens

-- a token keeps no place, or this one
abbrev HasPlace : Span → Piece → Type 0
HasPlace s p = (piece_places p ≡ []) ⊎ (piece_places p ≡ s ∷ [])

numeral_place : (v : ℤ) (s : Span) (p : Piece) → IsNumeral v s p → HasPlace s p
numeral_place v s (piece.Numeral m) (fits, e) = inr (ap (λ (x : Number). x.span ∷ []) e)
numeral_place v s piece.WideNumeral h = inl refl
numeral_place v s p h = absurd h

operation_place : (s : Span) (o : Option Operation) → HasPlace s (operation_piece s o)
operation_place s None = inl refl
operation_place s (Some o) = inr refl

dollar_place : (text : List ℕ) (s : Span) → HasPlace s (dollar_piece text s)
dollar_place text s =
    cond_both (spells "$tType" text) _ _ (HasPlace s) (λ e. inl refl)
    (λ e. cond_both (spells "$i" text) _ _ (HasPlace s) (λ e. inl refl)
    (λ e. cond_both (spells "$int" text) _ _ (HasPlace s) (λ e. inl refl)
    (λ e. cond_both (spells "$o" text) _ _ (HasPlace s) (λ e. inl refl)
    (λ e. cond_both (spells "$true" text) _ _ (HasPlace s) (λ e. inl refl)
    (λ e. cond_both (spells "$false" text) _ _ (HasPlace s) (λ e. inl refl) (λ e. operation_place s (operation_of text)))))))

other_place : (text : List ℕ) → piece_places (other_piece text) ≡ []
other_place text =
    cond_both (spells "&" text) _ _ (λ p. piece_places p ≡ []) (λ e. refl)
    (λ e. cond_both (spells "|" text) _ _ (λ p. piece_places p ≡ []) (λ e. refl)
    (λ e. cond_both (spells "!" text) _ _ (λ p. piece_places p ≡ []) (λ e. refl)
    (λ e. cond_both (spells "?" text) _ _ (λ p. piece_places p ≡ []) (λ e. refl)
    (λ e. cond_both (spells "=" text) _ _ (λ p. piece_places p ≡ []) (λ e. refl)
    (λ e. cond_both (spells "!=" text) _ _ (λ p. piece_places p ≡ []) (λ e. refl) (λ e. refl))))))

link_place : (o : Option Link) (other : Piece) → piece_places other ≡ [] → piece_places (link_piece o other) ≡ []
link_place None other e = e
link_place (Some l) other e = refl

mark_place : (o : Option Sign) (other : Piece) → piece_places other ≡ [] → piece_places (mark_piece o other) ≡ []
mark_place None other e = e
mark_place (Some s) other e = refl

sign_place : (text : List ℕ) → piece_places (sign_piece text) ≡ []
sign_place text = mark_place (mark_of text) _ (link_place (link_of text) _ (other_place text))

piece_place : (k : TokenKind) (text : List ℕ) (s : Span) (p : Piece) → IsPiece k text s p → HasPlace s p
piece_place kind.Lower text s p e = inr (ap piece_places e)
piece_place kind.Upper text s p e = inr (ap piece_places e)
piece_place kind.Dollar text s p e = subst (HasPlace s) (sym e) (dollar_place text s)
piece_place kind.Quoted text s p e = inr (ap piece_places e)
piece_place kind.Distinct text s p e = inl (ap piece_places e)
piece_place kind.Numeral text s p h = numeral_place (value text) s p h
piece_place kind.Rational text s p e = inl (ap piece_places e)
piece_place kind.Real text s p e = inl (ap piece_places e)
piece_place kind.Sign text s p e = inl (ap piece_places e ∙ sign_place text)

piece_ascends : (t : Token) (p : Piece) (more : List Span) (total from : ℕ) → HasPlace (place t) p → from ≤ t.start → t.start < t.«end» → PlacesAscend total t.«end» more
    → PlacesAscend total from (piece_places p ++ more)
piece_ascends t p more total from (inl e) x y h = subst (λ (ss : List Span). PlacesAscend total from (ss ++ more)) (sym e) (places_lower total t.«end» from more (omega (arith, x, y)) h)
piece_ascends t p more total from (inr e) x y h = subst (λ (ss : List Span). PlacesAscend total from (ss ++ more)) (sym e) (x, y, h)

pieces_ascend : (bytes : List ℕ) (ts : List Token) (ps : List Piece) (total from : ℕ) → ArePieces bytes ts ps → SpansAscend total from ts → PlacesAscend total from (flat_map piece_places ps)
pieces_ascend bytes [] [] total from a h = h
pieces_ascend bytes [] (p ∷ ps) total from a h = absurd a
pieces_ascend bytes (t ∷ ts) [] total from a h = absurd a
pieces_ascend bytes (t ∷ ts) (p ∷ ps) total from a h = piece_ascends t p (flat_map piece_places ps) total from (piece_place t.kind (bytes_of bytes t) (place t) p a.0) h.0 h.1 (pieces_ascend bytes ts ps total t.«end» a.1 h.2)

abbrev AscendingSpans : Type 0
AscendingSpans = (bytes : List ℕ) (tokens : List Token) (stop : Option ℕ) → Scans bytes tokens stop → SpansAscend (length bytes) 0 tokens

pub ascending_places : AscendingSpans → (bytes : List ℕ) (statements : List Statement) → IsText bytes statements → PlacesAscend (length bytes) 0 (places statements)
ascending_places spans bytes ss x =
    let file : FileTree = x.file.file in
    let of_pieces = pieces_ascend bytes x.tokens x.pieces (length bytes) 0 x.classified (spans bytes x.tokens None x.scanned) in
    let of_file = subst (λ (ps : List Piece). PlacesAscend (length bytes) 0 (flat_map piece_places ps)) (sym x.file.spells.spelled) of_pieces in
    subst (λ (xs : List Statement). PlacesAscend (length bytes) 0 (places xs)) (sym x.file.meant) (file_kept file (length bytes) 0 of_file)
