-- What is written runs through the machine, each token at its level, and gives its trees.
use Rattle.std.proofs.Common.{◌≡◌, ℕ, ◌+◌, Bool, true, false, IsTrue, List, [], ◌∷◌, ◌++◌, Option, Some, None, option_map, refl, sym, ap, subst, ◌∙◌, append_assoc}
use Rattle.std.proofs.lemmas.List.{append-nil}
use Rattle.tff_grammar.specs.declared.pieces.Span.{Span}
use Rattle.tff_grammar.specs.declared.pieces.Sign.TheVariants.{OpenRound, CloseRound, OpenSquare, CloseSquare, Comma, Dot, Colon, Arrow}
use Rattle.tff_grammar.specs.declared.pieces.Junction.{Junction}
use Rattle.tff_grammar.specs.declared.pieces.Junction.TheVariants.{And, Or}
use Rattle.tff_grammar.specs.declared.pieces.Piece.{Piece}
use Rattle.tff_grammar.specs.declared.pieces.Piece.TheVariants as piece
use Rattle.tff_grammar.specs.declared.trees.Sort.{Sort}
use Rattle.tff_grammar.specs.declared.trees.DeclaredType.TheVariants as types
use Rattle.tff_grammar.specs.declared.trees.Head.{Head}
use Rattle.tff_grammar.specs.declared.trees.Term.{Term}
use Rattle.tff_grammar.specs.declared.trees.Term.TheVariants as terms
use Rattle.tff_grammar.specs.declared.trees.Variable.{Variable}
use Rattle.tff_grammar.specs.declared.trees.Formula.{Formula}
use Rattle.tff_grammar.specs.declared.trees.Formula.TheVariants as formulas
use Rattle.tff_grammar.specs.declared.trees.Statement.{Statement}
use Rattle.tff_grammar.specs.Grammar.{lower, quoted, NameTree, named, numbered, ArgumentTree, declared, basic, SortTree, of_argument, truth, one, several, TypeTree, of_types, constant, function, bracketed, TypingTree, typing, enclosed, HeadTree, head_word, head_operation, TermTree, variable, numeral, apply, ArgumentsTree, no_arguments, arguments, TermsTree, no_terms, next_term, SecondTree, no_second, second, VariableTree, UnitTree, negated, quantified, grouped, truth_value, atomic, FormulaTree, formula, TailTree, alone, linked, joined, UnitsTree, no_units, next_unit, is_note, NotesTree, no_notes, token, round, square, EndingTree, bare, annotated, BodyTree, declaration, premise, conjecture, FileTree, no_statements, next_statement, one_from, has_one}
use Rattle.tff_grammar.specs.Text.{Leveleds, name_text, argument_text, sort_text, more_arguments, type_text, typing_text, head_text, term_text, arguments_text, terms_text, second_text, variable_sort_text, more_variables, unit_text, formula_text, tail_text, units_text, notes_text, ending_text, body_text, file_text}
use Rattle.tff_grammar.specs.Meaning.{word_of, name_place, argument_of, sort_of, arguments_of, type_of, typing_of, head_of, term_of, all_of, terms_of, atom_of, variable_of, variables_of, unit_of, formula_of, with_tail, units_of, body_of, statement_of, file_of}
use Rattle.tff_grammar.specs.Machine.{Stack, levels, Step, moved, stuck, step, act, Values, sorts_value, type_value, head_value, term_value, binders_value, binder_value, formula_value, members_value, word_value, name_value, role_value, file_value, Outcome, whole, end_of}
use Rattle.tff_grammar.specs.Machine as m

abbrev pub RunsOn : ℕ → (Stack → Type 0) → Step → Type 0
RunsOn n rest (moved look level k) = (n ≡ level) × rest k
RunsOn n rest (stuck name) = ⊥

-- ---- what may not follow

abbrev pub ends_type : Piece → Bool
ends_type (piece.Sign Arrow) = false
ends_type p = true

abbrev pub ends_term : Piece → Bool
ends_term (piece.Sign OpenRound) = false
ends_term p = true

abbrev pub ends_unit : Piece → Bool
ends_unit (piece.Sign OpenRound) = false
ends_unit (piece.Relation r) = false
ends_unit p = true

abbrev pub ends_formula : Piece → Bool
ends_formula (piece.Sign OpenRound) = false
ends_formula (piece.Relation r) = false
ends_formula (piece.Link l) = false
ends_formula (piece.Junction j) = false
ends_formula p = true

abbrev pub ends_notes : Piece → Bool
ends_notes (piece.Sign CloseRound) = true
ends_notes (piece.Sign CloseSquare) = true
ends_notes p = false

abbrev pub Holds : Bool → Type 0
Holds true = Unit {0}
Holds false = ⊥

-- the first token passes the test
abbrev pub Front : (Piece → Bool) → Leveleds → Type 0
Front test [] = ⊥
Front test (t ∷ ts) = Holds (test t.0)

unit_as_term : (p : Piece) → Holds (ends_unit p) → Holds (ends_term p)
unit_as_term (piece.Sign OpenRound) h = h
unit_as_term p h = tt

formula_as_unit : (p : Piece) → Holds (ends_formula p) → Holds (ends_unit p)
formula_as_unit (piece.Sign OpenRound) h = h
formula_as_unit (piece.Relation r) h = h
formula_as_unit p h = tt

front_unit_as_term : (ts : Leveleds) → Front ends_unit ts → Front ends_term ts
front_unit_as_term [] h = h
front_unit_as_term (t ∷ ts) h = unit_as_term t.0 h

front_formula_as_unit : (ts : Leveleds) → Front ends_formula ts → Front ends_unit ts
front_formula_as_unit [] h = h
front_formula_as_unit (t ∷ ts) h = formula_as_unit t.0 h

module _ (end : Values) where
  -- from this stack and these values the tokens run to the end
  abbrev pub Runs : Stack → Values → Leveleds → Type 0
  Runs k vs [] = end_of k vs ≡ whole end
  Runs k vs (t ∷ ts) = RunsOn t.1 (λ next. Runs next (act k t.0 vs) ts) (step k t.0)

  -- ---- what need not come

  result_leaves : (k : Stack) (vs : Values) (ts : Leveleds) → Front ends_type ts → Runs k (m.result_left vs) ts → Runs (m.result ∷ k) vs ts
  result_leaves k vs [] h r = absurd h
  result_leaves k vs ((piece.Sign Arrow, n) ∷ ts) h r = absurd h
  result_leaves k vs ((p, n) ∷ ts) h r = r

  no_arrow_leaves : (k : Stack) (vs : Values) (ts : Leveleds) → Front ends_type ts → Runs k vs ts → Runs (m.no_arrow ∷ k) vs ts
  no_arrow_leaves k vs [] h r = absurd h
  no_arrow_leaves k vs ((piece.Sign Arrow, n) ∷ ts) h r = absurd h
  no_arrow_leaves k vs ((p, n) ∷ ts) h r = r

  arguments_leaves : (k : Stack) (vs : Values) (ts : Leveleds) → Front ends_term ts → Runs k (m.arguments_left vs) ts → Runs (m.arguments ∷ k) vs ts
  arguments_leaves k vs [] h r = absurd h
  arguments_leaves k vs ((piece.Sign OpenRound, n) ∷ ts) h r = absurd h
  arguments_leaves k vs ((p, n) ∷ ts) h r = r

  second_leaves : (k : Stack) (vs : Values) (ts : Leveleds) → Front ends_unit ts → Runs k (m.second_left vs) ts → Runs (m.second ∷ k) vs ts
  second_leaves k vs [] h r = absurd h
  second_leaves k vs ((piece.Relation q, n) ∷ ts) h r = absurd h
  second_leaves k vs ((p, n) ∷ ts) h r = r

  tail_leaves : (k : Stack) (vs : Values) (ts : Leveleds) → Front ends_formula ts → Runs k vs ts → Runs (m.tail ∷ k) vs ts
  tail_leaves k vs [] h r = absurd h
  tail_leaves k vs ((piece.Link l, n) ∷ ts) h r = absurd h
  tail_leaves k vs ((piece.Junction j, n) ∷ ts) h r = absurd h
  tail_leaves k vs ((p, n) ∷ ts) h r = r

  chain_leaves : (j : Junction) (k : Stack) (vs : Values) (ts : Leveleds) → Front ends_formula ts → Runs k (m.chain_left j vs) ts → Runs (m.chain j ∷ k) vs ts
  chain_leaves j k vs [] h r = absurd h
  chain_leaves j k vs ((piece.Junction i, n) ∷ ts) h r = absurd h
  chain_leaves j k vs ((p, n) ∷ ts) h r = r

  notes_leave : (k : Stack) (vs : Values) (ts : Leveleds) → Front ends_notes ts → Runs k vs ts → Runs (m.notes ∷ k) vs ts
  notes_leave k vs [] h r = absurd h
  notes_leave k vs ((piece.Sign CloseRound, n) ∷ ts) h r = r
  notes_leave k vs ((piece.Sign CloseSquare, n) ∷ ts) h r = r
  notes_leave k vs ((p, n) ∷ ts) h r = absurd h

  ended_leaves : (k : Stack) (vs : Values) (ts : Leveleds) → Runs k (m.ended_left vs) ts → Runs (m.ended ∷ k) vs ts
  ended_leaves k vs [] r = r
  ended_leaves k vs (t ∷ ts) r = r

  bound_leaves : (q : _) (k : Stack) (vs : Values) (ts : Leveleds) → Runs k (m.bound_left q vs) ts → Runs (m.bound q ∷ k) vs ts
  bound_leaves q k vs [] r = r
  bound_leaves q k vs (t ∷ ts) r = r

  after_link_leaves : (l : _) (k : Stack) (vs : Values) (ts : Leveleds) → Runs k (m.after_link_left l vs) ts → Runs (m.after_link l ∷ k) vs ts
  after_link_leaves l k vs [] r = r
  after_link_leaves l k vs (t ∷ ts) r = r

  after_relation_leaves : (q : _) (k : Stack) (vs : Values) (ts : Leveleds) → Runs k (m.after_relation_left q vs) ts → Runs (m.after_relation q ∷ k) vs ts
  after_relation_leaves q k vs [] r = r
  after_relation_leaves q k vs (t ∷ ts) r = r

  -- ---- types

  argument_runs : (a : ArgumentTree) (args : List Sort) (k : Stack) (vs : Values) (ts : Leveleds) → Runs (m.more_args ∷ k) (sorts_value (args ++ argument_of a ∷ []) ∷ vs) ts
      → Runs (m.argument ∷ k) (sorts_value args ∷ vs) (argument_text (levels k + 1) a ts)
  argument_runs (declared (lower w s)) args k vs ts r = (refl, r)
  argument_runs (declared (quoted s)) args k vs ts r = (refl, r)
  argument_runs (basic b) args k vs ts r = (refl, r)

  result_sort_runs : (s : SortTree) (args : List Sort) (k : Stack) (vs : Values) (ts : Leveleds) → Runs k (type_value (types.Function args (sort_of s)) ∷ vs) ts
      → Runs (m.result_sort ∷ k) (sorts_value args ∷ vs) (sort_text (levels k) s ts)
  result_sort_runs (of_argument (declared (lower w s))) args k vs ts r = (refl, r)
  result_sort_runs (of_argument (declared (quoted s))) args k vs ts r = (refl, r)
  result_sort_runs (of_argument (basic b)) args k vs ts r = (refl, r)
  result_sort_runs truth args k vs ts r = (refl, r)

  first_runs : (a : ArgumentTree) (k : Stack) (vs : Values) (ts : Leveleds) → Runs (m.result ∷ k) (sorts_value (argument_of a ∷ []) ∷ vs) ts → Runs (m.type ∷ k) vs (argument_text (levels k) a ts)
  first_runs (declared (lower w s)) k vs ts r = (refl, r)
  first_runs (declared (quoted s)) k vs ts r = (refl, r)
  first_runs (basic b) k vs ts r = (refl, r)

  first_in_runs : (a : ArgumentTree) (k : Stack) (vs : Values) (ts : Leveleds) → Runs (m.in_args ∷ k) (sorts_value (argument_of a ∷ []) ∷ vs) ts
      → Runs (m.in_type ∷ k) vs (argument_text (levels k + 1) a ts)
  first_in_runs (declared (lower w s)) k vs ts r = (refl, r)
  first_in_runs (declared (quoted s)) k vs ts r = (refl, r)
  first_in_runs (basic b) k vs ts r = (refl, r)

  -- further arguments up to the bracket, and the result
  more_args_run : (more : List ArgumentTree) (args : List Sort) (s : SortTree) (k : Stack) (vs : Values) (ts : Leveleds)
      → Runs k (type_value (types.Function (args ++ arguments_of more) (sort_of s)) ∷ vs) ts
      → Runs (m.more_args ∷ k) (sorts_value args ∷ vs) (more_arguments (levels k + 1) more ((piece.Sign CloseRound, levels k + 1) ∷ (piece.Sign Arrow, levels k) ∷ sort_text (levels k) s ts))
  more_args_run [] args s k vs ts r = (refl, (refl, result_sort_runs s args k vs ts (subst (λ xs. Runs k (type_value (types.Function xs (sort_of s)) ∷ vs) ts) (append-nil args) r)))
  more_args_run (a ∷ more) args s k vs ts r = (
    refl,
    argument_runs a args k vs _ (more_args_run more (args ++ argument_of a ∷ []) s k vs ts
        (subst (λ xs. Runs k (type_value (types.Function xs (sort_of s)) ∷ vs) ts) (sym (append_assoc args (argument_of a ∷ []) (arguments_of more))) r)),
  )

  -- several arguments behind the bracket
  several_run : (a : ArgumentTree) (more : List ArgumentTree) (s : SortTree) (k : Stack) (vs : Values) (ts : Leveleds)
      → Runs k (type_value (types.Function (argument_of a ∷ arguments_of more) (sort_of s)) ∷ vs) ts
      → Runs (m.in_type ∷ k) vs (argument_text (levels k + 1) a (more_arguments (levels k + 1) more ((piece.Sign CloseRound, levels k + 1) ∷ (piece.Sign Arrow, levels k) ∷ sort_text (levels k) s ts)))
  several_run a [] s k vs ts r = first_in_runs a k vs _ (refl, (refl, result_sort_runs s (argument_of a ∷ []) k vs ts r))
  several_run a (b ∷ more) s k vs ts r = first_in_runs a k vs _ (refl, argument_runs b (argument_of a ∷ []) k vs _ (more_args_run more (argument_of a ∷ argument_of b ∷ []) s k vs ts r))

  -- a type and its bracket, behind the first one
  in_type_runs : (t : TypeTree) (k : Stack) (vs : Values) (ts : Leveleds) → Front ends_type ts → Runs k (type_value (type_of t) ∷ vs) ts
      → Runs (m.in_type ∷ k) vs (type_text (levels k + 1) t ((piece.Sign CloseRound, levels k + 1) ∷ ts))
  in_type_runs of_types k vs ts h r = (refl, (refl, r))
  in_type_runs (constant (of_argument a)) k vs ts h r = first_in_runs a k vs _ (refl, result_leaves k _ ts h r)
  in_type_runs (constant truth) k vs ts h r = (refl, (refl, no_arrow_leaves k _ ts h r))
  in_type_runs (function (one a) s) k vs ts h r = first_in_runs a k vs _ (refl, result_sort_runs s (argument_of a ∷ []) (m.close ∷ k) vs _ (refl, r))
  in_type_runs (function (several a more) s) k vs ts h r = (refl, several_run a more s (m.close ∷ k) vs _ (refl, r))
  in_type_runs (bracketed t) k vs ts h r = (refl, in_type_runs t (m.close ∷ k) vs _ tt (refl, r))

  type_runs : (t : TypeTree) (k : Stack) (vs : Values) (ts : Leveleds) → Front ends_type ts → Runs k (type_value (type_of t) ∷ vs) ts → Runs (m.type ∷ k) vs (type_text (levels k) t ts)
  type_runs of_types k vs ts h r = (refl, r)
  type_runs (constant (of_argument a)) k vs ts h r = first_runs a k vs ts (result_leaves k _ ts h r)
  type_runs (constant truth) k vs ts h r = (refl, no_arrow_leaves k _ ts h r)
  type_runs (function (one a) s) k vs ts h r = first_runs a k vs _ (refl, result_sort_runs s (argument_of a ∷ []) k vs ts r)
  type_runs (function (several a more) s) k vs ts h r = (refl, several_run a more s k vs ts r)
  type_runs (bracketed t) k vs ts h r = (refl, in_type_runs t k vs ts h r)

  -- ---- terms

  head_runs : (h : HeadTree) (k : Stack) (vs : Values) (ts : Leveleds) → Runs (m.arguments ∷ k) (head_value (head_of h) [] ∷ vs) ts → Runs (m.term ∷ k) vs (head_text (levels k) h ts)
  head_runs (head_word (lower w s)) k vs ts r = (refl, r)
  head_runs (head_word (quoted s)) k vs ts r = (refl, r)
  head_runs (head_operation o s) k vs ts r = (refl, r)

  ends_terms : (more : TermsTree) (n l : ℕ) (ts : Leveleds) → Front ends_term (terms_text n more ((piece.Sign CloseRound, l) ∷ ts))
  ends_terms no_terms n l ts = tt
  ends_terms (next_term t more) n l ts = tt

  mutual
    term_runs : (t : TermTree) (k : Stack) (vs : Values) (ts : Leveleds) → Front ends_term ts → Runs k (term_value (term_of t) ∷ vs) ts → Runs (m.term ∷ k) vs (term_text (levels k) t ts)
    term_runs (variable s) k vs ts h r = (refl, r)
    term_runs (numeral x) k vs ts h r = (refl, r)
    term_runs (apply d args) k vs ts h r = head_runs d k vs _ (arguments_run args (head_of d) k vs ts h r)

    arguments_run : (args : ArgumentsTree) (d : Head) (k : Stack) (vs : Values) (ts : Leveleds) → Front ends_term ts → Runs k (term_value (terms.Apply d (all_of args)) ∷ vs) ts
        → Runs (m.arguments ∷ k) (head_value d [] ∷ vs) (arguments_text (levels k) args ts)
    arguments_run no_arguments d k vs ts h r = arguments_leaves k _ ts h r
    arguments_run (arguments t more) d k vs ts h r =
        (refl, term_runs t (m.more_terms ∷ k) (head_value d [] ∷ vs) _ (ends_terms more (levels k + 1) (levels k + 1) ts) (terms_run more d [] (term_of t) k vs ts r))

    terms_run : (more : TermsTree) (d : Head) (xs : List Term) (x : Term) (k : Stack) (vs : Values) (ts : Leveleds) → Runs k (term_value (terms.Apply d (xs ++ x ∷ terms_of more)) ∷ vs) ts
        → Runs (m.more_terms ∷ k) (term_value x ∷ head_value d xs ∷ vs) (terms_text (levels k + 1) more ((piece.Sign CloseRound, levels k + 1) ∷ ts))
    terms_run no_terms d xs x k vs ts r = (refl, r)
    terms_run (next_term t more) d xs x k vs ts r = (
      refl,
      term_runs t (m.more_terms ∷ k) (head_value d (xs ++ x ∷ []) ∷ vs) _ (ends_terms more (levels k + 1) (levels k + 1) ts)
          (terms_run more d (xs ++ x ∷ []) (term_of t) k vs ts (subst (λ ys. Runs k (term_value (terms.Apply d ys) ∷ vs) ts) (sym (append_assoc xs (x ∷ []) (term_of t ∷ terms_of more))) r)),
    )

  -- ---- units

  unit_term_runs : (t : TermTree) (k : Stack) (vs : Values) (ts : Leveleds) → Front ends_term ts → Runs (m.second ∷ k) (term_value (term_of t) ∷ vs) ts → Runs (m.unit ∷ k) vs (term_text (levels k) t ts)
  unit_term_runs (variable s) k vs ts h r = (refl, r)
  unit_term_runs (numeral x) k vs ts h r = (refl, r)
  unit_term_runs (apply (head_word (lower w s)) args) k vs ts h r = (refl, arguments_run args _ (m.second ∷ k) vs ts h r)
  unit_term_runs (apply (head_word (quoted s)) args) k vs ts h r = (refl, arguments_run args _ (m.second ∷ k) vs ts h r)
  unit_term_runs (apply (head_operation o s) args) k vs ts h r = (refl, arguments_run args _ (m.second ∷ k) vs ts h r)

  atom_runs : (t : TermTree) (s : SecondTree) (k : Stack) (vs : Values) (ts : Leveleds) → Front ends_unit ts → Runs k (formula_value (atom_of (term_of t) s) ∷ vs) ts
      → Runs (m.unit ∷ k) vs (term_text (levels k) t (second_text (levels k) s ts))
  atom_runs t no_second k vs ts h r = unit_term_runs t k vs ts (front_unit_as_term ts h) (second_leaves k _ ts h r)
  atom_runs t (second q u) k vs ts h r =
      unit_term_runs t k vs _ tt (refl, term_runs u (m.after_relation q ∷ k) (term_value (term_of t) ∷ vs) ts (front_unit_as_term ts h) (after_relation_leaves q k _ ts r))

  binder_sort_runs : (a : ArgumentTree) (s : Span) (bs : List Variable) (k : Stack) (vs : Values) (ts : Leveleds)
      → Runs (m.more_binders ∷ k) (binders_value (bs ++ record { name = s; sort = Some (argument_of a) } ∷ []) ∷ vs) ts
      → Runs (m.binder_sort ∷ k) (binder_value s ∷ binders_value bs ∷ vs) (argument_text (levels k) a ts)
  binder_sort_runs (declared (lower w x)) s bs k vs ts r = (refl, r)
  binder_sort_runs (declared (quoted x)) s bs k vs ts r = (refl, r)
  binder_sort_runs (basic b) s bs k vs ts r = (refl, r)

  -- variables behind the name of a first one
  binders_run : (more : List VariableTree) (s : Span) (o : Option ArgumentTree) (bs : List Variable) (k : Stack) (vs : Values) (ts : Leveleds)
      → Runs k (binders_value (bs ++ record { name = s; sort = option_map argument_of o } ∷ variables_of more) ∷ vs) ts
      → Runs (m.after_binder ∷ k) (binder_value s ∷ binders_value bs ∷ vs) (variable_sort_text (levels k) o (more_variables (levels k) more ((piece.Sign CloseSquare, levels k) ∷ ts)))
  binders_run [] s None bs k vs ts r = (refl, r)
  binders_run [] s (Some a) bs k vs ts r = (refl, binder_sort_runs a s bs k vs _ (refl, r))
  binders_run (v ∷ more) s None bs k vs ts r = (
    refl,
    (
      refl,
      binders_run more v.name v.sort (bs ++ record { name = s; sort = None } ∷ []) k vs ts
          (subst (λ xs. Runs k (binders_value xs ∷ vs) ts) (sym (append_assoc bs (record { name = s; sort = None } ∷ []) (variables_of (v ∷ more)))) r),
    ),
  )
  binders_run (v ∷ more) s (Some a) bs k vs ts r = (
    refl,
    binder_sort_runs a s bs k vs _ (
      refl,
      (
        refl,
        binders_run more v.name v.sort (bs ++ record { name = s; sort = Some (argument_of a) } ∷ []) k vs ts
            (subst (λ xs. Runs k (binders_value xs ∷ vs) ts) (sym (append_assoc bs (record { name = s; sort = Some (argument_of a) } ∷ []) (variables_of (v ∷ more)))) r),
      ),
    ),
  )

  ends_tail : (tail : TailTree) (n : ℕ) (ts : Leveleds) → Front ends_formula ts → Front ends_unit (tail_text n tail ts)
  ends_tail alone n ts h = front_formula_as_unit ts h
  ends_tail (linked l u) n ts h = tt
  ends_tail (joined j u more) n ts h = tt

  ends_units : (j : Junction) (more : UnitsTree) (n : ℕ) (ts : Leveleds) → Front ends_formula ts → Front ends_unit (units_text n j more ts)
  ends_units j no_units n ts h = front_formula_as_unit ts h
  ends_units j (next_unit u more) n ts h = tt

  chain_takes : (j : Junction) (k : Stack) (vs : Values) (ts : Leveleds) → Runs (m.unit ∷ m.chain j ∷ k) (m.chain_taken vs) ts → Runs (m.chain j ∷ k) vs ((piece.Junction j, levels k) ∷ ts)
  chain_takes And k vs ts r = (refl, r)
  chain_takes Or k vs ts r = (refl, r)

  mutual
    unit_runs : (u : UnitTree) (k : Stack) (vs : Values) (ts : Leveleds) → Front ends_unit ts → Runs k (formula_value (unit_of u) ∷ vs) ts → Runs (m.unit ∷ k) vs (unit_text (levels k) u ts)
    unit_runs (negated u) k vs ts h r = (refl, unit_runs u (m.ended ∷ k) vs ts h (ended_leaves k _ ts r))
    unit_runs (quantified q v more u) k vs ts h r = (
      refl,
      (
        refl,
        (
          refl,
          binders_run more v.name v.sort [] (m.sign Colon ∷ m.unit ∷ m.bound q ∷ k) vs _
              (refl, unit_runs u (m.bound q ∷ k) (binders_value (variable_of v ∷ variables_of more) ∷ vs) ts h (bound_leaves q k _ ts r)),
        ),
      ),
    )
    unit_runs (grouped g) k vs ts h r = (refl, formula_runs g (m.close ∷ k) vs _ tt (refl, r))
    unit_runs (truth_value b) k vs ts h r = (refl, r)
    unit_runs (atomic t s) k vs ts h r = atom_runs t s k vs ts h r

    formula_runs : (g : FormulaTree) (k : Stack) (vs : Values) (ts : Leveleds) → Front ends_formula ts → Runs k (formula_value (formula_of g) ∷ vs) ts
        → Runs (m.unit ∷ m.tail ∷ k) vs (formula_text (levels k) g ts)
    formula_runs (formula u tail) k vs ts h r = unit_runs u (m.tail ∷ k) vs _ (ends_tail tail (levels k) ts h) (tail_runs tail (unit_of u) k vs ts h r)

    tail_runs : (tail : TailTree) (f : Formula) (k : Stack) (vs : Values) (ts : Leveleds) → Front ends_formula ts → Runs k (formula_value (with_tail f tail) ∷ vs) ts
        → Runs (m.tail ∷ k) (formula_value f ∷ vs) (tail_text (levels k) tail ts)
    tail_runs alone f k vs ts h r = tail_leaves k _ ts h r
    tail_runs (linked l u) f k vs ts h r = (refl, unit_runs u (m.after_link l ∷ k) (formula_value f ∷ vs) ts (front_formula_as_unit ts h) (after_link_leaves l k _ ts r))
    tail_runs (joined j u more) f k vs ts h r =
        (refl, unit_runs u (m.chain j ∷ k) (members_value (f ∷ []) ∷ vs) _ (ends_units j more (levels k) ts h) (units_run j more (f ∷ []) (unit_of u) k vs ts h r))

    units_run : (j : Junction) (more : UnitsTree) (fs : List Formula) (f : Formula) (k : Stack) (vs : Values) (ts : Leveleds) → Front ends_formula ts
        → Runs k (formula_value (formulas.Joined j (fs ++ f ∷ units_of more)) ∷ vs) ts → Runs (m.chain j ∷ k) (formula_value f ∷ members_value fs ∷ vs) (units_text (levels k) j more ts)
    units_run j no_units fs f k vs ts h r = chain_leaves j k _ ts h r
    units_run j (next_unit u more) fs f k vs ts h r =
        chain_takes j k (formula_value f ∷ members_value fs ∷ vs) _ (unit_runs u (m.chain j ∷ k) (members_value (fs ++ f ∷ []) ∷ vs) _ (ends_units j more (levels k) ts h)
        (units_run j more (fs ++ f ∷ []) (unit_of u) k vs ts h (subst (λ gs. Runs k (formula_value (formulas.Joined j gs) ∷ vs) ts) (sym (append_assoc fs (f ∷ []) (unit_of u ∷ units_of more))) r)))

  -- ---- statements

  note_runs : (p : Piece) (k : Stack) (vs : Values) (ts : Leveleds) → IsTrue (is_note p) → Runs (m.notes ∷ k) vs ts → Runs (m.notes ∷ k) vs ((p, levels k) ∷ ts)
  note_runs (piece.Sign OpenRound) k vs ts h r = absurd cc
  note_runs (piece.Sign CloseRound) k vs ts h r = absurd cc
  note_runs (piece.Sign OpenSquare) k vs ts h r = absurd cc
  note_runs (piece.Sign CloseSquare) k vs ts h r = absurd cc
  note_runs piece.WideNumeral k vs ts h r = absurd cc
  note_runs p k vs ts h r = (refl, r)

  notes_run : (notes : NotesTree) (k : Stack) (vs : Values) (ts : Leveleds) → Front ends_notes ts → Runs k vs ts → Runs (m.notes ∷ k) vs (notes_text (levels k) notes ts)
  notes_run no_notes k vs ts h r = notes_leave k vs ts h r
  notes_run (token p is more) k vs ts h r = note_runs p k vs _ is (notes_run more k vs ts h r)
  notes_run (round inner more) k vs ts h r = (refl, notes_run inner (m.close ∷ m.notes ∷ k) vs _ tt (refl, notes_run more k vs ts h r))
  notes_run (square inner more) k vs ts h r = (refl, notes_run inner (m.sign CloseSquare ∷ m.notes ∷ k) vs _ tt (refl, notes_run more k vs ts h r))

  ending_runs : (e : EndingTree) (again : Bool) (vs : Values) (ts : Leveleds) → Runs (m.statements again ∷ []) (m.ending_taken vs) ts → Runs (m.ending ∷ m.statements again ∷ []) vs (ending_text e ts)
  ending_runs bare again vs ts r = (refl, (refl, r))
  ending_runs (annotated notes) again vs ts r = (refl, notes_run notes (m.sign CloseRound ∷ m.sign Dot ∷ m.statements again ∷ []) (m.ending_taken vs) _ tt (refl, (refl, r)))

  front_ending_type : (e : EndingTree) (ts : Leveleds) → Front ends_type (ending_text e ts)
  front_ending_type bare ts = tt
  front_ending_type (annotated notes) ts = tt

  front_ending_formula : (e : EndingTree) (ts : Leveleds) → Front ends_formula (ending_text e ts)
  front_ending_formula bare ts = tt
  front_ending_formula (annotated notes) ts = tt

  -- what a typing leaves
  typing_values : TypingTree → Values → Values
  typing_values (typing w t) vs = type_value (type_of t) ∷ word_value (word_of w) ∷ vs
  typing_values (enclosed w) vs = typing_values w vs

  typing_runs : (w : TypingTree) (k : Stack) (vs : Values) (ts : Leveleds) → Front ends_type ts → Runs k (typing_values w vs) ts → Runs (m.typing ∷ k) vs (typing_text (levels k) w ts)
  unfolding typing_values
  typing_runs (typing (lower w s) t) k vs ts h r = (refl, (refl, type_runs t k _ ts h r))
  typing_runs (typing (quoted s) t) k vs ts h r = (refl, (refl, type_runs t k _ ts h r))
  typing_runs (enclosed w) k vs ts h r = (refl, typing_runs w (m.close ∷ k) vs _ tt (refl, r))

  typing_ends : (w : TypingTree) (s : Span) (ss : List Statement) → m.ending_taken (typing_values w (name_value s ∷ file_value ss ∷ [])) ≡ file_value (ss ++ record { name = s; content = typing_of w } ∷ []) ∷ []
  unfolding typing_values
  typing_ends (typing w t) s ss = refl
  typing_ends (enclosed w) s ss = typing_ends w s ss

  body_runs : (b : BodyTree) (e : EndingTree) (again : Bool) (s : Span) (ss : List Statement) (ts : Leveleds) (more : Bool → Bool) → IsTrue (one_from again b more)
      → ((next : Bool) → IsTrue (more next) → Runs (m.statements next ∷ []) (file_value (ss ++ record { name = s; content = body_of b } ∷ []) ∷ []) ts)
      → Runs (m.role again ∷ []) (name_value s ∷ file_value ss ∷ []) (body_text b (ending_text e ts))
  body_runs (declaration x w) e again s ss ts more h r = (
    refl,
    (
      refl,
      typing_runs w (m.ending ∷ m.statements again ∷ []) (name_value s ∷ file_value ss ∷ []) _ (front_ending_type e ts)
          (ending_runs e again _ ts (subst (λ vs. Runs (m.statements again ∷ []) vs ts) (sym (typing_ends w s ss)) (r again h))),
    ),
  )
  body_runs (premise x g) e again s ss ts more h r =
      (refl, (refl, formula_runs g (m.ending ∷ m.statements again ∷ []) (role_value false ∷ name_value s ∷ file_value ss ∷ []) _ (front_ending_formula e ts) (ending_runs e again _ ts (r again h))))
  body_runs (conjecture x g) e true s ss ts more h r = absurd cc
  body_runs (conjecture x g) e false s ss ts more h r =
      (refl, (refl, formula_runs g (m.ending ∷ m.statements true ∷ []) (role_value true ∷ name_value s ∷ file_value ss ∷ []) _ (front_ending_formula e ts) (ending_runs e true _ ts (r true h))))

  name_runs : (x : NameTree) (k : Stack) (vs : Values) (ts : Leveleds) → levels k ≡ 0 → Runs k (name_value (name_place x) ∷ vs) ts → Runs (m.a_name ∷ k) vs (name_text x ts)
  name_runs (named (lower w s)) k vs ts e r = (sym e, r)
  name_runs (named (quoted s)) k vs ts e r = (sym e, r)
  name_runs (numbered x) k vs ts e r = (sym e, r)

  statements_run : (file : FileTree) (again : Bool) (ss : List Statement) → IsTrue (has_one file again) → end ≡ file_value (ss ++ file_of file) ∷ []
      → Runs (m.statements again ∷ []) (file_value ss ∷ []) (file_text file)
  statements_run no_statements again ss h e = ap whole (ap (λ xs. file_value xs ∷ []) (sym (append-nil ss)) ∙ sym e)
  statements_run (next_statement s more) again ss h e = (
    refl,
    (
      refl,
      name_runs s.name (m.sign Comma ∷ m.role again ∷ []) (file_value ss ∷ []) _ refl (
        refl,
        body_runs s.body s.ending again (name_place s.name) ss (file_text more) (has_one more) h
            (λ next one. statements_run more next (ss ++ statement_of s ∷ []) one (e ∙ ap (λ xs. file_value xs ∷ []) (sym (append_assoc ss (statement_of s ∷ []) (file_of more))))),
      ),
    ),
  )

-- a text of the grammar runs, and gives its trees
pub text_runs : (file : FileTree) → IsTrue (has_one file false) → Runs (file_value (file_of file) ∷ []) (m.statements false ∷ []) (file_value [] ∷ []) (file_text file)
text_runs file h = statements_run (file_value (file_of file) ∷ []) file false [] h refl
