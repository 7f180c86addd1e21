-- The faults of declarations and binders stand at words, in the order of the text.
use Rattle.std.proofs.Common.{◌≡◌, ℕ, ◌+◌, ◌<◌, Bool, true, false, List, [], ◌∷◌, ◌++◌, map, refl, append_assoc, inl}
use Rattle.std.specs.Prelude.{Option, Some, None, All, if◌then◌else◌}
use Rattle.std.specs.List.{flat_map, AllPairs}
use Rattle.std.proofs.lemmas.List.{append-nil}
use Rattle.tff_lexer.specs.Blanks.{skipped_length}
use Rattle.tff_grammar.specs.declared.pieces.Junction.{Junction}
use Rattle.tff_grammar.specs.declared.pieces.Piece.{Piece}
use Rattle.tff_grammar.specs.declared.trees.DeclaredType.{DeclaredType}
use Rattle.tff_grammar.specs.declared.trees.Term.{Term}
use Rattle.tff_grammar.specs.declared.trees.Formula.{Formula}
use Rattle.tff_grammar.specs.declared.trees.Statement.{Statement}
use Rattle.tff_grammar.specs.Grammar.{WordTree, lower, quoted, NameTree, named, numbered, ArgumentTree, declared, basic, SortTree, of_argument, truth, ArgsTree, one, several, TypeTree, of_types, constant, function, bracketed, TypingTree, typing, enclosed, HeadTree, head_word, head_operation, TermTree, variable, numeral, apply, ArgumentsTree, no_arguments, arguments, TermsTree, no_terms, next_term, SecondTree, no_second, second, VariableTree, UnitTree, negated, quantified, grouped, truth_value, atomic, FormulaTree, formula, TailTree, linked, joined, UnitsTree, no_units, next_unit, NotesTree, no_notes, token, round, square, EndingTree, bare, annotated, BodyTree, declaration, premise, conjecture, StatementTree, FileTree, no_statements, next_statement}
use Rattle.tff_grammar.specs.Grammar as grammar
use Rattle.tff_grammar.specs.Text.{Leveleds, word_text, name_text, argument_text, sort_text, more_arguments, args_text, type_text, typing_text, head_text, term_text, arguments_text, terms_text, second_text, variable_sort_text, variable_text, more_variables, unit_text, formula_text, tail_text, units_text, notes_text, ending_text, body_text, statement_text, file_text}
use Rattle.tff_grammar.specs.Meaning.{word_of, argument_of, arguments_of, sort_of, args_of, type_of, typing_of, atom_of, term_of, variable_of, variables_of, unit_of, formula_of, with_tail, units_of, body_of, file_of}
use Rattle.tff_grammar.specs.FirstFault.{pieces_of}
use Rattle.tff_grammar.specs.Answer.{IsText}
use Rattle.tff_signature.specs.declared.faults.LaterName.{LaterName}
use Rattle.tff_signature.specs.declared.faults.LaterName.TheVariants.{Redeclared, UnknownSort}
use Rattle.tff_signature.specs.declared.faults.Later.{Later}
use Rattle.tff_signature.specs.Names.{Name, name_of, span_of, is_among}
use Rattle.tff_signature.specs.Faults.{Faults, fault, alone}
use Rattle.tff_signature.specs.Declarations.{Declaration, declarations, sort_names, declared_type, same_type, sort_faults, type_faults, redeclared, variable_faults, binder_faults_step, binder_faults, content_faults, phase_2}
use Rattle.tff_signature.proofs.FormulaFolds.{fold-Constant, fold-Atom, fold-Relation, fold-Not, fold-Quantified, fold-Linked, fold-Joined}
use Rattle.tff_signature.proofs.TokenPlaces.{token_places, places_rise}
use Rattle.tff_signature.proofs.FaultOrder.{AreAt, places, passed, piece_passed, before, FaultsRise, faults_rise, pairs, first_least}

pub word_passed : (n : ℕ) (w : WordTree) (rest : Leveleds) (fs : Faults) → AreAt fs (places rest) → AreAt fs (places (word_text n w rest))
word_passed n (lower k s) rest fs h = passed fs s.start (places rest) h
word_passed n (quoted s) rest fs h = passed fs s.start (places rest) h

word_taken : (name : LaterName) (n : ℕ) (w : WordTree) (rest : Leveleds) (fs : Faults)
    → AreAt fs (places rest) → AreAt (fault name (span_of (word_of w)).start ∷ fs) (places (word_text n w rest))
word_taken name n (lower k s) rest fs h = inl (refl, h)
word_taken name n (quoted s) rest fs h = inl (refl, h)

-- a fault or none, at this word
word_either : (b : Bool) (name : LaterName) (n : ℕ) (w : WordTree) (rest : Leveleds) (fs : Faults)
    → AreAt fs (places rest) → AreAt ((if b then [] else alone name (span_of (word_of w)).start) ++ fs) (places (word_text n w rest))
word_either true name n w rest fs h = word_passed n w rest fs h
word_either false name n w rest fs h = word_taken name n w rest fs h

pub name_passed : (name : NameTree) (rest : Leveleds) (fs : Faults) → AreAt fs (places rest) → AreAt fs (places (name_text name rest))
name_passed (named w) rest fs h = word_passed 0 w rest fs h
name_passed (numbered m) rest fs h = passed fs m.span.start (places rest) h

-- ---- terms have no such faults

head_passed : (n : ℕ) (t : HeadTree) (rest : Leveleds) (fs : Faults) → AreAt fs (places rest) → AreAt fs (places (head_text n t rest))
head_passed n (head_word w) rest fs h = word_passed n w rest fs h
head_passed n (head_operation o s) rest fs h = passed fs s.start (places rest) h

mutual
  term_passed : (n : ℕ) (t : TermTree) (rest : Leveleds) (fs : Faults) → AreAt fs (places rest) → AreAt fs (places (term_text n t rest))
  term_passed n (variable s) rest fs h = passed fs s.start (places rest) h
  term_passed n (numeral m) rest fs h = passed fs m.span.start (places rest) h
  term_passed n (apply f args) rest fs h = head_passed n f (arguments_text n args rest) fs (arguments_passed n args rest fs h)

  arguments_passed : (n : ℕ) (args : ArgumentsTree) (rest : Leveleds) (fs : Faults) → AreAt fs (places rest) → AreAt fs (places (arguments_text n args rest))
  arguments_passed n no_arguments rest fs h = h
  arguments_passed n (arguments t more) rest fs h = term_passed (n + 1) t _ fs (terms_passed (n + 1) more _ fs h)

  terms_passed : (n : ℕ) (ts : TermsTree) (rest : Leveleds) (fs : Faults) → AreAt fs (places rest) → AreAt fs (places (terms_text n ts rest))
  terms_passed n no_terms rest fs h = h
  terms_passed n (next_term t more) rest fs h = term_passed n t (terms_text n more rest) fs (terms_passed n more rest fs h)

second_passed : (n : ℕ) (s : SecondTree) (rest : Leveleds) (fs : Faults) → AreAt fs (places rest) → AreAt fs (places (second_text n s rest))
second_passed n no_second rest fs h = h
second_passed n (second r t) rest fs h = term_passed n t rest fs h

-- ---- annotations have none

pub notes_passed : (n : ℕ) (notes : NotesTree) (rest : Leveleds) (fs : Faults) → AreAt fs (places rest) → AreAt fs (places (notes_text n notes rest))
notes_passed n no_notes rest fs h = h
notes_passed n (token p is_note more) rest fs h = piece_passed p fs (places (notes_text n more rest)) (notes_passed n more rest fs h)
notes_passed n (round inner more) rest fs h = notes_passed (n + 1) inner _ fs (notes_passed n more rest fs h)
notes_passed n (square inner more) rest fs h = notes_passed n inner _ fs (notes_passed n more rest fs h)

pub ending_passed : (e : EndingTree) (rest : Leveleds) (fs : Faults) → AreAt fs (places rest) → AreAt fs (places (ending_text e rest))
ending_passed bare rest fs h = h
ending_passed (annotated notes) rest fs h = notes_passed 0 notes _ fs h

module _ (text : List ℕ) (sorts : List Name) where
  -- ---- types

  argument_faults : (n : ℕ) (a : ArgumentTree) (rest : Leveleds) (fs : Faults)
      → AreAt fs (places rest) → AreAt (sort_faults text sorts (argument_of a) ++ fs) (places (argument_text n a rest))
  argument_faults n (declared w) rest fs h = word_either (is_among sorts (name_of text (word_of w))) UnknownSort n w rest fs h
  argument_faults n (basic b) rest fs h = h

  sort_at : (n : ℕ) (s : SortTree) (rest : Leveleds) (fs : Faults)
      → AreAt fs (places rest) → AreAt (sort_faults text sorts (sort_of s) ++ fs) (places (sort_text n s rest))
  sort_at n (of_argument a) rest fs h = argument_faults n a rest fs h
  sort_at n truth rest fs h = h

  more_faults : (n : ℕ) (args : List ArgumentTree) (rest : Leveleds) (fs : Faults)
      → AreAt fs (places rest) → AreAt (flat_map (sort_faults text sorts) (arguments_of args) ++ fs) (places (more_arguments n args rest))
  more_faults n [] rest fs h = h
  more_faults n (a ∷ more) rest fs h =
      before (sort_faults text sorts (argument_of a)) (flat_map (sort_faults text sorts) (arguments_of more)) fs (places (more_arguments n (a ∷ more) rest))
      (argument_faults n a (more_arguments n more rest) _ (more_faults n more rest fs h))

  args_faults : (n : ℕ) (args : ArgsTree) (rest : Leveleds) (fs : Faults)
      → AreAt fs (places rest) → AreAt (flat_map (sort_faults text sorts) (args_of args) ++ fs) (places (args_text n args rest))
  args_faults n (one a) rest fs h = rw append-nil (argument_faults n a rest fs h)
  args_faults n (several a more) rest fs h =
      before (sort_faults text sorts (argument_of a)) (flat_map (sort_faults text sorts) (arguments_of more)) fs (places (args_text n (several a more) rest))
      (argument_faults (n + 1) a _ _ (more_faults (n + 1) more _ fs h))

  type_at : (n : ℕ) (t : TypeTree) (rest : Leveleds) (fs : Faults)
      → AreAt fs (places rest) → AreAt (type_faults text sorts (type_of t) ++ fs) (places (type_text n t rest))
  type_at n of_types rest fs h = h
  type_at n (constant s) rest fs h = sort_at n s rest fs h
  type_at n (function args s) rest fs h =
      before (flat_map (sort_faults text sorts) (args_of args)) (sort_faults text sorts (sort_of s)) fs (places (type_text n (function args s) rest))
      (args_faults n args _ _ (sort_at n s rest fs h))
  type_at n (bracketed t) rest fs h = type_at (n + 1) t _ fs h

  redeclared_at : (o : Option DeclaredType) (t : DeclaredType) (n : ℕ) (w : WordTree) (rest : Leveleds) (fs : Faults)
      → AreAt fs (places rest) → AreAt (redeclared text (word_of w) t o ++ fs) (places (word_text n w rest))
  redeclared_at None t n w rest fs h = word_passed n w rest fs h
  redeclared_at (Some first) t n w rest fs h = word_either (same_type text t first) Redeclared n w rest fs h

  typing_faults : (ds : List Declaration) (n : ℕ) (t : TypingTree) (rest : Leveleds) (fs : Faults)
      → AreAt fs (places rest) → AreAt (content_faults text ds sorts (typing_of t) ++ fs) (places (typing_text n t rest))
  typing_faults ds n (typing w t) rest fs h =
      let o = declared_type text ds (name_of text (word_of w)) in
      before (redeclared text (word_of w) (type_of t) o) (type_faults text sorts (type_of t)) fs (places (typing_text n (typing w t) rest))
      (redeclared_at o (type_of t) n w _ _ (type_at n t rest fs h))
  typing_faults ds n (enclosed t) rest fs h = typing_faults ds (n + 1) t _ fs h

  -- ---- binders

  variable_sort_faults : (n : ℕ) (v : VariableTree) (o : Option ArgumentTree) → v.sort ≡ o → (rest : Leveleds) (fs : Faults)
      → AreAt fs (places rest) → AreAt (variable_faults text sorts (variable_of v) ++ fs) (places (variable_sort_text n v.sort rest))
  variable_sort_faults n v None is rest fs h = rw is h
  variable_sort_faults n v (Some a) is rest fs h = rw is (argument_faults n a rest fs h)

  variable_at : (n : ℕ) (v : VariableTree) (rest : Leveleds) (fs : Faults)
      → AreAt fs (places rest) → AreAt (variable_faults text sorts (variable_of v) ++ fs) (places (variable_text n v rest))
  variable_at n v rest fs h = passed _ v.name.start (places (variable_sort_text n v.sort rest)) (variable_sort_faults n v v.sort refl rest fs h)

  variables_at : (n : ℕ) (vs : List VariableTree) (rest : Leveleds) (fs : Faults)
      → AreAt fs (places rest) → AreAt (flat_map (variable_faults text sorts) (variables_of vs) ++ fs) (places (more_variables n vs rest))
  variables_at n [] rest fs h = h
  variables_at n (v ∷ vs) rest fs h =
      before (variable_faults text sorts (variable_of v)) (flat_map (variable_faults text sorts) (variables_of vs)) fs (places (more_variables n (v ∷ vs) rest))
      (variable_at n v (more_variables n vs rest) _ (variables_at n vs rest fs h))

  abbrev faults : Formula → Faults
  faults = binder_faults text sorts

  abbrev all_faults : List Formula → Faults
  all_faults gs = flat_map (λ g. g) (map faults gs)

  atom_faults : (t : Term) (s : SecondTree) → faults (atom_of t s) ≡ []
  atom_faults t no_second = fold-Atom Faults (binder_faults_step text sorts) t
  atom_faults t (second r u) = fold-Relation Faults (binder_faults_step text sorts) r t (term_of u)

  mutual
    unit_at : (n : ℕ) (u : UnitTree) (rest : Leveleds) (fs : Faults) → AreAt fs (places rest) → AreAt (faults (unit_of u) ++ fs) (places (unit_text n u rest))
    unit_at n (negated u) rest fs h = rw (fold-Not Faults (binder_faults_step text sorts) (unit_of u)) (unit_at (n + 1) u rest fs h)
    unit_at n (quantified q v more u) rest fs h =
        rw (fold-Quantified Faults (binder_faults_step text sorts) q (variable_of v ∷ variables_of more) (unit_of u), append_assoc, append_assoc)
        (variable_at (n + 1) v _ _ (variables_at (n + 1) more _ _ (unit_at (n + 1) u rest fs h)))
    unit_at n (grouped g) rest fs h = formula_at (n + 1) g _ fs h
    unit_at n (truth_value b) rest fs h = rw (fold-Constant Faults (binder_faults_step text sorts) b) h
    unit_at n (atomic t s) rest fs h = rw (atom_faults (term_of t) s) (term_passed n t (second_text n s rest) fs (second_passed n s rest fs h))

    formula_at : (n : ℕ) (g : FormulaTree) (rest : Leveleds) (fs : Faults) → AreAt fs (places rest) → AreAt (faults (formula_of g) ++ fs) (places (formula_text n g rest))
    formula_at n (formula u tail) rest fs h =
        tail_at n (unit_of u) tail rest fs h (places (unit_text n u (tail_text n tail rest))) (λ gs k. unit_at n u (tail_text n tail rest) gs k)

    -- what follows the first member
    tail_at : (n : ℕ) (first : Formula) (tail : TailTree) (rest : Leveleds) (fs : Faults) → AreAt fs (places rest) → (ps : List ℕ)
        → ((gs : Faults) → AreAt gs (places (tail_text n tail rest)) → AreAt (faults first ++ gs) ps) → AreAt (faults (with_tail first tail) ++ fs) ps
    tail_at n first grammar.alone rest fs h ps k = k fs h
    tail_at n first (linked l u) rest fs h ps k =
        rw (fold-Linked Faults (binder_faults_step text sorts) l first (unit_of u), append_assoc) (k (faults (unit_of u) ++ fs) (unit_at n u rest fs h))
    tail_at n first (joined j u more) rest fs h ps k =
        rw (fold-Joined Faults (binder_faults_step text sorts) j (first ∷ unit_of u ∷ units_of more), append_assoc, append_assoc)
        (k (faults (unit_of u) ++ (all_faults (units_of more) ++ fs)) (unit_at n u _ _ (units_at n j more rest fs h)))

    units_at : (n : ℕ) (j : Junction) (us : UnitsTree) (rest : Leveleds) (fs : Faults) → AreAt fs (places rest) → AreAt (all_faults (units_of us) ++ fs) (places (units_text n j us rest))
    units_at n j no_units rest fs h = h
    units_at n j (next_unit u more) rest fs h =
        before (faults (unit_of u)) (all_faults (units_of more)) fs (places (units_text n j (next_unit u more) rest)) (unit_at n u _ _ (units_at n j more rest fs h))

  -- ---- statements

  body_at : (ds : List Declaration) (b : BodyTree) (rest : Leveleds) (fs : Faults)
      → AreAt fs (places rest) → AreAt (content_faults text ds sorts (body_of b) ++ fs) (places (body_text b rest))
  body_at ds (declaration s t) rest fs h = passed _ s.start (places (typing_text 0 t rest)) (typing_faults ds 0 t rest fs h)
  body_at ds (premise s g) rest fs h = passed _ s.start (places (formula_text 0 g rest)) (formula_at 0 g rest fs h)
  body_at ds (conjecture s g) rest fs h = passed _ s.start (places (formula_text 0 g rest)) (formula_at 0 g rest fs h)

  statement_at : (ds : List Declaration) (s : StatementTree) (rest : Leveleds) (fs : Faults)
      → AreAt fs (places rest) → AreAt (content_faults text ds sorts (body_of s.body) ++ fs) (places (statement_text s rest))
  statement_at ds s rest fs h =
      let b = body_at ds s.body (ending_text s.ending rest) fs (ending_passed s.ending rest fs h) in
      passed _ s.word.start _ (name_passed s.name _ _ b)

  file_at : (ds : List Declaration) (file : FileTree) → AreAt (flat_map (λ s. content_faults text ds sorts s.content) (file_of file)) (places (file_text file))
  file_at ds no_statements = tt
  file_at ds (next_statement s more) = statement_at ds s (file_text more) _ (file_at ds more)

-- ---- all of them

statements_at : (bytes : List ℕ) (sorts : List Name) (ds : List Declaration) (statements : List Statement) (ps : List Piece) (file : FileTree)
    → statements ≡ file_of file → pieces_of (file_text file) ≡ ps → AreAt (flat_map (λ s. content_faults bytes ds sorts s.content) statements) (token_places ps)
statements_at bytes sorts ds statements ps file meant spelled = rw (meant, ← spelled) (file_at bytes sorts ds file)

text_faults_rise : (bytes : List ℕ) (statements : List Statement) → IsText bytes statements → FaultsRise (skipped_length bytes) (phase_2 bytes statements)
text_faults_rise bytes statements t =
    let ds = declarations statements in
    let parts = statements_at bytes (sort_names bytes ds) ds statements t.pieces t.file.file t.file.meant t.file.spells.spelled in
    faults_rise (phase_2 bytes statements) (token_places t.pieces) (skipped_length bytes) parts (places_rise bytes _ _ t.tokens None t.pieces t.scanned t.classified)

-- each fault stands in front of the later ones
pub ascending : (bytes : List ℕ) (statements : List Statement) → IsText bytes statements → AllPairs (λ f g. f.at < g.at) (phase_2 bytes statements)
ascending bytes statements t = pairs (skipped_length bytes) (phase_2 bytes statements) (text_faults_rise bytes statements t)

-- the first one stands in front of the others
pub least : (bytes : List ℕ) (statements : List Statement) (first : Later) (others : Faults)
    → IsText bytes statements → phase_2 bytes statements ≡ first ∷ others → All (λ f. first.at < f.at) others
least bytes statements first others t is = first_least (skipped_length bytes) (phase_2 bytes statements) others first is (text_faults_rise bytes statements t)
