-- What the forms of terms and atoms mean, and their faults.
use Rattle.std.proofs.Common.{◌≡◌, ℕ, List, [], ◌∷◌, ◌++◌, map, length, refl, sym, ◌∙◌, ap, subst}
use Rattle.std.specs.Prelude.{Option, Some, None}
use Rattle.std.proofs.lemmas.List.{length-map}
use Rattle.term_base.specs.declared.symbols.Sort.{Sort}
use Rattle.term_base.specs.declared.symbols.Sort.TheVariants as sorts
use Rattle.term_base.specs.declared.symbols.Symbol.{Symbol}
use Rattle.term_base.specs.declared.terms.Term.{Term}
use Rattle.term_base.specs.declared.terms.Term.TheVariants as term
use Rattle.tff_grammar.specs.declared.pieces.Span.{Span}
use Rattle.tff_grammar.specs.declared.pieces.Number.{Number}
use Rattle.tff_grammar.specs.declared.trees.Head.{Head}
use Rattle.tff_grammar.specs.declared.trees.Term.{Term as WrittenTerm}
use Rattle.tff_grammar.specs.declared.trees.Term.TheVariants as written
use Rattle.tff_grammar.specs.Pieces.{bytes_at}
use Rattle.tff_signature.specs.declared.faults.Later.{Later}
use Rattle.tff_signature.specs.Faults.{Faults}
use Rattle.tff_reader.specs.declared.stops.Stop.{Stop}
use Rattle.tff_reader.specs.declared.stops.Stop.TheVariants as stops
use Rattle.tff_reader.specs.declared.numbers.Computed.TheVariants.{Value}
use Rattle.tff_reader.specs.declared.heads.Wanted.{Wanted}
use Rattle.tff_reader.specs.declared.heads.Wanted.TheVariants as wanted
use Rattle.tff_reader.specs.declared.terms.TermMeaning.{TermMeaning as ReadMeaning}
use Rattle.tff_reader.specs.declared.terms.Arguments.{Arguments}
use Rattle.tff_reader.specs.Stops.{Stops}
use Rattle.tff_reader.specs.Scopes.{Scope, bound_by}
use Rattle.tff_reader.specs.NumberTerms.{head_number}
use Rattle.tff_reader.specs.Typing.{HeadType, own_fault, head_fault, head_place, head_type, arguments, argument_faults, bound_sort, term_sort, term_faults, term_faults_step, right_side, relation_faults}
use Rattle.tff_reader.specs.Meaning.{TermMeaning, variable_term, head_term, term_meaning, term_meaning_step, term_of}
use Rattle.tff_reader.specs.Arguments.{IsMeant, AreMeant, head_faults, applied}
use Rattle.tff_reader.proofs.StopLemmas.{stops_same, stops_sooner, stops_later}
use Rattle.tff_reader.proofs.ArgumentLemmas.{applied_is}
use Rattle.tff_grammar.specs.TreeFolds as folds

module _ (text : List ℕ) (symbols : List Symbol) (scope : Scope) where
  abbrev faults_of : WrittenTerm → Wanted → Faults
  faults_of = term_faults text symbols scope

  abbrev meant : WrittenTerm → TermMeaning
  meant = term_meaning text symbols scope

  faults-Variable : (s : Span) (w : Wanted) → faults_of (written.Variable s) w ≡ own_fault w s.start (bound_sort text symbols scope s)
  faults-Variable s w = ap (λ (f : Wanted → Faults). f w) (folds.fold-Variable (Wanted → Faults) (term_faults_step text symbols scope) s)

  faults-Numeral : (m : Number) (w : Wanted) → faults_of (written.Numeral m) w ≡ own_fault w m.span.start (Some sorts.Int)
  faults-Numeral m w = ap (λ (f : Wanted → Faults). f w) (folds.fold-Numeral (Wanted → Faults) (term_faults_step text symbols scope) m)

  faults-Apply : (h : Head) (us : List WrittenTerm) (w : Wanted) → faults_of (written.Apply h us) w ≡ head_faults text symbols scope w h us
  faults-Apply h us w =
      ap (λ (f : Wanted → Faults). f w) (folds.fold-Apply (Wanted → Faults) (term_faults_step text symbols scope) h us)
      ∙ ap (λ (n : ℕ). head_fault w (head_place h) n (head_type text symbols h) ++ argument_faults (arguments (head_type text symbols h)) (map faults_of us)) (length-map us faults_of)

  means-Variable : (s : Span) → meant (written.Variable s) ≡ record { number = None; term = variable_term (bound_by scope (bytes_at text s)) }
  means-Variable s = folds.fold-Variable TermMeaning (term_meaning_step text symbols scope) s

  means-Numeral : (m : Number) → meant (written.Numeral m) ≡ record { number = Some (Value m.value); term = term.Num m.value }
  means-Numeral m = folds.fold-Numeral TermMeaning (term_meaning_step text symbols scope) m

  means-Apply : (h : Head) (us : List WrittenTerm) → meant (written.Apply h us) ≡ record { number = head_number h (map (λ m. m.number) (map meant us)); term = head_term text symbols h (map meant us) }
  means-Apply h us = folds.fold-Apply TermMeaning (term_meaning_step text symbols scope) h us

  is_meant : (u : WrittenTerm) (m : TermMeaning) (r : ReadMeaning) → meant u ≡ m → r.number ≡ m.number → r.term ≡ m.term → IsMeant (meant u) r
  is_meant u m r e n i = subst (λ (x : TermMeaning). IsMeant x r) (sym e) (record { number = n; term = i })

  pub variable_stops : (s : Span) (w : Wanted) (e : Stop) → Stops e (own_fault w s.start (bound_sort text symbols scope s)) → Stops e (faults_of (written.Variable s) w)
  variable_stops s w e h = stops_same e (faults_of (written.Variable s) w) (own_fault w s.start (bound_sort text symbols scope s)) (faults-Variable s w) h

  pub variable_reads : (s : Span) (w : Wanted) (r : ReadMeaning) → own_fault w s.start (bound_sort text symbols scope s) ≡ [] → r.number ≡ None → r.term ≡ variable_term (bound_by scope (bytes_at text s))
      → (faults_of (written.Variable s) w ≡ []) × IsMeant (meant (written.Variable s)) r
  variable_reads s w r none n i = (faults-Variable s w ∙ none, is_meant (written.Variable s) _ r (means-Variable s) n i)

  pub numeral_stops : (m : Number) (w : Wanted) (e : Stop) → Stops e (own_fault w m.span.start (Some sorts.Int)) → Stops e (faults_of (written.Numeral m) w)
  numeral_stops m w e h = stops_same e (faults_of (written.Numeral m) w) (own_fault w m.span.start (Some sorts.Int)) (faults-Numeral m w) h

  pub numeral_reads : (m : Number) (w : Wanted) (r : ReadMeaning) → own_fault w m.span.start (Some sorts.Int) ≡ [] → r.number ≡ Some (Value m.value) → r.term ≡ term.Num m.value
      → (faults_of (written.Numeral m) w ≡ []) × IsMeant (meant (written.Numeral m)) r
  numeral_reads m w r none n i = (faults-Numeral m w ∙ none, is_meant (written.Numeral m) _ r (means-Numeral m) n i)

  pub apply_stops : (h : Head) (us : List WrittenTerm) (w : Wanted) (e : Stop) → Stops e (head_faults text symbols scope w h us) → Stops e (faults_of (written.Apply h us) w)
  apply_stops h us w e k = stops_same e (faults_of (written.Apply h us) w) (head_faults text symbols scope w h us) (faults-Apply h us w) k

  pub apply_reads : (h : Head) (us : List WrittenTerm) (w : Wanted) (args : Arguments) (r : ReadMeaning) → (head_faults text symbols scope w h us ≡ []) × AreMeant (map meant us) args
      → r.number ≡ head_number h args.numbers → r.term ≡ applied text symbols h args → (faults_of (written.Apply h us) w ≡ []) × IsMeant (meant (written.Apply h us)) r
  apply_reads h us w args r k n i = (
    faults-Apply h us w ∙ k.0,
    is_meant (written.Apply h us) _ r (means-Apply h us) (n ∙ ap (head_number h) k.1.numbers) (i ∙ applied_is text symbols h (map meant us) args k.1),
  )

  -- ---- heads

  module _ (w : Wanted) (h : Head) (us : List WrittenTerm) (at : ℕ) (ty : Option HeadType) (place : at ≡ head_place h) (typed : ty ≡ head_type text symbols h) where
    own_same : head_fault w at (length us) ty ≡ head_fault w (head_place h) (length us) (head_type text symbols h)
    own_same = ap (λ (x : ℕ). head_fault w x (length us) ty) place ∙ ap (head_fault w (head_place h) (length us)) typed

    pub head_stops : (f : Later) → head_fault w at (length us) ty ≡ f ∷ [] → Stops (stops.Fault f) (head_faults text symbols scope w h us)
    head_stops f e =
        let own : head_fault w (head_place h) (length us) (head_type text symbols h) ≡ f ∷ [] = sym own_same ∙ e in
        stops_same (stops.Fault f) (head_faults text symbols scope w h us) ((f ∷ []) ++ argument_faults (arguments (head_type text symbols h)) (map faults_of us))
        (ap (λ (fs : Faults). fs ++ argument_faults (arguments (head_type text symbols h)) (map faults_of us)) own) refl

    pub head_goes_on : (ss : List Sort) → head_fault w at (length us) ty ≡ [] → ss ≡ arguments ty → head_faults text symbols scope w h us ≡ argument_faults ss (map faults_of us)
    head_goes_on ss e sorted =
        ap (λ (fs : Faults). fs ++ argument_faults (arguments (head_type text symbols h)) (map faults_of us)) (sym own_same ∙ e)
        ∙ ap (λ (xs : List Sort). argument_faults xs (map faults_of us)) (sym (sorted ∙ ap arguments typed))

  -- ---- both sides of an equation

  pub sides_stop_first : (s u : WrittenTerm) (e : Stop) → Stops e (faults_of s wanted.Term) → Stops e (relation_faults text symbols scope s u)
  sides_stop_first s u e h = stops_sooner e (faults_of s wanted.Term) (faults_of u (right_side (term_sort text symbols scope s))) h

  pub sides_stop_second : (s u : WrittenTerm) (w : Wanted) (e : Stop) → faults_of s wanted.Term ≡ [] → w ≡ right_side (term_sort text symbols scope s) → Stops e (faults_of u w)
      → Stops e (relation_faults text symbols scope s u)
  sides_stop_second s u w e none asks h =
      stops_later e (faults_of s wanted.Term) (faults_of u (right_side (term_sort text symbols scope s))) none (subst (λ (x : Wanted). Stops e (faults_of u x)) asks h)

  pub sides_read : (s u : WrittenTerm) (w : Wanted) → faults_of s wanted.Term ≡ [] → w ≡ right_side (term_sort text symbols scope s) → faults_of u w ≡ [] → relation_faults text symbols scope s u ≡ []
  sides_read s u w none asks other =
      ap (λ (fs : Faults). fs ++ faults_of u (right_side (term_sort text symbols scope s))) none ∙ sym (ap (faults_of u) asks) ∙ other

  terms_alike : (us : List WrittenTerm) → map (λ m. m.term) (map meant us) ≡ map (term_of text symbols scope) us
  terms_alike [] = refl
  terms_alike (u ∷ us) = ap (λ (ms : List Term). term_of text symbols scope u ∷ ms) (terms_alike us)

  pub all_terms : (us : List WrittenTerm) (args : Arguments) → AreMeant (map meant us) args → args.terms ≡ map (term_of text symbols scope) us
  all_terms us args h = h.terms ∙ terms_alike us
