-- Arguments, formulas and binders that are read one after the other.
use Rattle.std.proofs.Common.{◌≡◌, ℕ, ◌+◌, ◌<◌, List, [], ◌∷◌, ◌++◌, map, length, get_or, drop, ◌≤◌, refl, sym, ◌∙◌, ap, subst, append_assoc, append-nil}
use Rattle.std.specs.Prelude.{Option, Ok}
use Rattle.std.proofs.lemmas.List.{at_drop_more, at_drop_all}
use Rattle.term_base.specs.declared.symbols.Sort.{Sort}
use Rattle.term_base.specs.declared.terms.Term.{Term}
use Rattle.formula_base.specs.declared.formulas.Formula.{Formula}
use Rattle.tff_grammar.specs.declared.trees.Term.{Term as WrittenTerm}
use Rattle.tff_grammar.specs.declared.trees.Formula.{Formula as WrittenFormula}
use Rattle.tff_signature.specs.Faults.{Faults}
use Rattle.tff_reader.specs.declared.stops.Stop.{Stop}
use Rattle.tff_reader.specs.declared.numbers.Computed.{Computed}
use Rattle.tff_reader.specs.declared.heads.Wanted.{Wanted}
use Rattle.tff_reader.specs.declared.scopes.Scope.{Scope as KeptScope}
use Rattle.tff_reader.specs.declared.terms.TermMeaning.{TermMeaning as ReadMeaning}
use Rattle.tff_reader.specs.declared.terms.Arguments.{Arguments}
use Rattle.tff_reader.specs.Stops.{Stops}
use Rattle.tff_reader.specs.Scopes.{Scope}
use Rattle.tff_reader.specs.Bindings.{Binds}
use Rattle.tff_reader.specs.Typing.{asked, argument_faults}
use Rattle.tff_reader.specs.Meaning.{TermMeaning, Meaning, members, behind, faults_of, formulas_of}
use Rattle.tff_reader.specs.Arguments.{IsMeant, AreMeant, AreOnWay}
use Rattle.tff_reader.specs.Contexts.{OnRead, OnReadAll, IsOnWay}
use Rattle.tff_reader.proofs.StopLemmas.{stops_sooner, stops_same}

-- the next item of those that are left
pub next_left : {A B : Type 0} (f : A → B) (xs : List A) (i : ℕ) (x : A) → i < length xs → x ≡ get_or xs i x → map f (drop i xs) ≡ f x ∷ map f (drop (i + 1) xs)
next_left f xs i x lt is = at_drop_more (map f) xs i x lt ∙ ap (λ y. f y ∷ map f (drop (i + 1) xs)) (sym is)

put_behind : {A : Type 0} (front back : List A) (x : A) → front ++ x ∷ back ≡ (front ++ x ∷ []) ++ back
put_behind front back x = sym (append_assoc front (x ∷ []) back)

-- ---- arguments

args_next : (numbers : List (Option Computed)) (terms : List Term) (faults : Faults) (ss : List Sort) (ms : List TermMeaning) (m : TermMeaning) (rest : List TermMeaning) (a : Wanted → Faults)
    (left : List (Wanted → Faults)) (r : ReadMeaning) → AreOnWay numbers terms faults ss ms (m ∷ rest) (a ∷ left) → a (asked ss) ≡ [] → IsMeant m r
    → AreOnWay (numbers ++ r.number ∷ []) (terms ++ r.term ∷ []) faults (drop 1 ss) ms rest left
args_next numbers terms faults ss ms m rest a left r w none means = record {
  numbers_read = w.numbers_read ∙ ap (λ c. numbers ++ c ∷ map (λ x. x.number) rest) (sym means.number) ∙ put_behind numbers (map (λ x. x.number) rest) r.number;
  terms_read = w.terms_read ∙ ap (λ t. terms ++ t ∷ map (λ x. x.term) rest) (sym means.term) ∙ put_behind terms (map (λ x. x.term) rest) r.term;
  faults_left = w.faults_left ∙ ap (λ fs. fs ++ argument_faults (drop 1 ss) left) none;
}

args_stop : (e : Stop) (numbers : List (Option Computed)) (terms : List Term) (faults : Faults) (ss : List Sort) (ms rest : List TermMeaning) (a : Wanted → Faults)
    (left : List (Wanted → Faults)) → AreOnWay numbers terms faults ss ms rest (a ∷ left) → Stops e (a (asked ss)) → Stops e faults
args_stop e numbers terms faults ss ms rest a left w h =
    stops_same e faults (a (asked ss) ++ argument_faults (drop 1 ss) left) w.faults_left (stops_sooner e (a (asked ss)) (argument_faults (drop 1 ss) left) h)

args_end : (faults : Faults) (ss : List Sort) (ms : List TermMeaning) (r : Arguments) → AreOnWay r.numbers r.terms faults ss ms [] [] → (faults ≡ []) × AreMeant ms r
args_end faults ss ms r w = (w.faults_left, record { numbers = sym (w.numbers_read ∙ append-nil r.numbers); terms = sym (w.terms_read ∙ append-nil r.terms) })

-- the same of a list of written arguments
pub args_begin : (numbers : List (Option Computed)) (terms : List Term) (faults : Faults) (ss : List Sort) (ms : List TermMeaning) (left : List (Wanted → Faults))
    → numbers ≡ [] → terms ≡ [] → faults ≡ argument_faults ss left → AreOnWay numbers terms faults ss ms ms left
args_begin numbers terms faults ss ms left n t e = record {
  numbers_read = sym (ap (λ (xs : List (Option Computed)). xs ++ map (λ x. x.number) ms) n);
  terms_read = sym (ap (λ (xs : List Term). xs ++ map (λ x. x.term) ms) t);
  faults_left = e;
}

module _ (f : WrittenTerm → TermMeaning) (a : WrittenTerm → Wanted → Faults) (us : List WrittenTerm) (i : ℕ) (faults : Faults) (ss : List Sort) (ms : List TermMeaning) where
  abbrev Left : List (Option Computed) → List Term → ℕ → List Sort → Type 0
  Left numbers terms j sorts = AreOnWay numbers terms faults sorts ms (map f (drop j us)) (map a (drop j us))

  module _ (numbers : List (Option Computed)) (terms : List Term) (u : WrittenTerm) (w : Wanted) (left : Left numbers terms i ss) (below : i < length us) (is : u ≡ get_or us i u) (asks : w ≡ asked ss) where
    here : AreOnWay numbers terms faults ss ms (f u ∷ map f (drop (i + 1) us)) (a u ∷ map a (drop (i + 1) us))
    here =
        subst (λ (xs : List TermMeaning). AreOnWay numbers terms faults ss ms xs (a u ∷ map a (drop (i + 1) us))) (next_left f us i u below is)
        (subst (λ (xs : List (Wanted → Faults)). AreOnWay numbers terms faults ss ms (map f (drop i us)) xs) (next_left a us i u below is) left)

    pub args_step_stop : (e : Stop) → Stops e (a u w) → Stops e faults
    args_step_stop e h =
        args_stop e numbers terms faults ss ms (f u ∷ map f (drop (i + 1) us)) (a u) (map a (drop (i + 1) us)) here (subst (λ (x : Wanted). Stops e (a u x)) asks h)

    pub args_step_next : (r : ReadMeaning) (numbers' : List (Option Computed)) (terms' : List Term) (ss' : List Sort) → a u w ≡ [] → IsMeant (f u) r
        → numbers' ≡ numbers ++ r.number ∷ [] → terms' ≡ terms ++ r.term ∷ [] → ss' ≡ drop 1 ss → Left numbers' terms' (i + 1) ss'
    args_step_next r numbers' terms' ss' none means n t s =
        let next = args_next numbers terms faults ss ms (f u) (map f (drop (i + 1) us)) (a u) (map a (drop (i + 1) us)) r here (sym (ap (a u) asks) ∙ none) means in
        subst (λ (xs : List Sort). Left numbers' terms' (i + 1) xs) (sym s)
        (subst (λ (xs : List Term). Left numbers' xs (i + 1) (drop 1 ss)) (sym t) (subst (λ (xs : List (Option Computed)). Left xs (terms ++ r.term ∷ []) (i + 1) (drop 1 ss)) (sym n) next))

  pub args_all : (r : Arguments) → Left r.numbers r.terms i ss → length us ≤ i → (faults ≡ []) × AreMeant ms r
  args_all r left over =
      args_end faults ss ms r
      (subst (λ (xs : List TermMeaning). AreOnWay r.numbers r.terms faults ss ms xs []) (at_drop_all (map f) us i over)
      (subst (λ (xs : List (Wanted → Faults)). AreOnWay r.numbers r.terms faults ss ms (map f (drop i us)) xs) (at_drop_all (map a) us i over) left))

-- ---- formulas

way_next : (all : List Formula) (number : ℕ) (kept kept' : KeptScope) (scope : Scope) (ms : List Meaning) (n : ℕ) (m : Meaning) (rest : List Meaning) (r : Formula × ℕ)
    → IsOnWay all number kept scope ms n (m ∷ rest) → OnRead (Ok r) kept' scope (m scope number) → IsOnWay (all ++ r.0 ∷ []) r.1 kept' scope ms n rest
way_next all number kept kept' scope ms n m rest r w h = record {
  faults = w.faults ∙ ap (λ fs. fs ++ faults_of (members rest scope (m scope number).next)) h.0 ∙ ap (λ i. faults_of (members rest scope i)) (sym h.2);
  formulas = w.formulas ∙ ap (λ a. all ++ a ∷ formulas_of (members rest scope (m scope number).next)) (sym h.1) ∙ ap (λ i. all ++ r.0 ∷ formulas_of (members rest scope i)) (sym h.2)
      ∙ put_behind all (formulas_of (members rest scope r.1)) r.0;
  next = w.next ∙ ap (λ i. behind rest scope i) (sym h.2);
  binds = h.3;
}

way_stop : (e : Stop) (all : List Formula) (number : ℕ) (kept : KeptScope) (scope : Scope) (ms : List Meaning) (n : ℕ) (m : Meaning) (rest : List Meaning)
    → IsOnWay all number kept scope ms n (m ∷ rest) → Stops e (m scope number).faults → Stops e (faults_of (members ms scope n))
way_stop e all number kept scope ms n m rest w h =
    stops_same e (faults_of (members ms scope n)) ((m scope number).faults ++ faults_of (members rest scope (m scope number).next)) w.faults
    (stops_sooner e (m scope number).faults (faults_of (members rest scope (m scope number).next)) h)

way_end : (all : List Formula) (number : ℕ) (kept : KeptScope) (scope : Scope) (ms : List Meaning) (n : ℕ) → IsOnWay all number kept scope ms n [] → OnReadAll (Ok (all, number)) kept scope ms n
way_end all number kept scope ms n w = (w.faults, sym (w.formulas ∙ append-nil all), sym w.next, w.binds)

-- the same of a list of written formulas
pub way_begin : (all : List Formula) (n : ℕ) (kept : KeptScope) (scope : Scope) (ms : List Meaning) → all ≡ [] → Binds kept scope → IsOnWay all n kept scope ms n ms
way_begin all n kept scope ms e binds = record {
  faults = refl;
  formulas = sym (ap (λ (xs : List Formula). xs ++ formulas_of (members ms scope n)) e);
  next = refl;
  binds = binds;
}

module _ (f : WrittenFormula → Meaning) (gs : List WrittenFormula) (i : ℕ) (scope : Scope) (ms : List Meaning) (n : ℕ) where
  abbrev OnWay : List Formula → ℕ → KeptScope → ℕ → Type 0
  OnWay all number kept j = IsOnWay all number kept scope ms n (map f (drop j gs))

  module _ (all : List Formula) (number : ℕ) (kept : KeptScope) (g : WrittenFormula) (way : OnWay all number kept i) (below : i < length gs) (is : g ≡ get_or gs i g) where
    at_member : IsOnWay all number kept scope ms n (f g ∷ map f (drop (i + 1) gs))
    at_member = subst (λ (xs : List Meaning). IsOnWay all number kept scope ms n xs) (next_left f gs i g below is) way

    pub way_step_stop : (e : Stop) → Stops e (f g scope number).faults → Stops e (faults_of (members ms scope n))
    way_step_stop e h = way_stop e all number kept scope ms n (f g) (map f (drop (i + 1) gs)) at_member h

    pub way_step_next : (all' : List Formula) (kept' : KeptScope) (r : Formula × ℕ) → OnRead (Ok r) kept' scope (f g scope number) → all' ≡ all ++ r.0 ∷ [] → OnWay all' r.1 kept' (i + 1)
    way_step_next all' kept' r h e =
        subst (λ (xs : List Formula). OnWay xs r.1 kept' (i + 1)) (sym e) (way_next all number kept kept' scope ms n (f g) (map f (drop (i + 1) gs)) r at_member h)

  pub way_all : (all : List Formula) (number : ℕ) (kept : KeptScope) → OnWay all number kept i → length gs ≤ i → OnReadAll (Ok (all, number)) kept scope ms n
  way_all all number kept way over =
      way_end all number kept scope ms n (subst (λ (xs : List Meaning). IsOnWay all number kept scope ms n xs) (at_drop_all (map f) gs i over) way)
