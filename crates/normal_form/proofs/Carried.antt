-- A fact of literals that the recursion on well typed formulas carries, beside a fact of what is in scope.
use Rattle.std.proofs.Common.{◌≡◌, ℕ, ◌+◌, Bool, true, false, ◌&&◌, not, List, [], ◌∷◌, ◌++◌, length, map, fold, refl, ap, ◌∙◌, subst}
use Rattle.std.specs.Option.{option_map_or}
use Rattle.std.specs.List.{list_all}
use Rattle.std.proofs.lemmas.List.{append-nil, length-map}
use Rattle.term_base.specs.declared.symbols.Symbol.{Symbol}
use Rattle.term_base.specs.declared.variables.Variable.{Variable}
use Rattle.term_base.specs.declared.terms.Term.{Term}
use Rattle.term_base.specs.declared.terms.Term.TheVariants as term
use Rattle.term_base.specs.declared.clauses.Literal.{Literal}
use Rattle.term_base.specs.Trees.{tree}
use Rattle.formula_base.specs.declared.formulas.Formula.{Formula}
use Rattle.formula_base.specs.declared.problems.Problem.{Problem}
use Rattle.formula_base.specs.FormulaFolds.{fold-True, fold-False, fold-Same, fold-Less, fold-LessEq, fold-Not, fold-Implies, fold-Iff, fold-All, fold-Some, fold-Atom, fold-And, fold-Or}
use Rattle.formula_base.specs.FormulaInduction.{Each, formula_induction}
use Rattle.formula_base.specs.Typing.{is_predicate, is_equation, is_inequality, inside, is_typed, typed_step, IsWellTyped}
use Rattle.normal_form.specs.declared.scopes.Scope.{Scope}
use Rattle.normal_form.specs.Cnf.{Literals, Meaning, cnf, cnf_step, join, appended, joined, instance, with_universal, with_skolem, skolem, skolem_terms, unit, atom, same, less, less_eq, always, visit, all_symbols, negated, conjunction, disjunction, implication, equivalence, quantified}
use Rattle.normal_form.specs.Clauses.{Signed, with_sign, signed, nothing_bound, made_from, made}
use Rattle.normal_form.proofs.Signature.{StandsAt, stands_between, stands_first, stands_second}
use Rattle.normal_form.proofs.Sorted.{and_left, and_right}

module _ (P : Literal → Type 0) where
  abbrev pub OfClause : Literals → Type 0
  OfClause [] = Unit {0}
  OfClause (l ∷ ls) = P l × OfClause ls

  abbrev pub OfAll : List Literals → Type 0
  OfAll [] = Unit {0}
  OfAll (c ∷ cs) = OfClause c × OfAll cs

  abbrev pub OfEach : List (List Literals) → Type 0
  OfEach [] = Unit {0}
  OfEach (m ∷ ms) = OfAll m × OfEach ms

  clause_append : (c d : Literals) → OfClause c → OfClause d → OfClause (c ++ d)
  clause_append [] d h k = k
  clause_append (l ∷ c) d h k = (h.0, clause_append c d h.1 k)

  all_append : (xs ys : List Literals) → OfAll xs → OfAll ys → OfAll (xs ++ ys)
  all_append [] ys h k = k
  all_append (x ∷ xs) ys h k = (h.0, all_append xs ys h.1 k)

  one_join : (c : Literals) (right : List Literals) → OfClause c → OfAll right → OfAll (map (λ d. c ++ d) right)
  one_join c [] h k = tt
  one_join c (d ∷ right) h k = (clause_append c d h k.0, one_join c right h k.1)

  all_join : (left right : List Literals) → OfAll left → OfAll right → OfAll (join left right)
  all_join [] right h k = tt
  all_join (c ∷ left) right h k = all_append (map (λ d. c ++ d) right) (join left right) (one_join c right h.0 k) (all_join left right h.1 k)

  all_appended : (ms : List (List Literals)) → OfEach ms → OfAll (appended ms)
  all_appended [] h = tt
  all_appended (m ∷ ms) h = all_append m (appended ms) h.0 (all_appended ms h.1)

  all_joined_from : (acc : List Literals) (ms : List (List Literals)) → OfAll acc → OfEach ms → OfAll (fold join acc ms)
  all_joined_from acc [] h k = h
  all_joined_from acc (m ∷ ms) h k = all_joined_from (join acc m) ms (all_join acc m h k.0) k.1

  all_joined : (ms : List (List Literals)) → OfEach ms → OfAll (joined ms)
  all_joined ms h = all_joined_from ([] ∷ []) ms (tt, tt) h

  one_unit : (l : Literal) → P l → OfAll (unit l).clauses
  one_unit l h = ((h, tt), tt)

-- the fact of what is in scope is kept inside binders, and gives the fact of the literals of atoms
pub record Carries (larger smaller : List Symbol) (P : Literal → Type 0) (Q : List Variable → List (ℕ × Term) → Type 0) : Type 0 where
  pub nothing : Q [] []
  pub universals : (vs binders : List Variable) (terms : List (ℕ × Term)) → Q binders terms → Q (inside vs binders) (terms ++ map (λ v. (v.id, term.Var v)) vs)
  pub skolems : (us vs binders : List Variable) (terms : List (ℕ × Term)) (n : ℕ) → Q binders terms → StandsAt larger n (map (skolem us) vs) → Q (inside vs binders) (terms ++ skolem_terms n us vs)
  pub at_atom : (binders : List Variable) (sign : Bool) (scope : Scope) (s : Term) → is_predicate smaller binders (tree s) ≡ true → Q binders scope.terms → P (atom sign (instance scope s))
  pub at_same : (binders : List Variable) (sign : Bool) (scope : Scope) (s u : Term) → is_equation smaller binders (tree s) (tree u) ≡ true → Q binders scope.terms → P (same sign (instance scope s) (instance scope u))
  pub at_less : (binders : List Variable) (sign : Bool) (scope : Scope) (s u : Term) → is_inequality smaller binders (tree s) (tree u) ≡ true → Q binders scope.terms → P (less sign (instance scope s) (instance scope u))
  pub at_less_eq : (binders : List Variable) (sign : Bool) (scope : Scope) (s u : Term) → is_inequality smaller binders (tree s) (tree u) ≡ true → Q binders scope.terms → P (less_eq sign (instance scope s) (instance scope u))

module _ (larger smaller : List Symbol) (P : Literal → Type 0) (Q : List Variable → List (ℕ × Term) → Type 0) (c : Carries larger smaller P Q) where
  -- a well typed formula gives clauses of such literals, whatever is in scope
  abbrev Good : Meaning → (List Variable → Bool) → Type 0
  Good m typed = (binders : List Variable) (sign : Bool) (scope : Scope) (next : ℕ) → typed binders ≡ true → Q binders scope.terms
      → StandsAt larger next (m sign scope next).symbols → OfAll P (m sign scope next).clauses

  abbrev AllGood : List Meaning → List (List Variable → Bool) → Type 0
  AllGood [] [] = Unit {0}
  AllGood (m ∷ ms) (t ∷ ts) = Good m t × AllGood ms ts
  AllGood _ _ = ⊥

  visit_good : (ms : List Meaning) (ts : List (List Variable → Bool)) → AllGood ms ts → (binders : List Variable) (sign : Bool) (scope : Scope) (next : ℕ) → list_all (λ a. a binders) ts ≡ true
      → Q binders scope.terms → StandsAt larger next (all_symbols (visit ms sign scope next)) → OfEach P (map (λ m. m.clauses) (visit ms sign scope next))
  visit_good [] ts h binders sign scope next typed scoped stands = tt
  visit_good (m ∷ ms) [] h binders sign scope next typed scoped stands = absurd h
  visit_good (m ∷ ms) (t ∷ ts) h binders sign scope next typed scoped stands =
      let first = (m sign scope next).symbols in
      let rest = all_symbols (visit ms sign scope (next + length first)) in (
        h.0 binders sign scope next (and_left (t binders) (list_all (λ a. a binders) ts) typed) scoped (stands_first larger first rest next stands),
        visit_good ms ts h.1 binders sign scope (next + length first) (and_right (t binders) (list_all (λ a. a binders) ts) typed) scoped (stands_second larger first rest next stands),
      )

  conjunction_good : (ms : List Meaning) (ts : List (List Variable → Bool)) → AllGood ms ts → Good (conjunction ms) (λ binders. list_all (λ a. a binders) ts)
  conjunction_good ms ts h binders true scope next typed scoped stands = all_appended P (map (λ m. m.clauses) (visit ms true scope next)) (visit_good ms ts h binders true scope next typed scoped stands)
  conjunction_good ms ts h binders false scope next typed scoped stands = all_joined P (map (λ m. m.clauses) (visit ms false scope next)) (visit_good ms ts h binders false scope next typed scoped stands)

  disjunction_good : (ms : List Meaning) (ts : List (List Variable → Bool)) → AllGood ms ts → Good (disjunction ms) (λ binders. list_all (λ a. a binders) ts)
  disjunction_good ms ts h binders true scope next typed scoped stands = all_joined P (map (λ m. m.clauses) (visit ms true scope next)) (visit_good ms ts h binders true scope next typed scoped stands)
  disjunction_good ms ts h binders false scope next typed scoped stands = all_appended P (map (λ m. m.clauses) (visit ms false scope next)) (visit_good ms ts h binders false scope next typed scoped stands)

  two_typed : (a b : Bool) → a && b ≡ true → a && (b && true) ≡ true
  two_typed true true h = refl
  two_typed true false h = h
  two_typed false b h = h

  implication_good : (m n : Meaning) (t u : List Variable → Bool) → Good m t → Good n u → Good (implication m n) (λ binders. t binders && u binders)
  implication_good m n t u h k binders sign scope next typed scoped stands =
      disjunction_good (negated m ∷ n ∷ []) (t ∷ u ∷ []) ((λ bs s sc at. h bs (not s) sc at), (k, tt)) binders sign scope next (two_typed (t binders) (u binders) typed) scoped stands

  turned : (a b : Bool) → a && b ≡ true → b && a ≡ true
  turned true true h = refl
  turned true false h = h
  turned false true h = h
  turned false false h = h

  equivalence_good : (m n : Meaning) (t u : List Variable → Bool) → Good m t → Good n u → Good (equivalence m n) (λ binders. t binders && u binders)
  equivalence_good m n t u h k binders sign scope next typed scoped stands =
      let there = t binders && u binders in
      let back = u binders && t binders in
      let both = ap (λ (b : Bool). b && (back && true)) typed ∙ ap (λ (b : Bool). b && true) (turned (t binders) (u binders) typed) in
      conjunction_good (implication m n ∷ implication n m ∷ []) ((λ bs. t bs && u bs) ∷ (λ bs. u bs && t bs) ∷ [])
      (implication_good m n t u h k, (implication_good n m u t k h, tt)) binders sign scope next both scoped stands

  quantified_good : (universal : Bool) (vs : List Variable) (m : Meaning) (t : List Variable → Bool) → Good m t → Good (quantified universal vs m) (λ binders. t (inside vs binders))
  quantified_good true vs m t h binders sign scope next typed scoped stands =
      h (inside vs binders) sign (with_universal vs scope) next typed (c.universals vs binders scope.terms scoped) stands
  quantified_good false vs m t h binders sign scope next typed scoped stands =
      let own = map (skolem scope.universal) vs in
      let inner = (m sign (with_skolem next vs scope) (next + length vs)).symbols in
      let behind = subst (λ (n : ℕ). StandsAt larger (next + n) inner) (length-map vs (skolem scope.universal)) (stands_second larger own inner next stands) in
      h (inside vs binders) sign (with_skolem next vs scope) (next + length vs) typed
      (c.skolems scope.universal vs binders scope.terms next scoped (stands_first larger own inner next stands)) behind

  -- ---- formulas

  abbrev IsGood : Formula → Type 0
  IsGood g = Good (cnf g) (is_typed smaller g)

  each_good : (gs : List Formula) → Each IsGood gs → AllGood (map cnf gs) (map (is_typed smaller) gs)
  each_good [] h = tt
  each_good (g ∷ gs) h = (h.0, each_good gs h.1)

  always_good : (sign : Bool) → OfAll P (always sign).clauses
  always_good true = tt
  always_good false = (tt, tt)

  -- from the equations of the two folds
  by_equations : (m m' : Meaning) (t t' : List Variable → Bool) → m ≡ m' → t ≡ t' → Good m' t' → Good m t
  by_equations m m' t t' p q h = rw (p, q) h

  pub good : (g : Formula) → IsGood g
  good = formula_induction IsGood
      (by_equations _ _ _ _ (fold-True Meaning cnf_step) (fold-True (List Variable → Bool) (typed_step smaller)) (λ binders sign scope next typed scoped stands. always_good sign))
      (by_equations _ _ _ _ (fold-False Meaning cnf_step) (fold-False (List Variable → Bool) (typed_step smaller)) (λ binders sign scope next typed scoped stands. always_good (not sign)))
      (λ s. by_equations _ _ _ _ (fold-Atom Meaning cnf_step s) (fold-Atom (List Variable → Bool) (typed_step smaller) s)
      (λ binders sign scope next typed scoped stands. one_unit P (atom sign (instance scope s)) (c.at_atom binders sign scope s typed scoped)))
      (λ s u. by_equations _ _ _ _ (fold-Same Meaning cnf_step s u) (fold-Same (List Variable → Bool) (typed_step smaller) s u)
      (λ binders sign scope next typed scoped stands. one_unit P (same sign (instance scope s) (instance scope u)) (c.at_same binders sign scope s u typed scoped)))
      (λ s u. by_equations _ _ _ _ (fold-Less Meaning cnf_step s u) (fold-Less (List Variable → Bool) (typed_step smaller) s u)
      (λ binders sign scope next typed scoped stands. one_unit P (less sign (instance scope s) (instance scope u)) (c.at_less binders sign scope s u typed scoped)))
      (λ s u. by_equations _ _ _ _ (fold-LessEq Meaning cnf_step s u) (fold-LessEq (List Variable → Bool) (typed_step smaller) s u)
      (λ binders sign scope next typed scoped stands. one_unit P (less_eq sign (instance scope s) (instance scope u)) (c.at_less_eq binders sign scope s u typed scoped)))
      (λ g h. by_equations _ _ _ _ (fold-Not Meaning cnf_step g) (fold-Not (List Variable → Bool) (typed_step smaller) g) (λ binders sign scope next. h binders (not sign) scope next))
      (λ gs h. by_equations _ _ _ _ (fold-And Meaning cnf_step gs) (fold-And (List Variable → Bool) (typed_step smaller) gs) (conjunction_good (map cnf gs) (map (is_typed smaller) gs) (each_good gs h)))
      (λ gs h. by_equations _ _ _ _ (fold-Or Meaning cnf_step gs) (fold-Or (List Variable → Bool) (typed_step smaller) gs) (disjunction_good (map cnf gs) (map (is_typed smaller) gs) (each_good gs h)))
      (λ g h p q. by_equations _ _ _ _ (fold-Implies Meaning cnf_step g h) (fold-Implies (List Variable → Bool) (typed_step smaller) g h) (implication_good (cnf g) (cnf h) (is_typed smaller g) (is_typed smaller h) p q))
      (λ g h p q. by_equations _ _ _ _ (fold-Iff Meaning cnf_step g h) (fold-Iff (List Variable → Bool) (typed_step smaller) g h) (equivalence_good (cnf g) (cnf h) (is_typed smaller g) (is_typed smaller h) p q))
      (λ vs g p. by_equations _ _ _ _ (fold-All Meaning cnf_step vs g) (fold-All (List Variable → Bool) (typed_step smaller) vs g) (λ binders sign scope next. quantified_good sign vs (cnf g) (is_typed smaller g) p binders sign scope next))
      (λ vs g p. by_equations _ _ _ _ (fold-Some Meaning cnf_step vs g) (fold-Some (List Variable → Bool) (typed_step smaller) vs g) (λ binders sign scope next. quantified_good (not sign) vs (cnf g) (is_typed smaller g) p binders sign scope next))

  -- ---- the formulas of a problem

  abbrev AllTyped : List Signed → Type 0
  AllTyped [] = Unit {0}
  AllTyped (s ∷ rest) = (is_typed smaller s.formula [] ≡ true) × AllTyped rest

  with_sign_typed : (sign : Bool) (gs : List Formula) → list_all (λ g. is_typed smaller g []) gs ≡ true → AllTyped (with_sign sign gs)
  with_sign_typed sign [] h = tt
  with_sign_typed sign (g ∷ gs) h =
      (and_left (is_typed smaller g []) (list_all (λ f. is_typed smaller f []) gs) h, with_sign_typed sign gs (and_right (is_typed smaller g []) (list_all (λ f. is_typed smaller f []) gs) h))

  append_typed : (xs ys : List Signed) → AllTyped xs → AllTyped ys → AllTyped (xs ++ ys)
  append_typed [] ys h k = k
  append_typed (x ∷ xs) ys h k = (h.0, append_typed xs ys h.1 k)

  made_good : (ss : List Signed) → AllTyped ss → (next : ℕ) → StandsAt larger next (all_symbols (made_from ss next)) → OfEach P (map (λ m. m.clauses) (made_from ss next))
  made_good [] h next stands = tt
  made_good (s ∷ rest) h next stands =
      let first = (cnf s.formula s.sign nothing_bound next).symbols in
      let behind = all_symbols (made_from rest (next + length first)) in (
        good s.formula [] s.sign nothing_bound next h.0 c.nothing (stands_first larger first behind next stands),
        made_good rest h.1 (next + length first) (stands_second larger first behind next stands),
      )

list_all_parts : (f : Formula → Bool) (xs ys : List Formula) → list_all f (xs ++ ys) ≡ true → (list_all f xs ≡ true) × (list_all f ys ≡ true)
list_all_parts f [] ys h = (refl, h)
list_all_parts f (x ∷ xs) ys h =
    let rest = list_all_parts f xs ys (and_right (f x) (list_all f (xs ++ ys)) h) in
    (ap (λ (b : Bool). b && list_all f xs) (and_left (f x) (list_all f (xs ++ ys)) h) ∙ rest.0, rest.1)

-- the clauses of a well typed problem have such literals
pub of_problem : (p : Problem) (P : Literal → Type 0) (Q : List Variable → List (ℕ × Term) → Type 0) → Carries (p.symbols ++ (made p).symbols) p.symbols P Q → IsWellTyped p → OfAll P (made p).clauses
of_problem p P Q c typed =
    let larger = p.symbols ++ (made p).symbols in
    let conjecture = option_map_or (λ g. g ∷ []) p.conjecture [] in
    let parts = list_all_parts (λ g. is_typed p.symbols g []) p.premises conjecture typed in
    let all = append_typed larger p.symbols P Q c (with_sign true p.premises) (with_sign false conjecture)
    (with_sign_typed larger p.symbols P Q c true p.premises parts.0) (with_sign_typed larger p.symbols P Q c false conjecture parts.1) in
    let stands = subst (λ (xs : List Symbol). StandsAt (p.symbols ++ xs) (length p.symbols) (made p).symbols) (append-nil (made p).symbols) (stands_between p.symbols (made p).symbols []) in
    all_appended P (map (λ m. m.clauses) (made_from (signed p) (length p.symbols))) (made_good larger p.symbols P Q c (signed p) all (length p.symbols) stands)
