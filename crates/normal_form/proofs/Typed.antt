-- A well typed problem gives well sorted clauses.
use Rattle.std.proofs.Common.{◌≡◌, ℕ, ◌+◌, Bool, true, false, ◌&&◌, not, ◌==◌, List, [], ◌∷◌, ◌++◌, map, reverse, refl, sym, ap, ◌∙◌, subst, append_assoc}
use Rattle.std.specs.Prelude.{Option, Some, None, slice_get, pos, if◌then◌else◌}
use Rattle.std.specs.Option.{option_map_or}
use Rattle.std.specs.List.{find, list_all}
use Rattle.std.proofs.lemmas.List.{append-nil, reverse-append}
use Rattle.term_base.specs.declared.symbols.Sort.{Sort}
use Rattle.term_base.specs.declared.symbols.Sort.TheVariants.{Int, Truth}
use Rattle.term_base.specs.declared.symbols.Symbol.{Symbol}
use Rattle.term_base.specs.declared.variables.Variable.{Variable}
use Rattle.term_base.specs.declared.terms.Term.{Term}
use Rattle.term_base.specs.declared.terms.Term.TheVariants as term
use Rattle.term_base.specs.declared.clauses.Literal.{Literal}
use Rattle.term_base.specs.declared.clauses.Literal.TheVariants.{Equal, Differ, AtMost}
use Rattle.term_base.specs.Same.{same_variable}
use Rattle.term_base.specs.SameLemmas.{same_sort-refl, same_variable-true}
use Rattle.term_base.specs.Trees.{Tree, plus, node, more, none, tree, trees}
use Rattle.term_base.specs.TreeOf.{tree-Var, tree-Num, tree-True, tree-Sum, tree-App}
use Rattle.term_base.specs.Sorting.{sort, sorts, has_sort, have_sorts}
use Rattle.term_base.specs.Clauses.{are_alike, is_lit_sorted, is_well_sorted}
use Rattle.term_base.specs.Lits.{lit, lits}
use Rattle.formula_base.specs.declared.problems.Problem.{Problem}
use Rattle.formula_base.specs.Typing.{is_bound, is_closed, is_predicate, is_equation, is_inequality, inside, IsWellTyped}
use Rattle.normal_form.specs.declared.scopes.Scope.{Scope}
use Rattle.normal_form.specs.Cnf.{Literals, at_variable, instance, skolem, skolem_terms, plus_one, atom, same, less, less_eq}
use Rattle.normal_form.specs.Numbering.{map_sides, renumber, numbered}
use Rattle.normal_form.specs.Clauses.{made, prepared}
use Rattle.normal_form.proofs.Carried.{OfClause, OfAll, Carries, of_problem}
use Rattle.normal_form.proofs.Signature.{StandsAt, Extends, extends_append}
use Rattle.normal_form.proofs.Sorted.{and_left, and_right, has_sort-some, some-has_sort, sort_put, tree_instance, sort_renumber}

-- both sides of a literal are well sorted
abbrev Fits : List Symbol → Literal → Type 0
Fits signature l = is_lit_sorted signature (lit l) ≡ true

module _ (g : List Symbol) where
  -- ---- terms

  plus_one_sorted : (a : Term) → sort g (tree a) ≡ Some Int → sort g (tree (plus_one a)) ≡ Some Int
  plus_one_sorted a e =
      ap (sort g) (tree-Sum a (term.Num (pos 1)))
      ∙ ap (λ (x : Tree). sort g (node plus (more (tree a) (more x none)))) (tree-Num (pos 1))
      ∙ ap (λ (o : Option Sort). if has_sort o Int && true then Some Int else None) e

  variables_sorted : (us : List Variable) → have_sorts (sorts g (trees (map tree (map term.Var us)))) (map (λ u. u.sort) us) ≡ true
  variables_sorted [] = refl
  variables_sorted (u ∷ us) =
      ap (λ (x : Tree). has_sort (sort g x) u.sort && have_sorts (sorts g (trees (map tree (map term.Var us)))) (map (λ w. w.sort) us)) (tree-Var u)
      ∙ ap (λ (b : Bool). b && have_sorts (sorts g (trees (map tree (map term.Var us)))) (map (λ w. w.sort) us)) (same_sort-refl u.sort)
      ∙ variables_sorted us

  skolem_sorted : (us : List Variable) (v : Variable) (n : ℕ) → slice_get g n ≡ Some (skolem us v) → sort g (tree (term.App n (map term.Var us))) ≡ Some v.sort
  skolem_sorted us v n e =
      ap (sort g) (tree-App n (map term.Var us))
      ∙ ap (λ (o : Option Symbol). if have_sorts (sorts g (trees (map tree (map term.Var us)))) (option_map_or (λ s. s.args) o []) then Some (option_map_or (λ s. s.result) o Int) else None) e
      ∙ ap (λ (b : Bool). if b then Some v.sort else None) (variables_sorted us)

  -- ---- what is in scope has the sorts of its binders

  abbrev Scoped : List Variable → List (ℕ × Term) → Type 0
  Scoped binders terms = (v : Variable) → is_bound binders v ≡ true → sort g (tree (at_variable terms v)) ≡ Some v.sort

  bind_case : (binders : List Variable) (terms : List (ℕ × Term)) → Scoped binders terms → (v w : Variable) (t : Term) → sort g (tree t) ≡ Some v.sort → (b : Bool)
      → option_map_or (λ u. same_variable u w) (if b then Some v else find (λ u. u.id == w.id) binders) false ≡ true
      → sort g (tree (option_map_or (λ p. p.1) (if b then Some (v.id, t) else find (λ p. p.0 == w.id) (reverse terms)) (term.Var w))) ≡ Some w.sort
  bind_case binders terms h v w t e true bound = e ∙ ap (λ (x : Variable). Some x.sort) (same_variable-true v w bound)
  bind_case binders terms h v w t e false bound = h w bound

  bind_one : (binders : List Variable) (terms : List (ℕ × Term)) → Scoped binders terms → (v : Variable) (t : Term) → sort g (tree t) ≡ Some v.sort → Scoped (v ∷ binders) (terms ++ (v.id, t) ∷ [])
  bind_one binders terms h v t e w bound =
      ap (λ (ps : List (ℕ × Term)). sort g (tree (option_map_or (λ p. p.1) (find (λ p. p.0 == w.id) ps) (term.Var w)))) (reverse-append terms ((v.id, t) ∷ []))
      ∙ bind_case binders terms h v w t e (v.id == w.id) bound

  bind_universals : (vs binders : List Variable) (terms : List (ℕ × Term)) → Scoped binders terms → Scoped (inside vs binders) (terms ++ map (λ v. (v.id, term.Var v)) vs)
  bind_universals [] binders terms h = subst (Scoped binders) (sym (append-nil terms)) h
  bind_universals (v ∷ vs) binders terms h =
      subst (Scoped (inside vs (v ∷ binders))) (append_assoc terms ((v.id, term.Var v) ∷ []) (map (λ u. (u.id, term.Var u)) vs))
      (bind_universals vs (v ∷ binders) (terms ++ (v.id, term.Var v) ∷ []) (bind_one binders terms h v (term.Var v) (ap (sort g) (tree-Var v))))

  bind_skolems : (us vs binders : List Variable) (terms : List (ℕ × Term)) (n : ℕ) → Scoped binders terms → StandsAt g n (map (skolem us) vs) → Scoped (inside vs binders) (terms ++ skolem_terms n us vs)
  bind_skolems us [] binders terms n h k = subst (Scoped binders) (sym (append-nil terms)) h
  bind_skolems us (v ∷ vs) binders terms n h k =
      let t = term.App n (map term.Var us) in
      subst (Scoped (inside vs (v ∷ binders))) (append_assoc terms ((v.id, t) ∷ []) (skolem_terms (n + 1) us vs))
      (bind_skolems us vs (v ∷ binders) (terms ++ (v.id, t) ∷ []) (n + 1) (bind_one binders terms h v t (skolem_sorted us v n k.0)) k.1)

-- ---- both sides of an equation

alike_both : (x y : Option Sort) → are_alike x y ≡ true → (r : Sort) × ((x ≡ Some r) × (y ≡ Some r))
alike_both None y h = cc
alike_both (Some r) y h = (r, (refl, has_sort-some y r h))

alike_from : (x y : Option Sort) (r : Sort) → x ≡ Some r → y ≡ Some r → are_alike x y ≡ true
alike_from x y r e f = ap (λ (o : Option Sort). are_alike o y) e ∙ some-has_sort y r f

ints_from : (x y : Option Sort) → x ≡ Some Int → y ≡ Some Int → has_sort x Int && has_sort y Int ≡ true
ints_from x y e f = ap (λ (o : Option Sort). has_sort o Int && has_sort y Int) e ∙ some-has_sort y Int f

module _ (larger smaller : List Symbol) (extends : Extends larger smaller) where
  -- ---- atoms

  term_sorted : (binders : List Variable) (scope : Scope) → Scoped larger binders scope.terms → (t : Term) (r : Sort) → is_closed smaller binders (tree t) ≡ true → sort smaller (tree t) ≡ Some r → sort larger (tree (instance scope t)) ≡ Some r
  term_sorted binders scope scoped t r closed e =
      ap (sort larger) (tree_instance scope t) ∙ sort_put larger smaller extends binders (λ v. tree (at_variable scope.terms v)) scoped (tree t) closed r e

  predicate_good : (binders : List Variable) (sign : Bool) (scope : Scope) (t : Term) → is_predicate smaller binders (tree t) ≡ true → Scoped larger binders scope.terms → is_lit_sorted larger (lit (atom sign (instance scope t))) ≡ true
  predicate_good binders sign scope t typed scoped =
      let closed = and_left (is_closed smaller binders (tree t)) (has_sort (sort smaller (tree t)) Truth) typed in
      let e = has_sort-some (sort smaller (tree t)) Truth (and_right (is_closed smaller binders (tree t)) (has_sort (sort smaller (tree t)) Truth) typed) in
      let alike = alike_from (sort larger (tree (instance scope t))) (sort larger (tree term.True)) Truth (term_sorted binders scope scoped t Truth closed e) (ap (sort larger) tree-True) in
      by_sign sign alike
    where
      by_sign : (b : Bool) → are_alike (sort larger (tree (instance scope t))) (sort larger (tree term.True)) ≡ true → is_lit_sorted larger (lit (atom b (instance scope t))) ≡ true
      by_sign true h = h
      by_sign false h = h

  same_good : (sign : Bool) (s t : Term) → are_alike (sort larger (tree s)) (sort larger (tree t)) ≡ true → is_lit_sorted larger (lit (same sign s t)) ≡ true
  same_good true s t h = h
  same_good false s t h = h

  less_good : (sign : Bool) (s t : Term) → sort larger (tree s) ≡ Some Int → sort larger (tree t) ≡ Some Int → is_lit_sorted larger (lit (less sign s t)) ≡ true
  less_good true s t h k = ints_from (sort larger (tree (plus_one s))) (sort larger (tree t)) (plus_one_sorted larger s h) k
  less_good false s t h k = ints_from (sort larger (tree t)) (sort larger (tree s)) k h

  less_eq_good : (sign : Bool) (s t : Term) → sort larger (tree s) ≡ Some Int → sort larger (tree t) ≡ Some Int → is_lit_sorted larger (lit (less_eq sign s t)) ≡ true
  less_eq_good true s t h k = ints_from (sort larger (tree s)) (sort larger (tree t)) h k
  less_eq_good false s t h k = ints_from (sort larger (tree (plus_one t))) (sort larger (tree s)) (plus_one_sorted larger t k) h

  equation_alike : (binders : List Variable) (scope : Scope) (s t : Term) → is_equation smaller binders (tree s) (tree t) ≡ true → Scoped larger binders scope.terms
      → are_alike (sort larger (tree (instance scope s))) (sort larger (tree (instance scope t))) ≡ true
  equation_alike binders scope s t typed scoped =
      let closed = and_left (is_closed smaller binders (tree s) && is_closed smaller binders (tree t)) (are_alike (sort smaller (tree s)) (sort smaller (tree t)) && not (has_sort (sort smaller (tree s)) Truth)) typed in
      let rest = and_right (is_closed smaller binders (tree s) && is_closed smaller binders (tree t)) (are_alike (sort smaller (tree s)) (sort smaller (tree t)) && not (has_sort (sort smaller (tree s)) Truth)) typed in
      let both = alike_both (sort smaller (tree s)) (sort smaller (tree t)) (and_left (are_alike (sort smaller (tree s)) (sort smaller (tree t))) (not (has_sort (sort smaller (tree s)) Truth)) rest) in
      alike_from (sort larger (tree (instance scope s))) (sort larger (tree (instance scope t))) both.0
      (term_sorted binders scope scoped s both.0 (and_left (is_closed smaller binders (tree s)) (is_closed smaller binders (tree t)) closed) both.1.0)
      (term_sorted binders scope scoped t both.0 (and_right (is_closed smaller binders (tree s)) (is_closed smaller binders (tree t)) closed) both.1.1)

  inequality_ints : (binders : List Variable) (scope : Scope) (s t : Term) → is_inequality smaller binders (tree s) (tree t) ≡ true → Scoped larger binders scope.terms
      → (sort larger (tree (instance scope s)) ≡ Some Int) × (sort larger (tree (instance scope t)) ≡ Some Int)
  inequality_ints binders scope s t typed scoped =
      let closed = and_left (is_closed smaller binders (tree s) && is_closed smaller binders (tree t)) (has_sort (sort smaller (tree s)) Int && has_sort (sort smaller (tree t)) Int) typed in
      let rest = and_right (is_closed smaller binders (tree s) && is_closed smaller binders (tree t)) (has_sort (sort smaller (tree s)) Int && has_sort (sort smaller (tree t)) Int) typed in (
        term_sorted binders scope scoped s Int (and_left (is_closed smaller binders (tree s)) (is_closed smaller binders (tree t)) closed)
            (has_sort-some (sort smaller (tree s)) Int (and_left (has_sort (sort smaller (tree s)) Int) (has_sort (sort smaller (tree t)) Int) rest)),
        term_sorted binders scope scoped t Int (and_right (is_closed smaller binders (tree s)) (is_closed smaller binders (tree t)) closed)
            (has_sort-some (sort smaller (tree t)) Int (and_right (has_sort (sort smaller (tree s)) Int) (has_sort (sort smaller (tree t)) Int) rest)),
      )

  nothing_scoped : Scoped larger [] []
  nothing_scoped v bound = cc

  carries : Carries larger smaller (Fits larger) (Scoped larger)
  carries = record {
    nothing = nothing_scoped;
    universals = bind_universals larger;
    skolems = bind_skolems larger;
    at_atom = predicate_good;
    at_same = λ binders sign scope s u typed scoped. same_good sign (instance scope s) (instance scope u) (equation_alike binders scope s u typed scoped);
    at_less = λ binders sign scope s u typed scoped. let ints = inequality_ints binders scope s u typed scoped in less_good sign (instance scope s) (instance scope u) ints.0 ints.1;
    at_less_eq = λ binders sign scope s u typed scoped. let ints = inequality_ints binders scope s u typed scoped in less_eq_good sign (instance scope s) (instance scope u) ints.0 ints.1;
  }

-- ---- numbering keeps the sorts

literal_renumbered : (g : List Symbol) (ordinary : Bool) (places : List ℕ) (l : Literal) → is_lit_sorted g (lit (map_sides (renumber ordinary places) l)) ≡ is_lit_sorted g (lit l)
literal_renumbered g ordinary places (Equal s t) =
    ap (λ (x : Option Sort). are_alike x (sort g (tree (renumber ordinary places t)))) (sort_renumber g ordinary places s) ∙ ap (are_alike (sort g (tree s))) (sort_renumber g ordinary places t)
literal_renumbered g ordinary places (Differ s t) =
    ap (λ (x : Option Sort). are_alike x (sort g (tree (renumber ordinary places t)))) (sort_renumber g ordinary places s) ∙ ap (are_alike (sort g (tree s))) (sort_renumber g ordinary places t)
literal_renumbered g ordinary places (AtMost s t) =
    ap (λ (x : Option Sort). has_sort x Int && has_sort (sort g (tree (renumber ordinary places t))) Int) (sort_renumber g ordinary places s)
    ∙ ap (λ (x : Option Sort). has_sort (sort g (tree s)) Int && has_sort x Int) (sort_renumber g ordinary places t)

clause_renumbered : (g : List Symbol) (ordinary : Bool) (places : List ℕ) (ls : Literals) → OfClause (Fits g) ls → list_all (is_lit_sorted g) (map lit (map (map_sides (renumber ordinary places)) ls)) ≡ true
clause_renumbered g ordinary places [] h = refl
clause_renumbered g ordinary places (l ∷ ls) h =
    ap (λ (b : Bool). b && list_all (is_lit_sorted g) (map lit (map (map_sides (renumber ordinary places)) ls))) (literal_renumbered g ordinary places l ∙ h.0)
    ∙ clause_renumbered g ordinary places ls h.1

all_numbered : (g : List Symbol) (ordinary : Bool) (cs : List Literals) → OfAll (Fits g) cs → list_all (λ c. is_well_sorted g (lits c)) (map (numbered g ordinary) cs) ≡ true
all_numbered g ordinary [] h = refl
all_numbered g ordinary (c ∷ cs) h =
    ap (λ (b : Bool). b && list_all (λ d. is_well_sorted g (lits d)) (map (numbered g ordinary) cs)) (clause_renumbered g _ _ c h.0) ∙ all_numbered g ordinary cs h.1

pub well_sorted : (p : Problem) (ordinary : Bool) → IsWellTyped p → list_all (λ c. is_well_sorted (prepared p ordinary).symbols (lits c)) (prepared p ordinary).clauses ≡ true
well_sorted p ordinary typed =
    let larger = p.symbols ++ (made p).symbols in
    let extends = extends_append p.symbols (made p).symbols in
    all_numbered larger ordinary (made p).clauses (of_problem p (Fits larger) (Scoped larger) (carries larger p.symbols extends) typed)
