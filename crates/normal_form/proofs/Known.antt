-- The clauses of a well typed problem have no symbol but the problem's and the Skolem symbols.
use Rattle.std.proofs.Common.{◌≡◌, ℕ, ◌+◌, Bool, true, false, ◌&&◌, ◌==◌, List, [], ◌∷◌, ◌++◌, map, reverse, refl, sym, ap, ◌∙◌, subst, append_assoc}
use Rattle.std.specs.Prelude.{Option, Some, is_some, slice_get, pos, not, if◌then◌else◌}
use Rattle.std.specs.Option.{option_map_or}
use Rattle.std.specs.List.{find, list_all}
use Rattle.std.proofs.lemmas.List.{append-nil, reverse-append}
use Rattle.term_base.specs.declared.symbols.Sort.TheVariants.{Int, Truth}
use Rattle.term_base.specs.declared.symbols.Symbol.{Symbol}
use Rattle.term_base.specs.declared.variables.Variable.{Variable}
use Rattle.term_base.specs.declared.terms.Term.{Term}
use Rattle.term_base.specs.declared.terms.Term.TheVariants as term
use Rattle.term_base.specs.declared.clauses.Literal.{Literal}
use Rattle.term_base.specs.declared.clauses.Literal.TheVariants.{Equal, Differ, AtMost}
use Rattle.term_base.specs.Trees.{Head, truth, number, plus, times, symbol, Tree, Trees, var, node, none, more, tree, trees}
use Rattle.term_base.specs.TreeOf.{tree-Var, tree-Num, tree-True, tree-Sum, tree-App}
use Rattle.term_base.specs.Sorting.{sort, has_sort}
use Rattle.term_base.specs.Substitution.{put_in, put_all}
use Rattle.term_base.specs.Clauses.{are_alike}
use Rattle.term_base.specs.Lits.{lit, lits}
use Rattle.formula_base.specs.declared.problems.Problem.{Problem}
use Rattle.formula_base.specs.Typing.{is_known, is_closed, are_closed, is_inequality, inside, IsWellTyped}
use Rattle.normal_form.specs.declared.scopes.Scope.{Scope}
use Rattle.normal_form.specs.Cnf.{Literals, at_variable, instance, skolem, skolem_terms, plus_one, atom, same, less, less_eq}
use Rattle.normal_form.specs.Numbering.{map_sides, renumber, renumbered, numbered}
use Rattle.normal_form.specs.Clauses.{made, prepared}
use Rattle.normal_form.specs.Known.{is_known_tree, are_known_trees, is_known_lit}
use Rattle.normal_form.proofs.Carried.{OfClause, OfAll, Carries, of_problem}
use Rattle.normal_form.proofs.Signature.{StandsAt, Extends, extends_append}
use Rattle.normal_form.proofs.Sorted.{and_left, and_right, known_symbol, tree_instance, tree_renumber}

both_true : (a b : Bool) → a ≡ true → b ≡ true → a && b ≡ true
both_true a b h k = ap (λ (x : Bool). x && b) h ∙ k

known_in_larger : (larger smaller : List Symbol) → Extends larger smaller → (h : Head) → is_known smaller h ≡ true → is_known larger h ≡ true
known_in_larger larger smaller e truth k = refl
known_in_larger larger smaller e (number n) k = refl
known_in_larger larger smaller e plus k = refl
known_in_larger larger smaller e times k = refl
known_in_larger larger smaller e (symbol g) k =
    let s = known_symbol (slice_get smaller g) k in
    ap (λ (o : Option Symbol). is_some o) (e g s.0 s.1)

-- ---- a closed tree whose variables are replaced by trees with known symbols

module _ (larger smaller : List Symbol) (extends : Extends larger smaller) (binders : List Variable) (s : Variable → Tree) (known : (v : Variable) → is_known_tree larger (s v) ≡ true) where
  mutual
    known_put : (x : Tree) → is_closed smaller binders x ≡ true → is_known_tree larger (put_in s x) ≡ true
    known_put (var v) closed = known v
    known_put (node h xs) closed = both_true (is_known larger h) (are_known_trees larger (put_all s xs))
        (known_in_larger larger smaller extends h (and_left (is_known smaller h) (are_closed smaller binders xs) closed))
        (all_known_put xs (and_right (is_known smaller h) (are_closed smaller binders xs) closed))

    all_known_put : (xs : Trees) → are_closed smaller binders xs ≡ true → are_known_trees larger (put_all s xs) ≡ true
    all_known_put none closed = refl
    all_known_put (more x xs) closed = both_true (is_known_tree larger (put_in s x)) (are_known_trees larger (put_all s xs))
        (known_put x (and_left (is_closed smaller binders x) (are_closed smaller binders xs) closed))
        (all_known_put xs (and_right (is_closed smaller binders x) (are_closed smaller binders xs) closed))

-- ---- variables for variables

module _ (g : List Symbol) (s : Variable → Tree) (known : (v : Variable) → is_known_tree g (s v) ≡ true) where
  mutual
    known_renamed : (x : Tree) → is_known_tree g (put_in s x) ≡ is_known_tree g x
    known_renamed (var v) = known v
    known_renamed (node h xs) = ap (λ (b : Bool). is_known g h && b) (all_known_renamed xs)

    all_known_renamed : (xs : Trees) → are_known_trees g (put_all s xs) ≡ are_known_trees g xs
    all_known_renamed none = refl
    all_known_renamed (more x xs) =
        ap (λ (b : Bool). b && are_known_trees g (put_all s xs)) (known_renamed x) ∙ ap (λ (b : Bool). is_known_tree g x && b) (all_known_renamed xs)

module _ (g : List Symbol) where
  known_variable : (v : Variable) → is_known_tree g (tree (term.Var v)) ≡ true
  known_variable v = ap (is_known_tree g) (tree-Var v)

  known_renumber : (ordinary : Bool) (places : List ℕ) (t : Term) → is_known_tree g (tree (renumber ordinary places t)) ≡ is_known_tree g (tree t)
  known_renumber ordinary places t =
      ap (is_known_tree g) (tree_renumber ordinary places t)
      ∙ known_renamed g (λ v. tree (term.Var (renumbered ordinary places v))) (λ v. known_variable (renumbered ordinary places v)) (tree t)

  known_variables : (us : List Variable) → are_known_trees g (trees (map tree (map term.Var us))) ≡ true
  known_variables [] = refl
  known_variables (u ∷ us) = both_true (is_known_tree g (tree (term.Var u))) (are_known_trees g (trees (map tree (map term.Var us)))) (known_variable u) (known_variables us)

  known_skolem : (us : List Variable) (v : Variable) (n : ℕ) → slice_get g n ≡ Some (skolem us v) → is_known_tree g (tree (term.App n (map term.Var us))) ≡ true
  known_skolem us v n e =
      ap (is_known_tree g) (tree-App n (map term.Var us))
      ∙ both_true (is_some (slice_get g n)) (are_known_trees g (trees (map tree (map term.Var us)))) (ap (λ (o : Option Symbol). is_some o) e) (known_variables us)

  known_plus_one : (a : Term) → is_known_tree g (tree a) ≡ true → is_known_tree g (tree (plus_one a)) ≡ true
  known_plus_one a e =
      ap (is_known_tree g) (tree-Sum a (term.Num (pos 1)))
      ∙ ap (λ (x : Tree). is_known_tree g (node plus (more (tree a) (more x none)))) (tree-Num (pos 1))
      ∙ ap (λ (b : Bool). b && true) e

  -- ---- what is in scope has known symbols

  abbrev Holds : List Variable → List (ℕ × Term) → Type 0
  Holds binders terms = (v : Variable) → is_known_tree g (tree (at_variable terms v)) ≡ true

  bind_case : (terms : List (ℕ × Term)) → Holds [] terms → (v w : Variable) (t : Term) → is_known_tree g (tree t) ≡ true → (b : Bool)
      → is_known_tree g (tree (option_map_or (λ p. p.1) (if b then Some (v.id, t) else find (λ p. p.0 == w.id) (reverse terms)) (term.Var w))) ≡ true
  bind_case terms h v w t e true = e
  bind_case terms h v w t e false = h w

  bind_one : (binders : List Variable) (terms : List (ℕ × Term)) → Holds binders terms → (v : Variable) (t : Term) → is_known_tree g (tree t) ≡ true → Holds (v ∷ binders) (terms ++ (v.id, t) ∷ [])
  bind_one binders terms h v t e w =
      ap (λ (ps : List (ℕ × Term)). is_known_tree g (tree (option_map_or (λ p. p.1) (find (λ p. p.0 == w.id) ps) (term.Var w)))) (reverse-append terms ((v.id, t) ∷ []))
      ∙ bind_case terms h v w t e (v.id == w.id)

  bind_universals : (vs binders : List Variable) (terms : List (ℕ × Term)) → Holds binders terms → Holds (inside vs binders) (terms ++ map (λ v. (v.id, term.Var v)) vs)
  bind_universals [] binders terms h = subst (Holds binders) (sym (append-nil terms)) h
  bind_universals (v ∷ vs) binders terms h =
      subst (Holds (inside vs (v ∷ binders))) (append_assoc terms ((v.id, term.Var v) ∷ []) (map (λ u. (u.id, term.Var u)) vs))
      (bind_universals vs (v ∷ binders) (terms ++ (v.id, term.Var v) ∷ []) (bind_one binders terms h v (term.Var v) (known_variable v)))

  bind_skolems : (us vs binders : List Variable) (terms : List (ℕ × Term)) (n : ℕ) → Holds binders terms → StandsAt g n (map (skolem us) vs) → Holds (inside vs binders) (terms ++ skolem_terms n us vs)
  bind_skolems us [] binders terms n h k = subst (Holds binders) (sym (append-nil terms)) h
  bind_skolems us (v ∷ vs) binders terms n h k =
      let t = term.App n (map term.Var us) in
      subst (Holds (inside vs (v ∷ binders))) (append_assoc terms ((v.id, t) ∷ []) (skolem_terms (n + 1) us vs))
      (bind_skolems us vs (v ∷ binders) (terms ++ (v.id, t) ∷ []) (n + 1) (bind_one binders terms h v t (known_skolem us v n k.0)) k.1)

  -- ---- literals

  abbrev Fits : Literal → Type 0
  Fits l = is_known_lit g (lit l) ≡ true

  abbrev Knows : Term → Type 0
  Knows t = is_known_tree g (tree t) ≡ true

  at_sides : (s t : Term) → Knows s → Knows t → is_known_tree g (tree s) && is_known_tree g (tree t) ≡ true
  at_sides s t = both_true (is_known_tree g (tree s)) (is_known_tree g (tree t))

  known_atom : (sign : Bool) (s : Term) → Knows s → Fits (atom sign s)
  known_atom true s h = at_sides s term.True h (ap (is_known_tree g) tree-True)
  known_atom false s h = at_sides s term.True h (ap (is_known_tree g) tree-True)

  known_same : (sign : Bool) (s t : Term) → Knows s → Knows t → Fits (same sign s t)
  known_same true s t h k = at_sides s t h k
  known_same false s t h k = at_sides s t h k

  known_less : (sign : Bool) (s t : Term) → Knows s → Knows t → Fits (less sign s t)
  known_less true s t h k = at_sides (plus_one s) t (known_plus_one s h) k
  known_less false s t h k = at_sides t s k h

  known_less_eq : (sign : Bool) (s t : Term) → Knows s → Knows t → Fits (less_eq sign s t)
  known_less_eq true s t h k = at_sides s t h k
  known_less_eq false s t h k = at_sides (plus_one t) s (known_plus_one t k) h

module _ (larger smaller : List Symbol) (extends : Extends larger smaller) where
  known_instance : (binders : List Variable) (scope : Scope) (t : Term) → is_closed smaller binders (tree t) ≡ true → Holds larger binders scope.terms → is_known_tree larger (tree (instance scope t)) ≡ true
  known_instance binders scope t closed holds =
      ap (is_known_tree larger) (tree_instance scope t) ∙ known_put larger smaller extends binders (λ v. tree (at_variable scope.terms v)) holds (tree t) closed

  both_known : (binders : List Variable) (scope : Scope) (s t : Term) (rest : Bool) → (is_closed smaller binders (tree s) && is_closed smaller binders (tree t)) && rest ≡ true → Holds larger binders scope.terms
      → (is_known_tree larger (tree (instance scope s)) ≡ true) × (is_known_tree larger (tree (instance scope t)) ≡ true)
  both_known binders scope s t rest typed holds =
      let closed = and_left (is_closed smaller binders (tree s) && is_closed smaller binders (tree t)) rest typed in (
        known_instance binders scope s (and_left (is_closed smaller binders (tree s)) (is_closed smaller binders (tree t)) closed) holds,
        known_instance binders scope t (and_right (is_closed smaller binders (tree s)) (is_closed smaller binders (tree t)) closed) holds,
      )

  ints_known : (binders : List Variable) (scope : Scope) (s t : Term) → is_inequality smaller binders (tree s) (tree t) ≡ true → Holds larger binders scope.terms
      → (is_known_tree larger (tree (instance scope s)) ≡ true) × (is_known_tree larger (tree (instance scope t)) ≡ true)
  ints_known binders scope s t typed holds = both_known binders scope s t (has_sort (sort smaller (tree s)) Int && has_sort (sort smaller (tree t)) Int) typed holds

  carries : Carries larger smaller (Fits larger) (Holds larger)
  carries = record {
    nothing = known_variable larger;
    universals = bind_universals larger;
    skolems = bind_skolems larger;
    at_atom = λ binders sign scope s typed holds.
        known_atom larger sign (instance scope s) (known_instance binders scope s (and_left (is_closed smaller binders (tree s)) (has_sort (sort smaller (tree s)) Truth) typed) holds);
    at_same = λ binders sign scope s u typed holds.
        let both = both_known binders scope s u (are_alike (sort smaller (tree s)) (sort smaller (tree u)) && not (has_sort (sort smaller (tree s)) Truth)) typed holds in
        known_same larger sign (instance scope s) (instance scope u) both.0 both.1;
    at_less = λ binders sign scope s u typed holds. let both = ints_known binders scope s u typed holds in known_less larger sign (instance scope s) (instance scope u) both.0 both.1;
    at_less_eq = λ binders sign scope s u typed holds. let both = ints_known binders scope s u typed holds in known_less_eq larger sign (instance scope s) (instance scope u) both.0 both.1;
  }

-- ---- numbering keeps the symbols

sides_renumbered : (g : List Symbol) (ordinary : Bool) (places : List ℕ) (s t : Term)
    → is_known_tree g (tree (renumber ordinary places s)) && is_known_tree g (tree (renumber ordinary places t)) ≡ is_known_tree g (tree s) && is_known_tree g (tree t)
sides_renumbered g ordinary places s t =
    ap (λ (b : Bool). b && is_known_tree g (tree (renumber ordinary places t))) (known_renumber g ordinary places s)
    ∙ ap (λ (b : Bool). is_known_tree g (tree s) && b) (known_renumber g ordinary places t)

literal_renumbered : (g : List Symbol) (ordinary : Bool) (places : List ℕ) (l : Literal) → is_known_lit g (lit (map_sides (renumber ordinary places) l)) ≡ is_known_lit g (lit l)
literal_renumbered g ordinary places (Equal s t) = sides_renumbered g ordinary places s t
literal_renumbered g ordinary places (Differ s t) = sides_renumbered g ordinary places s t
literal_renumbered g ordinary places (AtMost s t) = sides_renumbered g ordinary places s t

clause_renumbered : (g : List Symbol) (ordinary : Bool) (places : List ℕ) (ls : Literals) → OfClause (Fits g) ls → list_all (is_known_lit g) (map lit (map (map_sides (renumber ordinary places)) ls)) ≡ true
clause_renumbered g ordinary places [] h = refl
clause_renumbered g ordinary places (l ∷ ls) h =
    ap (λ (b : Bool). b && list_all (is_known_lit g) (map lit (map (map_sides (renumber ordinary places)) ls))) (literal_renumbered g ordinary places l ∙ h.0)
    ∙ clause_renumbered g ordinary places ls h.1

all_numbered : (g : List Symbol) (ordinary : Bool) (cs : List Literals) → OfAll (Fits g) cs → list_all (λ c. list_all (is_known_lit g) (lits c)) (map (numbered g ordinary) cs) ≡ true
all_numbered g ordinary [] h = refl
all_numbered g ordinary (c ∷ cs) h =
    ap (λ (b : Bool). b && list_all (λ d. list_all (is_known_lit g) (lits d)) (map (numbered g ordinary) cs)) (clause_renumbered g _ _ c h.0) ∙ all_numbered g ordinary cs h.1

pub known_symbols : (p : Problem) (ordinary : Bool) → IsWellTyped p → list_all (λ c. list_all (is_known_lit (prepared p ordinary).symbols) (lits c)) (prepared p ordinary).clauses ≡ true
known_symbols p ordinary typed =
    let larger = p.symbols ++ (made p).symbols in
    let extends = extends_append p.symbols (made p).symbols in
    all_numbered larger ordinary (made p).clauses (of_problem p (Fits larger) (Holds larger) (carries larger p.symbols extends) typed)
