-- What is read without a fault is well typed.
use Rattle.std.proofs.Common.{◌≡◌, ℕ, suc, ◌+◌, ◌<◌, ◌≤◌, Bool, true, false, ◌&&◌, not, ◌==◌, List, [], ◌∷◌, ◌++◌, map, length, refl, sym, ◌∙◌, ap, subst, arith, drop, inl, inr}
use Rattle.std.specs.Prelude.{◌⊎◌, Option, Some, None, option_map, ℤ, pos, negsuc, is_some, slice_get, fold, filter_map, flat_map, if◌then◌else◌}
use Rattle.std.specs.Option.{option_map_or}
use Rattle.std.specs.List.{list_all, find, cons_option}
use Rattle.std.proofs.lemmas.Grind.{common_steps}
use Rattle.std.proofs.lemmas.Bool.Decides.{nat_tests}
use Rattle.std.proofs.lemmas.List.{length-map}
use Rattle.term_base.specs.declared.symbols.Sort.{Sort}
use Rattle.term_base.specs.declared.symbols.Sort.TheVariants as sorts
use Rattle.term_base.specs.declared.symbols.Symbol.{Symbol}
use Rattle.term_base.specs.declared.variables.Variable.{Variable}
use Rattle.term_base.specs.declared.terms.Term.{Term}
use Rattle.term_base.specs.declared.terms.Term.TheVariants as term
use Rattle.term_base.specs.Same.{same_sort, same_variable}
use Rattle.term_base.specs.SameLemmas.{same_sort-true, same_sort-refl, same_variable-refl}
use Rattle.term_base.specs.Trees.{Tree, Trees, var, node, none, more, truth, number, plus, times, symbol, tree, trees}
use Rattle.term_base.specs.TreeOf.{tree-Var, tree-Num, tree-True, tree-Sum, tree-Scale, tree-App}
use Rattle.term_base.specs.Sorting as sorting
use Rattle.term_base.specs.Sorting.{has_sort, have_sorts}
use Rattle.term_base.specs.Clauses.{are_alike}
use Rattle.formula_base.specs.declared.formulas.Formula.{Formula}
use Rattle.formula_base.specs.declared.formulas.Formula.TheVariants as g
use Rattle.formula_base.specs.FormulaFolds as folds
use Rattle.formula_base.specs.Typing.{is_bound, is_known, is_closed, are_closed, is_predicate, is_equation, is_inequality, inside, typed_step, is_typed, formulas, IsWellTyped}
use Rattle.tff_grammar.specs.declared.pieces.Span.{Span}
use Rattle.tff_grammar.specs.declared.pieces.Number.{Number}
use Rattle.tff_grammar.specs.declared.pieces.Operation.{Operation}
use Rattle.tff_grammar.specs.declared.pieces.Operation.TheVariants as o
use Rattle.tff_grammar.specs.declared.pieces.Junction.{Junction}
use Rattle.tff_grammar.specs.declared.pieces.Junction.TheVariants as junction
use Rattle.tff_grammar.specs.declared.pieces.Link.{Link}
use Rattle.tff_grammar.specs.declared.pieces.Link.TheVariants as link
use Rattle.tff_grammar.specs.declared.pieces.Quantifier.{Quantifier}
use Rattle.tff_grammar.specs.declared.pieces.Quantifier.TheVariants.{ForAll, Exists}
use Rattle.tff_grammar.specs.declared.pieces.Relation.{Relation}
use Rattle.tff_grammar.specs.declared.pieces.Relation.TheVariants.{Equal, Differ}
use Rattle.tff_grammar.specs.declared.trees.Head.{Head}
use Rattle.tff_grammar.specs.declared.trees.Head.TheVariants as head
use Rattle.tff_grammar.specs.declared.trees.Term.{Term as WrittenTerm}
use Rattle.tff_grammar.specs.declared.trees.Term.TheOpen as t
use Rattle.tff_grammar.specs.declared.trees.Term.TheOpen.{Term-F}
use Rattle.tff_grammar.specs.declared.trees.Term.TheVariants as written
use Rattle.tff_grammar.specs.declared.trees.Term.TheViews.{out-Term}
use Rattle.tff_grammar.specs.declared.trees.Variable.{Variable as WrittenVariable}
use Rattle.tff_grammar.specs.declared.trees.Formula.{Formula as WrittenFormula}
use Rattle.tff_grammar.specs.declared.trees.Formula.TheOpen as f
use Rattle.tff_grammar.specs.declared.trees.Formula.TheVariants as written_formula
use Rattle.tff_grammar.specs.declared.trees.Content.{Content}
use Rattle.tff_grammar.specs.declared.trees.Content.TheVariants as content
use Rattle.tff_grammar.specs.declared.trees.Statement.{Statement}
use Rattle.tff_grammar.specs.Pieces.{bytes_at}
use Rattle.tff_signature.specs.Names.{Name, same_name, name_of}
use Rattle.tff_signature.specs.declared.faults.Later.{Later}
use Rattle.tff_signature.specs.declared.faults.LaterName.TheVariants.{IllTyped}
use Rattle.tff_signature.specs.Faults.{Faults, fault}
use Rattle.tff_signature.specs.Declarations.{phase_2}
use Rattle.tff_signature.specs.Symbols.{Signature, signature_of, symbol_number, symbol_named}
use Rattle.tff_reader.specs.declared.numbers.Computed.{Computed}
use Rattle.tff_reader.specs.declared.numbers.Computed.TheVariants.{Value, Wide}
use Rattle.tff_reader.specs.declared.heads.Wanted.{Wanted}
use Rattle.tff_reader.specs.declared.heads.Wanted.TheVariants as wanted
use Rattle.tff_reader.specs.Scopes.{Bound, Scope, bound_by, variable_of_sort, variables_from, bind}
use Rattle.tff_reader.specs.NumberTerms as numbers
use Rattle.tff_reader.specs.NumberTerms.{Products, products, products_step, product_faults, product_faults_step, head_number, numbers_of, factor, product_fault, phase_4, content_products}
use Rattle.tff_reader.specs.Typing as typing
use Rattle.tff_reader.specs.Typing.{HeadType, operation_type, suits, own_fault, head_fault, head_place, arguments, asked, argument_faults, head_type, bound_sort, sort_step, term_sort, term_faults, term_faults_step, right_side, relation_faults}
use Rattle.tff_reader.specs.Meaning.{TermMeaning, variable_term, scaled, factor_value, minus_one, operation_term, comparison, terms_of, head_term, term_meaning, term_meaning_step, term_of, atom_step, atom_of, relation_of, constant_of, quantified, linked, joined, FormulaMeaning, Meaning, members, behind, formulas_of, faults_of, meaning_step, meaning, formula_meaning, content_faults, premise_of, conjecture_of, typing_faults, phase_3, premises_of, conjectures_of, first, problem_of}
use Rattle.tff_reader.specs.Answer.{later_faults}
use Rattle.tff_grammar.specs.TreeFolds as trees_of
use Rattle.tff_reader.proofs.TreeInduction.{Each, term_induction, formula_induction}
use Rattle.tff_reader.proofs.Numbered.{all_good, id_of, counted_next}

-- ---- lists without items, and tests that hold

front_none : {A : Type 0} (xs ys : List A) → xs ++ ys ≡ [] → xs ≡ []
front_none [] ys h = refl
front_none (x ∷ xs) ys h = absurd (cc)

back_none : {A : Type 0} (xs ys : List A) → xs ++ ys ≡ [] → ys ≡ []
back_none [] ys h = h
back_none (x ∷ xs) ys h = absurd (cc)

both_true : (a b : Bool) → a ≡ true → b ≡ true → (a && b) ≡ true
both_true true b h k = k
both_true false b h k = h

left_true : (a b : Bool) → (a && b) ≡ true → a ≡ true
left_true true b h = refl
left_true false b h = h

right_true : (a b : Bool) → (a && b) ≡ true → b ≡ true
right_true true b h = h
right_true false b h = absurd (cc)

-- a test that gives no fault
passed : (b : Bool) (e : Later) → (if b then [] else e ∷ []) ≡ [] → b ≡ true
passed true e h = refl
passed false e h = absurd (cc)

at_some : {A : Type 0} (x y : A) → Some x ≡ Some y → x ≡ y
at_some x y h = cc

each_of : {A : Type 0} {P : A → Type 0} (all : (x : A) → P x) (xs : List A) → Each P xs
each_of all [] = tt
each_of all (x ∷ xs) = (all x, each_of all xs)

same_number : (m n : ℕ) → (m == n) ≡ true → m ≡ n
same_number m n h = grind (arith, nat_tests)

number_same : (n : ℕ) → (n == n) ≡ true
number_same n = grind (arith, nat_tests)

number_differs : (m n : ℕ) → m < n → (n == m) ≡ false
number_differs m n h = grind (arith, nat_tests)

-- ---- what is bound

-- the variables of the binders in force, the inner ones first
abbrev vars : Scope → List Variable
vars = map (λ b. b.variable)

-- the binders in force have numbers below this one, the inner ones greater numbers
abbrev Descends : ℕ → Scope → Type 0
Descends n [] = Unit {0}
Descends n (b ∷ scope) = (b.variable.id < n) × Descends b.variable.id scope

descends_later : (n m : ℕ) (scope : Scope) → n ≤ m → Descends n scope → Descends m scope
descends_later n m [] le h = tt
descends_later n m (b ∷ scope) le h = (omega (arith, h.0), h.1)

bound_first : (b : Bound) (scope : Scope) (name : Name) (v : Variable) (c : Bool) → (c ≡ false → bound_by scope name ≡ Some v → v.id < b.variable.id)
    → (if c then Some b.variable else bound_by scope name) ≡ Some v → (b.variable ≡ v) ⊎ ((c ≡ false) × ((bound_by scope name ≡ Some v) × (v.id < b.variable.id)))
bound_first b scope name v true lower e = inl (cc)
bound_first b scope name v false lower e = inr (refl, (e, lower refl e))

bound_below : (n : ℕ) (scope : Scope) (name : Name) (v : Variable) → Descends n scope → bound_by scope name ≡ Some v → v.id < n
bound_below n [] name v h is = absurd (cc)
bound_below n (b ∷ scope) name v h is = below_of (bound_first b scope name v (same_name name b.name) (λ q e. bound_below b.variable.id scope name v h.1 e) is) h.0
  where
    below_of : (b.variable ≡ v) ⊎ ((same_name name b.name ≡ false) × ((bound_by scope name ≡ Some v) × (v.id < b.variable.id))) → b.variable.id < n → v.id < n
    below_of (inl same) lt = subst (λ (u : Variable). u.id < n) same lt
    below_of (inr other) lt = omega (arith, lt, other.1.1)

bound_is_bound : (n : ℕ) (scope : Scope) (name : Name) (v : Variable) → Descends n scope → bound_by scope name ≡ Some v → is_bound (vars scope) v ≡ true
bound_is_bound n [] name v h is = absurd (cc)
bound_is_bound n (b ∷ scope) name v h is =
    found_of (bound_first b scope name v (same_name name b.name) (λ q e. bound_below b.variable.id scope name v h.1 e) is) (λ e. bound_is_bound b.variable.id scope name v h.1 e)
  where
    found_of : (b.variable ≡ v) ⊎ ((same_name name b.name ≡ false) × ((bound_by scope name ≡ Some v) × (v.id < b.variable.id))) → (bound_by scope name ≡ Some v → is_bound (vars scope) v ≡ true)
        → is_bound (vars (b ∷ scope)) v ≡ true
    found_of (inl same) further =
        subst (λ (u : Variable). is_bound (b.variable ∷ vars scope) u ≡ true) same
        (ap (λ (c : Bool). option_map_or (λ u. same_variable u b.variable) (if c then Some b.variable else find (λ u. u.id == b.variable.id) (vars scope)) false) (number_same b.variable.id)
        ∙ same_variable-refl b.variable)
    found_of (inr other) further =
        ap (λ (c : Bool). option_map_or (λ u. same_variable u v) (if c then Some b.variable else find (λ u. u.id == v.id) (vars scope)) false) (number_differs v.id b.variable.id other.1.1)
        ∙ further other.1.0

module _ (text : List ℕ) (names : List Name) where
  bind_descends : (n : ℕ) (vs : List WrittenVariable) (scope : Scope) → Descends n scope → Descends (n + length vs) (bind text names n vs scope)
  bind_descends n [] scope h = descends_later n (n + 0) scope (omega arith) h
  bind_descends n (v ∷ vs) scope h =
      let is : (variable_of_sort text names n v.sort).id ≡ n = id_of text names n v.sort in
      let b : Bound = record { name = bytes_at text v.name; variable = variable_of_sort text names n v.sort } in
      let later : (n + 1) + length vs ≤ n + length (v ∷ vs) = omega arith in
      descends_later ((n + 1) + length vs) (n + length (v ∷ vs)) (bind text names (n + 1) vs (b ∷ scope)) later
      (bind_descends (n + 1) vs (b ∷ scope) (omega arith, subst (λ (i : ℕ). Descends i scope) (sym is) h))

  bind_vars : (n : ℕ) (vs : List WrittenVariable) (scope : Scope) → vars (bind text names n vs scope) ≡ inside (variables_from text names n vs) (vars scope)
  bind_vars n [] scope = refl
  bind_vars n (v ∷ vs) scope = bind_vars (n + 1) vs (record { name = bytes_at text v.name; variable = variable_of_sort text names n v.sort } ∷ scope)

-- ---- numbers

module _ (text : List ℕ) (symbols : List Symbol) (scope : Scope) where
  numbers_alike : (us : List WrittenTerm) → Each (λ u. (products u).number ≡ (term_meaning text symbols scope u).number) us
      → numbers_of (map products us) ≡ map (λ m. m.number) (map (term_meaning text symbols scope) us)
  numbers_alike [] h = refl
  numbers_alike (u ∷ us) h =
      ap (λ (c : Option Computed). c ∷ numbers_of (map products us)) h.0 ∙ ap (λ (cs : List (Option Computed)). (term_meaning text symbols scope u).number ∷ cs) (numbers_alike us h.1)

  one_number : (u : WrittenTerm) → (products u).number ≡ (term_meaning text symbols scope u).number
  one_number = term_induction (λ u. (products u).number ≡ (term_meaning text symbols scope u).number)
      (λ s. ap (λ (p : Products). p.number) (trees_of.fold-Variable Products products_step s)
      ∙ sym (ap (λ (m : TermMeaning). m.number) (trees_of.fold-Variable TermMeaning (term_meaning_step text symbols scope) s)))
      (λ m. ap (λ (p : Products). p.number) (trees_of.fold-Numeral Products products_step m)
      ∙ sym (ap (λ (r : TermMeaning). r.number) (trees_of.fold-Numeral TermMeaning (term_meaning_step text symbols scope) m)))
      (λ h us same. ap (λ (p : Products). p.number) (trees_of.fold-Apply Products products_step h us)
      ∙ ap (head_number h) (numbers_alike us same)
      ∙ sym (ap (λ (m : TermMeaning). m.number) (trees_of.fold-Apply TermMeaning (term_meaning_step text symbols scope) h us)))

-- ---- terms

module _ (symbols : List Symbol) (scope : Scope) where
  -- a term that is closed and has this sort
  record Fits (m : Term) (s : Sort) : Type 0 where
    closed : is_closed symbols (vars scope) (tree m) ≡ true
    sorted : sorting.sort symbols (tree m) ≡ Some s

  abbrev ArgsFit : List Term → List Sort → Type 0
  ArgsFit [] [] = Unit {0}
  ArgsFit [] (s ∷ ss) = ⊥
  ArgsFit (m ∷ ms) [] = ⊥
  ArgsFit (m ∷ ms) (s ∷ ss) = Fits m s × ArgsFit ms ss

  fits_tree : (m : Term) (x : Tree) (s : Sort) → tree m ≡ x → is_closed symbols (vars scope) x ≡ true → sorting.sort symbols x ≡ Some s → Fits m s
  fits_tree m x s is closed sorted = record {
    closed = ap (is_closed symbols (vars scope)) is ∙ closed;
    sorted = ap (sorting.sort symbols) is ∙ sorted;
  }

  args_closed : (ms : List Term) (ss : List Sort) → ArgsFit ms ss → are_closed symbols (vars scope) (trees (map tree ms)) ≡ true
  args_closed [] [] h = refl
  args_closed [] (s ∷ ss) h = absurd h
  args_closed (m ∷ ms) [] h = absurd h
  args_closed (m ∷ ms) (s ∷ ss) h = both_true (is_closed symbols (vars scope) (tree m)) (are_closed symbols (vars scope) (trees (map tree ms))) h.0.closed (args_closed ms ss h.1)

  has_sort_of : (r : Option Sort) (s : Sort) → r ≡ Some s → has_sort r s ≡ true
  has_sort_of r s e = subst (λ (q : Option Sort). has_sort q s ≡ true) (sym e) (same_sort-refl s)

  args_sorted : (ms : List Term) (ss : List Sort) → ArgsFit ms ss → have_sorts (sorting.sorts symbols (trees (map tree ms))) ss ≡ true
  args_sorted [] [] h = refl
  args_sorted [] (s ∷ ss) h = absurd h
  args_sorted (m ∷ ms) [] h = absurd h
  args_sorted (m ∷ ms) (s ∷ ss) h =
      both_true (has_sort (sorting.sort symbols (tree m)) s) (have_sorts (sorting.sorts symbols (trees (map tree ms))) ss) (has_sort_of (sorting.sort symbols (tree m)) s h.0.sorted) (args_sorted ms ss h.1)

  fits_variable : (n : ℕ) (name : Name) (v : Variable) → Descends n scope → bound_by scope name ≡ Some v → Fits (term.Var v) v.sort
  fits_variable n name v h is = fits_tree (term.Var v) (var v) v.sort (tree-Var v) (bound_is_bound n scope name v h is) refl

  fits_number : (k : ℤ) → Fits (term.Num k) sorts.Int
  fits_number k = fits_tree (term.Num k) (node (number k) none) sorts.Int (tree-Num k) refl refl

  fits_true : Fits term.True sorts.Truth
  fits_true = fits_tree term.True (node truth none) sorts.Truth tree-True refl refl

  -- two parts of sort Int under a head of arithmetic
  pair_closed : (x y : Tree) → is_closed symbols (vars scope) x ≡ true → is_closed symbols (vars scope) y ≡ true → are_closed symbols (vars scope) (more x (more y none)) ≡ true
  pair_closed x y h k = both_true (is_closed symbols (vars scope) x) (is_closed symbols (vars scope) y && true) h (both_true (is_closed symbols (vars scope) y) true k refl)

  pair_sorted : (x y : Tree) → sorting.sort symbols x ≡ Some sorts.Int → sorting.sort symbols y ≡ Some sorts.Int
      → have_sorts (sorting.sorts symbols (more x (more y none))) (sorts.Int ∷ sorts.Int ∷ []) ≡ true
  pair_sorted x y h k =
      both_true (has_sort (sorting.sort symbols x) sorts.Int) (has_sort (sorting.sort symbols y) sorts.Int && true) (has_sort_of (sorting.sort symbols x) sorts.Int h)
      (both_true (has_sort (sorting.sort symbols y) sorts.Int) true (has_sort_of (sorting.sort symbols y) sorts.Int k) refl)

  fits_sum : (a b : Term) → Fits a sorts.Int → Fits b sorts.Int → Fits (term.Sum a b) sorts.Int
  fits_sum a b h k = fits_tree (term.Sum a b) (node plus (more (tree a) (more (tree b) none))) sorts.Int (tree-Sum a b) (pair_closed (tree a) (tree b) h.closed k.closed)
      (ap (λ (c : Bool). if c then Some sorts.Int else None) (pair_sorted (tree a) (tree b) h.sorted k.sorted))

  fits_scale : (k : ℤ) (a : Term) → Fits a sorts.Int → Fits (term.Scale k a) sorts.Int
  fits_scale k a h = fits_tree (term.Scale k a) (node times (more (node (number k) none) (more (tree a) none))) sorts.Int (tree-Scale k a) (pair_closed (node (number k) none) (tree a) refl h.closed)
      (ap (λ (c : Bool). if c then Some sorts.Int else None) (pair_sorted (node (number k) none) (tree a) refl h.sorted))

  fits_app : (k : ℕ) (s : Symbol) (ms : List Term) → slice_get symbols k ≡ Some s → ArgsFit ms s.args → Fits (term.App k ms) s.result
  fits_app k s ms is h = fits_tree (term.App k ms) (node (symbol k) (trees (map tree ms))) s.result (tree-App k ms)
      (both_true (is_some (slice_get symbols k)) (are_closed symbols (vars scope) (trees (map tree ms))) (ap is_some is) (args_closed ms s.args h))
      (ap (λ (q : Option Symbol). if have_sorts (sorting.sorts symbols (trees (map tree ms))) (option_map_or (λ x. x.args) q []) then Some (option_map_or (λ x. x.result) q sorts.Int) else None) is
      ∙ ap (λ (c : Bool). if c then Some s.result else None) (args_sorted ms s.args h))

  -- ---- arithmetic words

  scaled_fits : (at : ℕ) (x y : Option Computed) (a b : Term) → product_fault at (factor (x ∷ y ∷ [])) ≡ [] → Fits a sorts.Int → Fits b sorts.Int → Fits (scaled x y a b) sorts.Int
  scaled_fits at (Some c) y a b clean h k = fits_scale (factor_value c) b k
  scaled_fits at None (Some c) a b clean h k = fits_scale (factor_value c) a h
  scaled_fits at None None a b clean h k = absurd (cc)

  -- what an arithmetic word gives over arguments of sort Int
  operation_fits : (op : Operation) (ms : List TermMeaning) (s : Span) → ArgsFit (terms_of ms) (operation_type op).args
      → numbers.head_fault (head.Operation op s) (map (λ m. m.number) ms) ≡ [] → Fits (operation_term op ms) (operation_type op).result
  operation_fits o.Sum (a ∷ b ∷ []) s h clean = fits_sum a.term b.term h.0 h.1.0
  operation_fits o.Sum [] at h clean = absurd h
  operation_fits o.Sum (a ∷ []) s h clean = absurd h.1
  operation_fits o.Sum (a ∷ b ∷ c ∷ ms) s h clean = absurd h.1.1
  operation_fits o.Difference (a ∷ b ∷ []) s h clean = fits_sum a.term (term.Scale minus_one b.term) h.0 (fits_scale minus_one b.term h.1.0)
  operation_fits o.Difference [] at h clean = absurd h
  operation_fits o.Difference (a ∷ []) s h clean = absurd h.1
  operation_fits o.Difference (a ∷ b ∷ c ∷ ms) s h clean = absurd h.1.1
  operation_fits o.Uminus (a ∷ []) s h clean = fits_scale minus_one a.term h.0
  operation_fits o.Uminus [] at h clean = absurd h
  operation_fits o.Uminus (a ∷ b ∷ ms) s h clean = absurd h.1
  operation_fits o.Product (a ∷ b ∷ []) s h clean = scaled_fits s.start a.number b.number a.term b.term clean h.0 h.1.0
  operation_fits o.Product [] at h clean = absurd h
  operation_fits o.Product (a ∷ []) s h clean = absurd h.1
  operation_fits o.Product (a ∷ b ∷ c ∷ ms) s h clean = absurd h.1.1
  operation_fits o.Less ms s h clean = fits_true
  operation_fits o.LessEq ms s h clean = fits_true
  operation_fits o.Greater ms s h clean = fits_true
  operation_fits o.GreaterEq ms s h clean = fits_true

-- ---- heads

-- a head without a fault, by its type
record HeadFits (w : Wanted) (arity : ℕ) (h : Option HeadType) : Type 0 where
  type : HeadType
  is : h ≡ Some type
  suited : suits w type.result ≡ true
  many : arity ≡ length type.args

head_fits : (w : Wanted) (at arity : ℕ) (h : Option HeadType) → head_fault w at arity h ≡ [] → HeadFits w arity h
head_fits w at arity None clean = absurd (cc)
head_fits w at arity (Some ty) clean =
    let e = passed (suits w ty.result && (arity == length ty.args)) (fault IllTyped at) clean in
    record {
      type = ty;
      is = refl;
      suited = left_true (suits w ty.result) (arity == length ty.args) e;
      many = same_number arity (length ty.args) (right_true (suits w ty.result) (arity == length ty.args) e);
    }

mapped_some : {A B : Type 0} (f : A → B) (q : Option A) (y : B) → option_map f q ≡ Some y → (x : A) × ((q ≡ Some x) × (f x ≡ y))
mapped_some f None y h = absurd (cc)
mapped_some f (Some x) y h = (x, (refl, (cc)))

-- ---- what a term is

module _ (text : List ℕ) (symbols : List Symbol) (scope : Scope) where
  -- a term where something is asked of it: its sort, which is as asked
  record Typed (w : Wanted) (u : WrittenTerm) : Type 0 where
    sort : Sort
    has : term_sort text symbols scope u ≡ Some sort
    suited : suits w sort ≡ true
    fits : Fits symbols scope (term_of text symbols scope u) sort

  abbrev TypedWhere : WrittenTerm → Type 0
  TypedWhere u = (w : Wanted) → term_faults text symbols scope u w ≡ [] → (products u).faults ≡ [] → Typed w u

  typed_as : (w : Wanted) (u : WrittenTerm) (s : Sort) (d : Term-F WrittenTerm) (m : TermMeaning)
      → out-Term u ≡ d → sort_step text symbols scope d ≡ Some s → suits w s ≡ true → term_meaning text symbols scope u ≡ m → Fits symbols scope m.term s → Typed w u
  typed_as w u s d m opened has suited means fits = record {
    sort = s;
    has = ap (sort_step text symbols scope) opened ∙ has;
    suited = suited;
    fits = subst (λ (r : TermMeaning). Fits symbols scope r.term s) (sym means) fits;
  }

  typed_variable : (n : ℕ) → Descends n scope → (s : Span) → TypedWhere (written.Variable s)
  typed_variable n below s w clean faultless = at_binder (bound_by scope (bytes_at text s)) refl
    where
      faults : own_fault w s.start (bound_sort text symbols scope s) ≡ []
      faults = sym (ap (λ (f : Wanted → Faults). f w) (trees_of.fold-Variable (Wanted → Faults) (term_faults_step text symbols scope) s)) ∙ clean

      means : term_meaning text symbols scope (written.Variable s) ≡ record { number = None; term = variable_term (bound_by scope (bytes_at text s)) }
      means = trees_of.fold-Variable TermMeaning (term_meaning_step text symbols scope) s

      at_binder : (q : Option Variable) → bound_by scope (bytes_at text s) ≡ q → Typed w (written.Variable s)
      at_binder None e =
          let f : own_fault w s.start None ≡ [] = subst (λ (q : Option Variable). own_fault w s.start (option_map (λ v. v.sort) q) ≡ []) e faults in
          absurd (cc)
      at_binder (Some v) e =
          let f : own_fault w s.start (Some v.sort) ≡ [] = subst (λ (q : Option Variable). own_fault w s.start (option_map (λ v. v.sort) q) ≡ []) e faults in
          typed_as w (written.Variable s) v.sort (t.Variable s) (record { number = None; term = variable_term (Some v) }) (written.outs-Variable s)
          (ap (option_map (λ v. v.sort)) e) (passed (suits w v.sort) (fault IllTyped s.start) f)
          (means ∙ ap (λ (q : Option Variable). record { number = None; term = variable_term q }) e) (fits_variable symbols scope n (bytes_at text s) v below e)

  typed_numeral : (m : Number) → TypedWhere (written.Numeral m)
  typed_numeral m w clean faultless =
      let f : own_fault w m.span.start (Some sorts.Int) ≡ [] = sym (ap (λ (f : Wanted → Faults). f w) (trees_of.fold-Numeral (Wanted → Faults) (term_faults_step text symbols scope) m)) ∙ clean in
      typed_as w (written.Numeral m) sorts.Int (t.Numeral m) (record { number = Some (Value m.value); term = term.Num m.value }) (written.outs-Numeral m) refl
      (passed (suits w sorts.Int) (fault IllTyped m.span.start) f) (trees_of.fold-Numeral TermMeaning (term_meaning_step text symbols scope) m) (fits_number symbols scope m.value)

  -- the arguments of a head, each of the sort at its place
  typed_args : (us : List WrittenTerm) → Each TypedWhere us → (ss : List Sort) → length us ≡ length ss
      → argument_faults ss (map (term_faults text symbols scope) us) ≡ [] → flat_map (λ p. p.faults) (map products us) ≡ []
      → ArgsFit symbols scope (terms_of (map (term_meaning text symbols scope) us)) ss
  typed_args [] h [] many clean faultless = tt
  typed_args [] h (s ∷ ss) many clean faultless = absurd (omega arith)
  typed_args (u ∷ us) h [] many clean faultless = absurd (omega arith)
  typed_args (u ∷ us) h (s ∷ ss) many clean faultless =
      let rest = argument_faults ss (map (term_faults text symbols scope) us) in
      let own = term_faults text symbols scope u (wanted.OfSort s) in
      let inside = flat_map (λ (p : Products). p.faults) (map products us) in
      let typed = h.0 (wanted.OfSort s) (front_none own rest clean) (front_none (products u).faults inside faultless) in
      let same : typed.sort ≡ s = same_sort-true typed.sort s typed.suited in
      let fewer : length us ≡ length ss = omega arith in
      (subst (Fits symbols scope (term_of text symbols scope u)) same typed.fits, typed_args us h.1 ss fewer (back_none own rest clean) (back_none (products u).faults inside faultless))

  -- what a head gives over arguments that fit
  head_term_fits : (h : Head) (ms : List TermMeaning) (ty : HeadType) → head_type text symbols h ≡ Some ty → ArgsFit symbols scope (terms_of ms) ty.args
      → numbers.head_fault h (map (λ m. m.number) ms) ≡ [] → Fits symbols scope (head_term text symbols h ms) ty.result
  head_term_fits (head.Word w) ms ty is args clean =
      let s = mapped_some (λ (x : Symbol). record { args = x.args; result = x.result }) (symbol_named symbols (name_of text w)) ty is in
      let fits = fits_app symbols scope (symbol_number symbols (name_of text w)) s.0 (terms_of ms) s.1.0
      (subst (λ (y : HeadType). ArgsFit symbols scope (terms_of ms) y.args) (sym s.1.1) args) in
      subst (λ (y : HeadType). Fits symbols scope (term.App (symbol_number symbols (name_of text w)) (terms_of ms)) y.result) s.1.1 fits
  head_term_fits (head.Operation op s) ms ty is args clean =
      let same : operation_type op ≡ ty = cc in
      subst (λ (y : HeadType). Fits symbols scope (operation_term op ms) y.result) same
      (operation_fits symbols scope op ms s (subst (λ (y : HeadType). ArgsFit symbols scope (terms_of ms) y.args) (sym same) args) clean)

  -- a head without a fault over its arguments
  record Headed (w : Wanted) (h : Head) (us : List WrittenTerm) : Type 0 where
    fitted : HeadFits w (length us) (head_type text symbols h)
    args : ArgsFit symbols scope (terms_of (map (term_meaning text symbols scope) us)) fitted.type.args
    numbers_fit : numbers.head_fault h (map (λ m. m.number) (map (term_meaning text symbols scope) us)) ≡ []

  headed : (w : Wanted) (h : Head) (us : List WrittenTerm) → Each TypedWhere us → term_faults text symbols scope (written.Apply h us) w ≡ [] → (products (written.Apply h us)).faults ≡ [] → Headed w h us
  headed w h us typed clean faultless =
      let head_part = head_fault w (head_place h) (length (map (term_faults text symbols scope) us)) (head_type text symbols h) in
      let rest = argument_faults (arguments (head_type text symbols h)) (map (term_faults text symbols scope) us) in
      let all : head_part ++ rest ≡ [] = sym (ap (λ (f : Wanted → Faults). f w) (trees_of.fold-Apply (Wanted → Faults) (term_faults_step text symbols scope) h us)) ∙ clean in
      let inside = flat_map (λ (p : Products). p.faults) (map products us) in
      let every : numbers.head_fault h (numbers_of (map products us)) ++ inside ≡ [] = sym (ap (λ (p : Products). p.faults) (trees_of.fold-Apply Products products_step h us)) ∙ faultless in
      let fitted : HeadFits w (length us) (head_type text symbols h) =
      subst (λ (n : ℕ). HeadFits w n (head_type text symbols h)) (length-map us (term_faults text symbols scope))
      (head_fits w (head_place h) (length (map (term_faults text symbols scope) us)) (head_type text symbols h) (front_none head_part rest all)) in
      record {
        fitted = fitted;
        args = typed_args us typed fitted.type.args fitted.many
            (subst (λ (q : Option HeadType). argument_faults (arguments q) (map (term_faults text symbols scope) us) ≡ []) fitted.is (back_none head_part rest all))
            (back_none (numbers.head_fault h (numbers_of (map products us))) inside every);
        numbers_fit = subst (λ (cs : List (Option Computed)). numbers.head_fault h cs ≡ []) (numbers_alike text symbols scope us (each_of (one_number text symbols scope) us))
            (front_none (numbers.head_fault h (numbers_of (map products us))) inside every);
      }

  typed_apply : (h : Head) (us : List WrittenTerm) → Each TypedWhere us → TypedWhere (written.Apply h us)
  typed_apply h us typed w clean faultless =
      let at = headed w h us typed clean faultless in
      let ms = map (term_meaning text symbols scope) us in
      typed_as w (written.Apply h us) at.fitted.type.result (t.Apply h us) (record { number = head_number h (map (λ m. m.number) ms); term = head_term text symbols h ms })
      (written.outs-Apply h us) (ap (option_map (λ ty. ty.result)) at.fitted.is) at.fitted.suited
      (trees_of.fold-Apply TermMeaning (term_meaning_step text symbols scope) h us) (head_term_fits h ms at.fitted.type at.fitted.is at.args at.numbers_fit)

  typed_term : (n : ℕ) → Descends n scope → (u : WrittenTerm) → TypedWhere u
  typed_term n below = term_induction TypedWhere (typed_variable n below) typed_numeral typed_apply

  -- ---- atoms

  abbrev IsTypedHere : Formula → Type 0
  IsTypedHere a = is_typed symbols a (vars scope) ≡ true

  typed_by : (a : Formula) (f : List Variable → Bool) → is_typed symbols a ≡ f → f (vars scope) ≡ true → IsTypedHere a
  typed_by a f is h = ap (λ (q : List Variable → Bool). q (vars scope)) is ∙ h

  typed_atom : (m : Term) → Fits symbols scope m sorts.Truth → IsTypedHere (g.Atom m)
  typed_atom m h = typed_by (g.Atom m) (λ binders. is_predicate symbols binders (tree m)) (folds.fold-Atom (List Variable → Bool) (typed_step symbols) m)
      (both_true (is_closed symbols (vars scope) (tree m)) (has_sort (sorting.sort symbols (tree m)) sorts.Truth) h.closed (has_sort_of symbols scope (sorting.sort symbols (tree m)) sorts.Truth h.sorted))

  ints_hold : (a b : Term) → Fits symbols scope a sorts.Int → Fits symbols scope b sorts.Int → is_inequality symbols (vars scope) (tree a) (tree b) ≡ true
  ints_hold a b h k =
      both_true (is_closed symbols (vars scope) (tree a) && is_closed symbols (vars scope) (tree b)) (has_sort (sorting.sort symbols (tree a)) sorts.Int && has_sort (sorting.sort symbols (tree b)) sorts.Int)
      (both_true (is_closed symbols (vars scope) (tree a)) (is_closed symbols (vars scope) (tree b)) h.closed k.closed)
      (both_true (has_sort (sorting.sort symbols (tree a)) sorts.Int) (has_sort (sorting.sort symbols (tree b)) sorts.Int)
      (has_sort_of symbols scope (sorting.sort symbols (tree a)) sorts.Int h.sorted) (has_sort_of symbols scope (sorting.sort symbols (tree b)) sorts.Int k.sorted))

  typed_less : (a b : Term) → Fits symbols scope a sorts.Int → Fits symbols scope b sorts.Int → IsTypedHere (g.Less a b)
  typed_less a b h k = typed_by (g.Less a b) (λ binders. is_inequality symbols binders (tree a) (tree b)) (folds.fold-Less (List Variable → Bool) (typed_step symbols) a b) (ints_hold a b h k)

  typed_less_eq : (a b : Term) → Fits symbols scope a sorts.Int → Fits symbols scope b sorts.Int → IsTypedHere (g.LessEq a b)
  typed_less_eq a b h k = typed_by (g.LessEq a b) (λ binders. is_inequality symbols binders (tree a) (tree b)) (folds.fold-LessEq (List Variable → Bool) (typed_step symbols) a b) (ints_hold a b h k)

  typed_true : IsTypedHere g.True
  typed_true = typed_by g.True (λ binders. true) (folds.fold-True (List Variable → Bool) (typed_step symbols)) refl

  typed_comparison : (op : Operation) (ms : List Term) → ArgsFit symbols scope ms (operation_type op).args → IsTypedHere (comparison op ms)
  typed_comparison o.Less (a ∷ b ∷ []) h = typed_less a b h.0 h.1.0
  typed_comparison o.LessEq (a ∷ b ∷ []) h = typed_less_eq a b h.0 h.1.0
  typed_comparison o.Greater (a ∷ b ∷ []) h = typed_less b a h.1.0 h.0
  typed_comparison o.GreaterEq (a ∷ b ∷ []) h = typed_less_eq b a h.1.0 h.0
  typed_comparison op ms h = typed_true

  terms_alike : (us : List WrittenTerm) → terms_of (map (term_meaning text symbols scope) us) ≡ map (term_of text symbols scope) us
  terms_alike [] = refl
  terms_alike (u ∷ us) = ap (λ (ms : List Term). term_of text symbols scope u ∷ ms) (terms_alike us)

  -- a term that stands as a formula
  abbrev AtomTyped : WrittenTerm → Type 0
  AtomTyped u = term_faults text symbols scope u wanted.Predicate ≡ [] → (products u).faults ≡ [] → IsTypedHere (atom_of text symbols scope u)

  atom_as : (u : WrittenTerm) (d : Term-F WrittenTerm) → out-Term u ≡ d → IsTypedHere (atom_step text symbols scope u d) → IsTypedHere (atom_of text symbols scope u)
  atom_as u d opened h = subst (λ (e : Term-F WrittenTerm). IsTypedHere (atom_step text symbols scope u e)) (sym opened) h

  -- what is asked to be a predicate has the sort `$o`
  predicate_fits : (u : WrittenTerm) → Typed wanted.Predicate u → Fits symbols scope (term_of text symbols scope u) sorts.Truth
  predicate_fits u typed = subst (Fits symbols scope (term_of text symbols scope u)) (same_sort-true typed.sort sorts.Truth typed.suited) typed.fits

  module _ (n : ℕ) (below : Descends n scope) where
    applied_atom : (h : Head) (us : List WrittenTerm) → AtomTyped (written.Apply h us)
    applied_atom (head.Word w) us clean faultless =
        atom_as (written.Apply (head.Word w) us) (t.Apply (head.Word w) us) (written.outs-Apply (head.Word w) us)
        (typed_atom (term_of text symbols scope (written.Apply (head.Word w) us))
        (predicate_fits (written.Apply (head.Word w) us) (typed_term n below (written.Apply (head.Word w) us) wanted.Predicate clean faultless)))
    applied_atom (head.Operation op s) us clean faultless =
        let at = headed wanted.Predicate (head.Operation op s) us (each_of (typed_term n below) us) clean faultless in
        let same : operation_type op ≡ at.fitted.type = at_some (operation_type op) at.fitted.type at.fitted.is in
        let args = subst (λ (y : HeadType). ArgsFit symbols scope (terms_of (map (term_meaning text symbols scope) us)) y.args) (sym same) at.args in
        atom_as (written.Apply (head.Operation op s) us) (t.Apply (head.Operation op s) us) (written.outs-Apply (head.Operation op s) us)
        (subst (λ (ms : List Term). IsTypedHere (comparison op ms)) (terms_alike us) (typed_comparison op (terms_of (map (term_meaning text symbols scope) us)) args))

    typed_atom_of : (u : WrittenTerm) → AtomTyped u
    typed_atom_of = term_induction AtomTyped
        (λ s clean faultless. atom_as (written.Variable s) (t.Variable s) (written.outs-Variable s)
        (typed_atom (term_of text symbols scope (written.Variable s)) (predicate_fits (written.Variable s) (typed_term n below (written.Variable s) wanted.Predicate clean faultless))))
        (λ m clean faultless. atom_as (written.Numeral m) (t.Numeral m) (written.outs-Numeral m)
        (typed_atom (term_of text symbols scope (written.Numeral m)) (predicate_fits (written.Numeral m) (typed_term n below (written.Numeral m) wanted.Predicate clean faultless))))
        (λ h us typed. applied_atom h us)

    typed_same : (a b : Term) (s : Sort) → Fits symbols scope a s → Fits symbols scope b s → not (same_sort s sorts.Truth) ≡ true → IsTypedHere (g.Same a b)
    typed_same a b s h k other =
        typed_by (g.Same a b) (λ binders. is_equation symbols binders (tree a) (tree b)) (folds.fold-Same (List Variable → Bool) (typed_step symbols) a b)
        (both_true (is_closed symbols (vars scope) (tree a) && is_closed symbols (vars scope) (tree b))
        (are_alike (sorting.sort symbols (tree a)) (sorting.sort symbols (tree b)) && not (has_sort (sorting.sort symbols (tree a)) sorts.Truth))
        (both_true (is_closed symbols (vars scope) (tree a)) (is_closed symbols (vars scope) (tree b)) h.closed k.closed)
        (ap (λ (q : Option Sort). are_alike q (sorting.sort symbols (tree b)) && not (has_sort q sorts.Truth)) h.sorted
        ∙ ap (λ (q : Option Sort). has_sort q s && not (same_sort s sorts.Truth)) k.sorted
        ∙ both_true (same_sort s s) (not (same_sort s sorts.Truth)) (same_sort-refl s) other))

    typed_not : (a : Formula) → IsTypedHere a → IsTypedHere (g.Not a)
    typed_not a h = typed_by (g.Not a) (λ binders. is_typed symbols a binders) (folds.fold-Not (List Variable → Bool) (typed_step symbols) a) h

    typed_relation : (r : Relation) (s u : WrittenTerm) → relation_faults text symbols scope s u ≡ [] → (products s).faults ++ (products u).faults ≡ []
        → IsTypedHere (relation_of r (term_of text symbols scope s) (term_of text symbols scope u))
    typed_relation r s u clean faultless =
        let own = term_faults text symbols scope s wanted.Term in
        let other = term_faults text symbols scope u (right_side (term_sort text symbols scope s)) in
        let left = typed_term n below s wanted.Term (front_none own other clean) (front_none (products s).faults (products u).faults faultless) in
        let right = typed_term n below u (wanted.OfSort left.sort)
        (subst (λ (q : Option Sort). term_faults text symbols scope u (right_side q) ≡ []) left.has (back_none own other clean)) (back_none (products s).faults (products u).faults faultless) in
        let same = typed_same (term_of text symbols scope s) (term_of text symbols scope u) left.sort left.fits
        (subst (Fits symbols scope (term_of text symbols scope u)) (same_sort-true right.sort left.sort right.suited) right.fits) left.suited in
        at_sign r same
      where
        at_sign : (r : Relation) → IsTypedHere (g.Same (term_of text symbols scope s) (term_of text symbols scope u)) → IsTypedHere (relation_of r (term_of text symbols scope s) (term_of text symbols scope u))
        at_sign Equal h = h
        at_sign Differ h = typed_not (g.Same (term_of text symbols scope s) (term_of text symbols scope u)) h

-- ---- formulas

module _ (symbols : List Symbol) (binders : List Variable) where
  abbrev Holds : Formula → Type 0
  Holds a = is_typed symbols a binders ≡ true

  holds_by : (a : Formula) (f : List Variable → Bool) → is_typed symbols a ≡ f → f binders ≡ true → Holds a
  holds_by a f is h = ap (λ (q : List Variable → Bool). q binders) is ∙ h

  holds_not : (a : Formula) → Holds a → Holds (g.Not a)
  holds_not a h = holds_by (g.Not a) (is_typed symbols a) (folds.fold-Not (List Variable → Bool) (typed_step symbols) a) h

  holds_joined : (j : Junction) (gs : List Formula) → list_all (λ (f : List Variable → Bool). f binders) (map (is_typed symbols) gs) ≡ true → Holds (joined j gs)
  holds_joined junction.And gs h = holds_by (g.And gs) (λ bs. list_all (λ f. f bs) (map (is_typed symbols) gs)) (folds.fold-And (List Variable → Bool) (typed_step symbols) gs) h
  holds_joined junction.Or gs h = holds_by (g.Or gs) (λ bs. list_all (λ f. f bs) (map (is_typed symbols) gs)) (folds.fold-Or (List Variable → Bool) (typed_step symbols) gs) h

  two_hold : (a b : Formula) → Holds a → Holds b → list_all (λ (f : List Variable → Bool). f binders) (map (is_typed symbols) (a ∷ b ∷ [])) ≡ true
  two_hold a b h k = both_true (is_typed symbols a binders) (is_typed symbols b binders && true) h (both_true (is_typed symbols b binders) true k refl)

  holds_iff : (a b : Formula) → Holds a → Holds b → Holds (g.Iff a b)
  holds_iff a b h k = holds_by (g.Iff a b) (λ bs. is_typed symbols a bs && is_typed symbols b bs) (folds.fold-Iff (List Variable → Bool) (typed_step symbols) a b)
      (both_true (is_typed symbols a binders) (is_typed symbols b binders) h k)

  holds_linked : (l : Link) (a b : Formula) → Holds a → Holds b → Holds (linked l a b)
  holds_linked link.Implies a b h k = holds_by (g.Implies a b) (λ bs. is_typed symbols a bs && is_typed symbols b bs) (folds.fold-Implies (List Variable → Bool) (typed_step symbols) a b)
      (both_true (is_typed symbols a binders) (is_typed symbols b binders) h k)
  holds_linked link.Implied a b h k = holds_joined junction.Or (a ∷ g.Not b ∷ []) (two_hold a (g.Not b) h (holds_not b k))
  holds_linked link.Iff a b h k = holds_iff a b h k
  holds_linked link.Xor a b h k = holds_not (g.Iff a b) (holds_iff a b h k)
  holds_linked link.Nand a b h k = holds_not (g.And (a ∷ b ∷ [])) (holds_joined junction.And (a ∷ b ∷ []) (two_hold a b h k))
  holds_linked link.Nor a b h k = holds_not (g.Or (a ∷ b ∷ [])) (holds_joined junction.Or (a ∷ b ∷ []) (two_hold a b h k))

  holds_constant : (b : Bool) → Holds (constant_of b)
  holds_constant true = holds_by g.True (λ bs. true) (folds.fold-True (List Variable → Bool) (typed_step symbols)) refl
  holds_constant false = holds_by g.False (λ bs. true) (folds.fold-False (List Variable → Bool) (typed_step symbols)) refl

  holds_quantified : (q : Quantifier) (vs : List Variable) (a : Formula) → is_typed symbols a (inside vs binders) ≡ true → Holds (quantified q vs a)
  holds_quantified ForAll vs a h = holds_by (g.All vs a) (λ bs. is_typed symbols a (inside vs bs)) (folds.fold-All (List Variable → Bool) (typed_step symbols) vs a) h
  holds_quantified Exists vs a h = holds_by (g.Some vs a) (λ bs. is_typed symbols a (inside vs bs)) (folds.fold-Some (List Variable → Bool) (typed_step symbols) vs a) h

module _ (text : List ℕ) (sig : Signature) where
  -- a formula without faults of typing and of products is well typed where it stands
  abbrev Sound : Meaning → Faults → Type 0
  Sound m products_of = (scope : Scope) (n : ℕ) → Descends n scope → (m scope n).faults ≡ [] → products_of ≡ [] → is_typed sig.symbols (m scope n).formula (vars scope) ≡ true

  sound_as : (m m' : Meaning) (p p' : Faults) → m ≡ m' → p ≡ p' → Sound m' p' → Sound m p
  sound_as m m' p p' e e' h = subst (λ (x : Meaning). Sound x p) (sym e) (subst (λ (x : Faults). Sound m' x) (sym e') h)

  abbrev FormulaSound : WrittenFormula → Type 0
  FormulaSound a = Sound (meaning text sig a) (product_faults a)

  -- the number behind a formula isn't below that before it
  onward : (a : WrittenFormula) (scope : Scope) (n : ℕ) → n ≤ (meaning text sig a scope n).next
  onward a scope n = let behind_it = counted_next text sig a scope n in omega arith

  sound_quantified : (q : Quantifier) (vs : List WrittenVariable) (a : WrittenFormula) → FormulaSound a
      → Sound (meaning_step text sig (f.Quantified q vs (meaning text sig a))) (product_faults a)
  sound_quantified q vs a h scope n below clean faultless =
      let own = bind text sig.sorts n vs scope in
      let body = meaning text sig a own (n + length vs) in
      holds_quantified sig.symbols (vars scope) q (variables_from text sig.sorts n vs) body.formula
      (subst (λ (bs : List Variable). is_typed sig.symbols body.formula bs ≡ true) (bind_vars text sig.sorts n vs scope)
      (h own (n + length vs) (bind_descends text sig.sorts n vs scope below) clean faultless))

  sound_linked : (l : Link) (a b : WrittenFormula) → FormulaSound a → FormulaSound b
      → Sound (meaning_step text sig (f.Linked l (meaning text sig a) (meaning text sig b))) (product_faults a ++ product_faults b)
  sound_linked l a b h k scope n below clean faultless =
      let first_part = meaning text sig a scope n in
      let second_part = meaning text sig b scope first_part.next in
      holds_linked sig.symbols (vars scope) l first_part.formula second_part.formula
      (h scope n below (front_none first_part.faults second_part.faults clean) (front_none (product_faults a) (product_faults b) faultless))
      (k scope first_part.next (descends_later n first_part.next scope (onward a scope n) below) (back_none first_part.faults second_part.faults clean) (back_none (product_faults a) (product_faults b) faultless))

  sound_members : (gs : List WrittenFormula) → Each FormulaSound gs → (scope : Scope) (n : ℕ) → Descends n scope
      → faults_of (members (map (meaning text sig) gs) scope n) ≡ [] → flat_map (λ (fs : Faults). fs) (map product_faults gs) ≡ []
      → list_all (λ (f : List Variable → Bool). f (vars scope)) (map (is_typed sig.symbols) (formulas_of (members (map (meaning text sig) gs) scope n))) ≡ true
  sound_members [] h scope n below clean faultless = refl
  sound_members (a ∷ gs) h scope n below clean faultless =
      let first_part = meaning text sig a scope n in
      let rest = faults_of (members (map (meaning text sig) gs) scope first_part.next) in
      let inside_rest = flat_map (λ (fs : Faults). fs) (map product_faults gs) in
      both_true (is_typed sig.symbols first_part.formula (vars scope))
      (list_all (λ (f : List Variable → Bool). f (vars scope)) (map (is_typed sig.symbols) (formulas_of (members (map (meaning text sig) gs) scope first_part.next))))
      (h.0 scope n below (front_none first_part.faults rest clean) (front_none (product_faults a) inside_rest faultless))
      (sound_members gs h.1 scope first_part.next (descends_later n first_part.next scope (onward a scope n) below) (back_none first_part.faults rest clean) (back_none (product_faults a) inside_rest faultless))

  all_sound : (a : WrittenFormula) → FormulaSound a
  all_sound = formula_induction FormulaSound
      (λ b. sound_as (meaning text sig (written_formula.Constant b)) (meaning_step text sig (f.Constant b)) (product_faults (written_formula.Constant b)) []
      (trees_of.fold-Constant Meaning (meaning_step text sig) b) (trees_of.fold-Constant Faults product_faults_step b)
      (λ scope n below clean faultless. holds_constant sig.symbols (vars scope) b))
      (λ u. sound_as (meaning text sig (written_formula.Atom u)) (meaning_step text sig (f.Atom u)) (product_faults (written_formula.Atom u)) (products u).faults
      (trees_of.fold-Atom Meaning (meaning_step text sig) u) (trees_of.fold-Atom Faults product_faults_step u)
      (λ scope n below clean faultless. typed_atom_of text sig.symbols scope n below u clean faultless))
      (λ r s u. sound_as (meaning text sig (written_formula.Relation r s u)) (meaning_step text sig (f.Relation r s u)) (product_faults (written_formula.Relation r s u)) ((products s).faults ++ (products u).faults)
      (trees_of.fold-Relation Meaning (meaning_step text sig) r s u) (trees_of.fold-Relation Faults product_faults_step r s u)
      (λ scope n below clean faultless. typed_relation text sig.symbols scope n below r s u clean faultless))
      (λ a h. sound_as (meaning text sig (written_formula.Not a)) (meaning_step text sig (f.Not (meaning text sig a))) (product_faults (written_formula.Not a)) (product_faults a)
      (trees_of.fold-Not Meaning (meaning_step text sig) a) (trees_of.fold-Not Faults product_faults_step a)
      (λ scope n below clean faultless. holds_not sig.symbols (vars scope) (meaning text sig a scope n).formula (h scope n below clean faultless)))
      (λ q vs a h. sound_as (meaning text sig (written_formula.Quantified q vs a)) (meaning_step text sig (f.Quantified q vs (meaning text sig a))) (product_faults (written_formula.Quantified q vs a)) (product_faults a)
      (trees_of.fold-Quantified Meaning (meaning_step text sig) q vs a) (trees_of.fold-Quantified Faults product_faults_step q vs a) (sound_quantified q vs a h))
      (λ l a b h k. sound_as (meaning text sig (written_formula.Linked l a b)) (meaning_step text sig (f.Linked l (meaning text sig a) (meaning text sig b))) (product_faults (written_formula.Linked l a b)) (product_faults a ++ product_faults b)
      (trees_of.fold-Linked Meaning (meaning_step text sig) l a b) (trees_of.fold-Linked Faults product_faults_step l a b) (sound_linked l a b h k))
      (λ j gs h. sound_as (meaning text sig (written_formula.Joined j gs)) (meaning_step text sig (f.Joined j (map (meaning text sig) gs))) (product_faults (written_formula.Joined j gs)) (flat_map (λ (fs : Faults). fs) (map product_faults gs))
      (trees_of.fold-Joined Meaning (meaning_step text sig) j gs) (trees_of.fold-Joined Faults product_faults_step j gs)
      (λ scope n below clean faultless. holds_joined sig.symbols (vars scope) j (formulas_of (members (map (meaning text sig) gs) scope n)) (sound_members gs h scope n below clean faultless)))

  -- ---- the file

  closed_formula : (a : WrittenFormula) → (formula_meaning text sig a).faults ≡ [] → product_faults a ≡ [] → is_typed sig.symbols (formula_meaning text sig a).formula [] ≡ true
  closed_formula a clean faultless = all_sound a [] 0 tt clean faultless

  abbrev are_typed : List Formula → Bool
  are_typed = list_all (λ a. is_typed sig.symbols a [])

  typed_premise : (c : Content) (gs : List Formula) → content_faults text sig c ≡ [] → content_products c ≡ [] → are_typed gs ≡ true → are_typed (cons_option (premise_of text sig c) gs) ≡ true
  typed_premise (content.Declaration w ty) gs clean faultless h = h
  typed_premise (content.Premise a) gs clean faultless h = both_true (is_typed sig.symbols (formula_meaning text sig a).formula []) (are_typed gs) (closed_formula a clean faultless) h
  typed_premise (content.Conjecture a) gs clean faultless h = h

  typed_conjecture : (c : Content) (gs : List Formula) → content_faults text sig c ≡ [] → content_products c ≡ [] → are_typed gs ≡ true → are_typed (cons_option (conjecture_of text sig c) gs) ≡ true
  typed_conjecture (content.Declaration w ty) gs clean faultless h = h
  typed_conjecture (content.Premise a) gs clean faultless h = h
  typed_conjecture (content.Conjecture a) gs clean faultless h = both_true (is_typed sig.symbols (formula_meaning text sig a).formula []) (are_typed gs) (closed_formula a clean faultless) h

  typed_premises : (ss : List Statement) → typing_faults text sig ss ≡ [] → phase_4 ss ≡ [] → are_typed (premises_of text sig ss) ≡ true
  typed_premises [] clean faultless = refl
  typed_premises (s ∷ ss) clean faultless =
      typed_premise s.content (premises_of text sig ss) (front_none (content_faults text sig s.content) (typing_faults text sig ss) clean) (front_none (content_products s.content) (phase_4 ss) faultless)
      (typed_premises ss (back_none (content_faults text sig s.content) (typing_faults text sig ss) clean) (back_none (content_products s.content) (phase_4 ss) faultless))

  typed_conjectures : (ss : List Statement) → typing_faults text sig ss ≡ [] → phase_4 ss ≡ [] → are_typed (conjectures_of text sig ss) ≡ true
  typed_conjectures [] clean faultless = refl
  typed_conjectures (s ∷ ss) clean faultless =
      typed_conjecture s.content (conjectures_of text sig ss) (front_none (content_faults text sig s.content) (typing_faults text sig ss) clean) (front_none (content_products s.content) (phase_4 ss) faultless)
      (typed_conjectures ss (back_none (content_faults text sig s.content) (typing_faults text sig ss) clean) (back_none (content_products s.content) (phase_4 ss) faultless))

  typed_first : (gs : List Formula) → are_typed gs ≡ true → are_typed (option_map_or (λ (a : Formula). a ∷ []) (first gs) []) ≡ true
  typed_first [] h = refl
  typed_first (a ∷ gs) h = both_true (is_typed sig.symbols a []) true (left_true (is_typed sig.symbols a []) (are_typed gs) h) refl

  typed_both : (fs gs : List Formula) → are_typed fs ≡ true → are_typed gs ≡ true → are_typed (fs ++ gs) ≡ true
  typed_both [] gs h k = k
  typed_both (a ∷ fs) gs h k = both_true (is_typed sig.symbols a []) (are_typed (fs ++ gs)) (left_true (is_typed sig.symbols a []) (are_typed fs) h)
      (typed_both fs gs (right_true (is_typed sig.symbols a []) (are_typed fs) h) k)

pub problem_typed : (text : List ℕ) (ss : List Statement) → later_faults text ss ≡ [] → IsWellTyped (problem_of text ss)
problem_typed text ss clean =
    let sig = signature_of text ss in
    let front = front_none (phase_2 text ss ++ phase_3 text ss) (phase_4 ss) clean in
    let typing_none : phase_3 text ss ≡ [] = back_none (phase_2 text ss) (phase_3 text ss) front in
    let products_none : phase_4 ss ≡ [] = back_none (phase_2 text ss ++ phase_3 text ss) (phase_4 ss) clean in
    typed_both text sig (premises_of text sig ss) (option_map_or (λ (a : Formula). a ∷ []) (first (conjectures_of text sig ss)) [])
    (typed_premises text sig ss typing_none products_none) (typed_first text sig (conjectures_of text sig ss) (typed_conjectures text sig ss typing_none products_none))
