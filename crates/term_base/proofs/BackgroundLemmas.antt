-- Terms of sort Int without foreground symbols, and what substitutions by them keep.
use Rattle.std.proofs.Common.{◌≡◌, Bool, true, false, not, List, [], ◌∷◌, refl, ap, sym, ◌∙◌, inl, inr}
use Rattle.std.proofs.lemmas.Bool.{not-true, not-false}
use Rattle.std.specs.Prelude.{Option, Some, None, if◌then◌else◌, slice_get}
use Rattle.std.specs.List.{list_all}
use Rattle.std.specs.Option.{option_map_or}
use Rattle.term_base.specs.declared.symbols.Sort.{Sort}
use Rattle.term_base.specs.declared.symbols.Sort.TheVariants.{Int}
use Rattle.term_base.specs.declared.symbols.Symbol.{Symbol}
use Rattle.term_base.specs.declared.variables.Variable.{Variable}
use Rattle.term_base.specs.Classes.{class_of}
use Rattle.term_base.specs.Same.{same_sort}
use Rattle.term_base.specs.SameLemmas.{same_sort-true, same_variable-refl}
use Rattle.term_base.specs.Trees.{Head, truth, number, plus, times, symbol, Tree, Trees, var, node, none, more, occurs, any_occurs}
use Rattle.term_base.specs.TreeLemmas.{both_ways, or-true, or-false, or-left, or-right, and-true}
use Rattle.term_base.specs.Sorting.{has_sort, have_sorts, arity, result_sort, sort, sorts}
use Rattle.term_base.specs.Purity.{is_foreground_class, foreground_head, foreground, any_foreground, foreign, any_foreign}
use Rattle.term_base.specs.Substitution.{put_in, put_all, Simple}
use Rattle.term_base.specs.SubstLemmas.{foreground-put_in, inner_foreground}
use Rattle.term_base.specs.Lits.{Lit, lit_occurs, clause_occurs, put_lit, put_clause}
use Rattle.term_base.specs.Clauses.{is_background_tree, is_background_lit, is_background}
use Rattle.term_base.proofs.SimpleLemmas.{has_sort-true}

-- a symbol that is no foreground symbol has no arguments
parameter_args : (args : List Sort) (r : Sort) → is_foreground_class (class_of args r) ≡ false → args ≡ []
parameter_args [] r h = refl
parameter_args (a ∷ rest) r h = absurd (both_ways true refl h)

symbol_args : (o : Option Symbol) → option_map_or (λ s. is_foreground_class s.class) o false ≡ false → option_map_or (λ s. s.args) o [] ≡ []
symbol_args None h = refl
symbol_args (Some s) h = parameter_args s.args s.result (ap is_foreground_class (sym s.classified) ∙ h)

-- its arguments, and those of sums, products and numbers, have sort Int
abbrev are_ints : List Sort → Bool
are_ints = list_all (λ s. same_sort s Int)

int_arity : (signature : List Symbol) (f : Head) → foreground_head signature f ≡ false → are_ints (arity signature f) ≡ true
int_arity signature truth h = refl
int_arity signature (number n) h = refl
int_arity signature plus h = refl
int_arity signature times h = refl
int_arity signature (symbol f) h = ap are_ints (symbol_args (slice_get signature f) h)

-- a part that has a sort is well sorted
fits : (b : Bool) (r s : Sort) → (if b then Some r else None) ≡ Some s → b ≡ true
fits true r s h = refl
fits false r s h = cc

int_variable : (v : Variable) → Some v.sort ≡ Some Int → not (same_sort v.sort Int) ≡ false
int_variable v h = let e : v.sort ≡ Int = cc in ap (λ s. not (same_sort s Int)) e

module _ (signature : List Symbol) where
  mutual
    -- a term of sort Int without foreground symbol has variables of sort Int alone
    pub int-foreign : (t : Tree) → sort signature t ≡ Some Int → foreground signature t ≡ false → foreign t ≡ false
    int-foreign (var v) s h = int_variable v s
    int-foreign (node f xs) s h =
        let two = or-false (foreground_head signature f) (any_foreground signature xs) h in
        any_int-foreign xs (arity signature f) (int_arity signature f two.0)
        (fits (have_sorts (sorts signature xs) (arity signature f)) (result_sort signature f) Int s) two.1

    any_int-foreign : (xs : Trees) (ss : List Sort) → are_ints ss ≡ true → have_sorts (sorts signature xs) ss ≡ true → any_foreground signature xs ≡ false → any_foreign xs ≡ false
    any_int-foreign none ss is h k = refl
    any_int-foreign (more x xs) [] is h k = absurd (both_ways false h refl)
    any_int-foreign (more x xs) (s ∷ ss) is h k =
        let ints = and-true (same_sort s Int) (are_ints ss) is in
        let sorted = and-true (has_sort (sort signature x) s) (have_sorts (sorts signature xs) ss) h in
        let fore = or-false (foreground signature x) (any_foreground signature xs) k in
        let int : sort signature x ≡ Some Int = has_sort-true (sort signature x) s sorted.0 ∙ ap Some (same_sort-true s Int ints.0) in
        rw (int-foreign x int fore.0) (any_int-foreign xs ss ints.1 sorted.1 fore.1)

  pub int-background : (t : Tree) → sort signature t ≡ Some Int → foreground signature t ≡ false → is_background_tree signature t ≡ true
  int-background t s h = rw (h, int-foreign t s h) refl

  module _ (s : Variable → Tree) (simple : Simple signature s) where
    mutual
      -- variables of sort Int that go to terms without foreground symbols bring variables of sort Int alone
      foreign-put_in : (t : Tree) → foreign t ≡ false → ((v : Variable) → occurs v t ≡ true → foreground signature (s v) ≡ false) → foreign (put_in s t) ≡ false
      foreign-put_in (var v) h each =
          let is : v.sort ≡ Int = same_sort-true v.sort Int (not-false (same_sort v.sort Int) h) in
          int-foreign (s v) (simple.sorted v ∙ ap Some is) (each v (same_variable-refl v))
      foreign-put_in (node f xs) h each = foreign-put_all xs h each

      foreign-put_all : (xs : Trees) → any_foreign xs ≡ false → ((v : Variable) → any_occurs v xs ≡ true → foreground signature (s v) ≡ false) → any_foreign (put_all s xs) ≡ false
      foreign-put_all none h each = refl
      foreign-put_all (more x xs) h each =
          let two = or-false (foreign x) (any_foreign xs) h in
          let one = foreign-put_in x two.0 (λ v o. each v (or-left (occurs v x) (any_occurs v xs) o)) in
          let rest = foreign-put_all xs two.1 (λ v o. each v (or-right (occurs v x) (any_occurs v xs) o)) in
          rw one rest

    pub background_tree-put : (t : Tree) → ((v : Variable) → occurs v t ≡ true → foreground signature (s v) ≡ false) → is_background_tree signature t ≡ true → is_background_tree signature (put_in s t) ≡ true
    background_tree-put t each h =
        let two = and-true (not (foreground signature t)) (not (foreign t)) h in
        rw (foreground-put_in signature s t (not-true (foreground signature t) two.0) each, foreign-put_in t (not-true (foreign t) two.1) each) refl

    pub background_clause-put : (c : List Lit) → ((v : Variable) → clause_occurs v c ≡ true → foreground signature (s v) ≡ false) → is_background signature c ≡ true → is_background signature (put_clause s c) ≡ true
    background_clause-put [] each h = refl
    background_clause-put (l ∷ ls) each h =
        let two = and-true (is_background_lit signature l) (is_background signature ls) h in
        let sides = and-true (is_background_tree signature l.left) (is_background_tree signature l.right) two.0 in
        let here : (v : Variable) → lit_occurs v l ≡ true → foreground signature (s v) ≡ false = λ v o. each v (or-left (lit_occurs v l) (clause_occurs v ls) o) in
        let left = background_tree-put l.left (λ v o. here v (or-left (occurs v l.left) (occurs v l.right) o)) sides.0 in
        let right = background_tree-put l.right (λ v o. here v (or-right (occurs v l.left) (occurs v l.right) o)) sides.1 in
        let rest = background_clause-put ls (λ v o. each v (or-right (lit_occurs v l) (clause_occurs v ls) o)) two.1 in
        rw (left, right, rest) refl

  -- only by terms without foreground symbols
  module _ (s : Variable → Tree) where
    pub background_tree-only : (t : Tree) → is_background_tree signature (put_in s t) ≡ true → (v : Variable) → occurs v t ≡ true → foreground signature (s v) ≡ false
    background_tree-only t h v o =
        let two = and-true (not (foreground signature (put_in s t))) (not (foreign (put_in s t))) h in
        inner_foreground signature s t (not-true (foreground signature (put_in s t)) two.0) v o

    background_lit-only : (l : Lit) → is_background_lit signature (put_lit s l) ≡ true → (v : Variable) → lit_occurs v l ≡ true → foreground signature (s v) ≡ false
    background_lit-only l h v o =
        let sides = and-true (is_background_tree signature (put_in s l.left)) (is_background_tree signature (put_in s l.right)) h in
        elim (or-true (occurs v l.left) (occurs v l.right) o) [
          | inl p ↦ background_tree-only l.left sides.0 v p
          | inr q ↦ background_tree-only l.right sides.1 v q
        ]

    pub background_clause-only : (c : List Lit) → is_background signature (put_clause s c) ≡ true → (v : Variable) → clause_occurs v c ≡ true → foreground signature (s v) ≡ false
    background_clause-only [] h v o = absurd (both_ways false o refl)
    background_clause-only (l ∷ ls) h v o =
        let two = and-true (is_background_lit signature (put_lit s l)) (is_background signature (put_clause s ls)) h in
        elim (or-true (lit_occurs v l) (clause_occurs v ls) o) [
          | inl p ↦ background_lit-only l two.0 v p
          | inr q ↦ background_clause-only ls two.1 v q
        ]
