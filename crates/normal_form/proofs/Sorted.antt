-- The sorts of terms whose variables are replaced.
use Rattle.std.proofs.Common.{◌≡◌, ℕ, Bool, true, false, ◌&&◌, List, [], ◌∷◌, map, refl, sym, ap, ◌∙◌, subst}
use Rattle.std.specs.Prelude.{Option, Some, None, is_some, slice_get, ℤ, if◌then◌else◌}
use Rattle.std.specs.Option.{option_map_or}
use Rattle.term_base.specs.declared.symbols.Sort.{Sort}
use Rattle.term_base.specs.declared.symbols.Sort.TheVariants.{Int}
use Rattle.term_base.specs.declared.symbols.Symbol.{Symbol}
use Rattle.term_base.specs.declared.variables.Variable.{Variable}
use Rattle.term_base.specs.declared.terms.Term.{Term}
use Rattle.term_base.specs.declared.terms.Term.TheVariants as term
use Rattle.term_base.specs.SameLemmas.{same_sort-true, same_sort-refl}
use Rattle.term_base.specs.Trees.{Head, truth, number, plus, times, symbol, Tree, Trees, var, node, none, more, tree, trees}
use Rattle.term_base.specs.TreeOf.{tree-Var, tree-Num, tree-True, tree-Sum, tree-Scale, tree-App}
use Rattle.term_base.specs.TermFolds.{fold-Var, fold-Num, fold-True, fold-Sum, fold-Scale, fold-App}
use Rattle.term_base.specs.TermInduction.{Each, term_induction}
use Rattle.term_base.specs.Sorting.{sort, sorts, has_sort, have_sorts, arity, result_sort}
use Rattle.term_base.specs.Substitution.{put_in, put_all}
use Rattle.formula_base.specs.Typing.{is_bound, is_known, is_closed, are_closed}
use Rattle.normal_form.specs.declared.scopes.Scope.{Scope}
use Rattle.normal_form.specs.Cnf.{at_variable, instance, instance_step}
use Rattle.normal_form.specs.Numbering.{renumbered, renumber, renumber_step}
use Rattle.normal_form.proofs.Signature.{Extends}

-- ---- tests that hold

pub and_left : (a b : Bool) → a && b ≡ true → a ≡ true
and_left true b h = refl
and_left false b h = h

pub and_right : (a b : Bool) → a && b ≡ true → b ≡ true
and_right true b h = h
and_right false b h = cc

pub has_sort-some : (r : Option Sort) (s : Sort) → has_sort r s ≡ true → r ≡ Some s
has_sort-some None s h = cc
has_sort-some (Some r) s h = ap (λ (x : Sort). Some x) (same_sort-true r s h)

pub some-has_sort : (r : Option Sort) (s : Sort) → r ≡ Some s → has_sort r s ≡ true
some-has_sort r s e = subst (λ (o : Option Sort). has_sort o s ≡ true) (sym e) (same_sort-refl s)

-- ---- a term whose variables are replaced by terms of their sorts, over a larger signature

pub known_symbol : (o : Option Symbol) → is_some o ≡ true → (s : Symbol) × (o ≡ Some s)
known_symbol None h = cc
known_symbol (Some s) h = (s, refl)

known_head : (larger smaller : List Symbol) → Extends larger smaller → (h : Head) → is_known smaller h ≡ true → (arity larger h ≡ arity smaller h) × (result_sort larger h ≡ result_sort smaller h)
known_head larger smaller e truth k = (refl, refl)
known_head larger smaller e (number n) k = (refl, refl)
known_head larger smaller e plus k = (refl, refl)
known_head larger smaller e times k = (refl, refl)
known_head larger smaller e (symbol g) k =
    let s = known_symbol (slice_get smaller g) k in
    let both = e g s.0 s.1 ∙ sym s.1 in
    (ap (λ (o : Option Symbol). option_map_or (λ x. x.args) o []) both, ap (λ (o : Option Symbol). option_map_or (λ x. x.result) o Int) both)

if_some : (b : Bool) (x r : Sort) → (if b then Some x else None) ≡ Some r → (b ≡ true) × (x ≡ r)
if_some true x r e = (refl, (cc))
if_some false x r e = absurd (cc)

module _ (larger smaller : List Symbol) (extends : Extends larger smaller) (binders : List Variable) (s : Variable → Tree)
    (sorted : (v : Variable) → is_bound binders v ≡ true → sort larger (s v) ≡ Some v.sort) where
  mutual
    pub sort_put : (x : Tree) → is_closed smaller binders x ≡ true → (r : Sort) → sort smaller x ≡ Some r → sort larger (put_in s x) ≡ Some r
    sort_put (var v) closed r e = sorted v closed ∙ e
    sort_put (node h xs) closed r e =
        let known = known_head larger smaller extends h (and_left (is_known smaller h) (are_closed smaller binders xs) closed) in
        let parts = and_right (is_known smaller h) (are_closed smaller binders xs) closed in
        let have = if_some (have_sorts (sorts smaller xs) (arity smaller h)) (result_sort smaller h) r e in
        let here = sorts_put xs parts (arity smaller h) have.0 in
        let there = subst (λ (ss : List Sort). have_sorts (sorts larger (put_all s xs)) ss ≡ true) (sym known.0) here in
        ap (λ (b : Bool). if b then Some (result_sort larger h) else None) there ∙ ap (λ (x : Sort). Some x) (known.1 ∙ have.1)

    sorts_put : (xs : Trees) → are_closed smaller binders xs ≡ true → (ss : List Sort) → have_sorts (sorts smaller xs) ss ≡ true → have_sorts (sorts larger (put_all s xs)) ss ≡ true
    sorts_put none closed [] e = refl
    sorts_put none closed (r ∷ ss) e = e
    sorts_put (more x xs) closed [] e = e
    sorts_put (more x xs) closed (r ∷ ss) e =
        let one = has_sort-some (sort smaller x) r (and_left (has_sort (sort smaller x) r) (have_sorts (sorts smaller xs) ss) e) in
        let first = some-has_sort (sort larger (put_in s x)) r (sort_put x (and_left (is_closed smaller binders x) (are_closed smaller binders xs) closed) r one) in
        let rest = sorts_put xs (and_right (is_closed smaller binders x) (are_closed smaller binders xs) closed) ss (and_right (has_sort (sort smaller x) r) (have_sorts (sorts smaller xs) ss) e) in
        ap (λ (b : Bool). b && have_sorts (sorts larger (put_all s xs)) ss) first ∙ rest

-- ---- variables for variables of their sorts

module _ (signature : List Symbol) (s : Variable → Tree) (sorted : (v : Variable) → sort signature (s v) ≡ Some v.sort) where
  mutual
    pub sort_renamed : (x : Tree) → sort signature (put_in s x) ≡ sort signature x
    sort_renamed (var v) = sorted v
    sort_renamed (node h xs) = ap (λ (rs : List (Option Sort)). if have_sorts rs (arity signature h) then Some (result_sort signature h) else None) (sorts_renamed xs)

    sorts_renamed : (xs : Trees) → sorts signature (put_all s xs) ≡ sorts signature xs
    sorts_renamed none = refl
    sorts_renamed (more x xs) =
        ap (λ (r : Option Sort). r ∷ sorts signature (put_all s xs)) (sort_renamed x) ∙ ap (λ (rs : List (Option Sort)). sort signature x ∷ rs) (sorts_renamed xs)

-- ---- terms as trees

-- a function on terms that replaces variables and keeps the rest
record Replaces (s : Variable → Term) (f : Term → Term) : Type 0 where
  at_var : (v : Variable) → f (term.Var v) ≡ s v
  at_num : (n : ℤ) → f (term.Num n) ≡ term.Num n
  at_true : f term.True ≡ term.True
  at_sum : (a b : Term) → f (term.Sum a b) ≡ term.Sum (f a) (f b)
  at_scale : (k : ℤ) (a : Term) → f (term.Scale k a) ≡ term.Scale k (f a)
  at_app : (g : ℕ) (ts : List Term) → f (term.App g ts) ≡ term.App g (map f ts)

module _ (s : Variable → Term) (f : Term → Term) (r : Replaces s f) where
  abbrev images : Variable → Tree
  images v = tree (s v)

  abbrev IsPut : Term → Type 0
  IsPut t = tree (f t) ≡ put_in images (tree t)

  all_put : (ts : List Term) → Each IsPut ts → trees (map tree (map f ts)) ≡ put_all images (trees (map tree ts))
  all_put [] h = refl
  all_put (t ∷ ts) h = ap (λ (x : Tree). more x (trees (map tree (map f ts)))) h.0 ∙ ap (more (put_in images (tree t))) (all_put ts h.1)

  tree_put : (t : Term) → IsPut t
  tree_put = term_induction IsPut
      (λ v. ap tree (r.at_var v) ∙ sym (ap (put_in images) (tree-Var v)))
      (λ n. ap tree (r.at_num n) ∙ tree-Num n ∙ sym (ap (put_in images) (tree-Num n)))
      (ap tree r.at_true ∙ tree-True ∙ sym (ap (put_in images) tree-True))
      (λ a b p q. ap tree (r.at_sum a b) ∙ tree-Sum (f a) (f b) ∙ ap (λ (x : Tree). node plus (more x (more (tree (f b)) none))) p
      ∙ ap (λ (x : Tree). node plus (more (put_in images (tree a)) (more x none))) q ∙ sym (ap (put_in images) (tree-Sum a b)))
      (λ k a p. ap tree (r.at_scale k a) ∙ tree-Scale k (f a) ∙ ap (λ (x : Tree). node times (more (node (number k) none) (more x none))) p ∙ sym (ap (put_in images) (tree-Scale k a)))
      (λ g ts h. ap tree (r.at_app g ts) ∙ tree-App g (map f ts) ∙ ap (node (symbol g)) (all_put ts h) ∙ sym (ap (put_in images) (tree-App g ts)))

pub tree_instance : (scope : Scope) (t : Term) → tree (instance scope t) ≡ put_in (λ v. tree (at_variable scope.terms v)) (tree t)
tree_instance scope = tree_put (at_variable scope.terms) (instance scope) record {
  at_var = λ v. fold-Var Term (instance_step scope.terms) v;
  at_num = λ n. fold-Num Term (instance_step scope.terms) n;
  at_true = fold-True Term (instance_step scope.terms);
  at_sum = λ a b. fold-Sum Term (instance_step scope.terms) a b;
  at_scale = λ k a. fold-Scale Term (instance_step scope.terms) k a;
  at_app = λ g ts. fold-App Term (instance_step scope.terms) g ts;
}

pub tree_renumber : (ordinary : Bool) (places : List ℕ) (t : Term) → tree (renumber ordinary places t) ≡ put_in (λ v. tree (term.Var (renumbered ordinary places v))) (tree t)
tree_renumber ordinary places = tree_put (λ v. term.Var (renumbered ordinary places v)) (renumber ordinary places) record {
  at_var = λ v. fold-Var Term (renumber_step ordinary places) v;
  at_num = λ n. fold-Num Term (renumber_step ordinary places) n;
  at_true = fold-True Term (renumber_step ordinary places);
  at_sum = λ a b. fold-Sum Term (renumber_step ordinary places) a b;
  at_scale = λ k a. fold-Scale Term (renumber_step ordinary places) k a;
  at_app = λ g ts. fold-App Term (renumber_step ordinary places) g ts;
}

-- renumbering keeps the sort
pub sort_renumber : (signature : List Symbol) (ordinary : Bool) (places : List ℕ) (t : Term) → sort signature (tree (renumber ordinary places t)) ≡ sort signature (tree t)
sort_renumber signature ordinary places t =
    ap (sort signature) (tree_renumber ordinary places t)
    ∙ sort_renamed signature (λ v. tree (term.Var (renumbered ordinary places v))) (λ v. ap (sort signature) (tree-Var (renumbered ordinary places v))) (tree t)
