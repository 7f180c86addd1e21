-- The laws of substitutions, places and weights.
use Rattle.std.proofs.Common.{◌≡◌, ◌≤◌, ℕ, zero, suc, true, false, ◌&&◌, not, List, [], ◌∷◌, map, inl, inr, refl, ap, sym, ◌∙◌, arith}
use Rattle.std.proofs.lemmas.List.Sums.{sum_by-cons}
use Rattle.std.specs.List.{sum}
use Rattle.std.specs.Prelude.{Some, ◌+◌}
use Rattle.std.specs.Option.{option_and_then, option_map_or}
use Rattle.term_base.specs.declared.places.Place.{Place}
use Rattle.term_base.specs.declared.places.Side.{Side}
use Rattle.term_base.specs.declared.places.Side.TheVariants.{Left, Right}
use Rattle.term_base.specs.declared.symbols.Sort.{Sort}
use Rattle.term_base.specs.declared.symbols.Sort.TheVariants.{Individual, Int, Declared, Truth}
use Rattle.term_base.specs.declared.symbols.Symbol.{Symbol}
use Rattle.term_base.specs.declared.terms.Term.{Term}
use Rattle.term_base.specs.declared.variables.Kind.{Kind}
use Rattle.term_base.specs.declared.variables.Kind.TheVariants.{Abstraction, Ordinary}
use Rattle.term_base.specs.declared.variables.Variable.{Variable}
use Rattle.term_base.specs.Proper.{IsProper}
use Rattle.term_base.specs.Same.{same_sort, same_kind}
use Rattle.term_base.specs.Trees.{Tree, Trees, var, node, none, more, trees, tree}
use Rattle.term_base.specs.TreeLemmas.{true_or_false, both_ways, or-false}
use Rattle.term_base.specs.TreeOf.{tree-Var, tree-Num, tree-True, tree-Sum, tree-Scale, tree-App}
use Rattle.term_base.specs.TermFolds.{fold-Var, fold-Num, fold-True, fold-Sum, fold-Scale, fold-App}
use Rattle.term_base.specs.TermInduction.{Each, term_induction}
use Rattle.term_base.specs.Sorting.{sort, sorts}
use Rattle.term_base.specs.Purity.{is_abstraction, ordinary, any_ordinary, foreign, any_foreign, IsPure}
use Rattle.term_base.specs.Substitution.{put_in, Simple}
use Rattle.term_base.specs.SimpleSubst.{pure-put_in}
use Rattle.term_base.specs.SubstLemmas.{sort-put_in}
use Rattle.term_base.specs.Lits.{Lit, put_lit, put_clause, EachLit}
use Rattle.term_base.specs.LitLemmas.{first_of, at_path-put, put_at-put, named-put, with_side-put, item-put, changed-put}
use Rattle.term_base.specs.Clauses.{are_sides, is_lit_sorted, is_well_sorted, is_background_tree, is_background}
use Rattle.term_base.specs.Places.{named, with_side, item, changed, argument, with_argument, argument_number, child, with_child, at_path, put_child, put_at, tree_at, put_place, replaced}
use Rattle.term_base.specs.Weight.{weight, weight_all}
use Rattle.term_base.specs.Nodes.{nodes, nodes_step}

-- an abstraction variable has sort Int, so a tree without ordinary variables has variables of sort Int alone
abstraction_is_Int : (k : Kind) (r : Sort) → IsProper k r → same_kind k Abstraction ≡ true → same_sort r Int ≡ true
abstraction_is_Int Abstraction Int p h = refl
abstraction_is_Int Abstraction Individual p h = absurd (both_ways false p refl)
abstraction_is_Int Abstraction (Declared n) p h = absurd (both_ways false p refl)
abstraction_is_Int Abstraction Truth p h = absurd (both_ways false p refl)
abstraction_is_Int Ordinary r p h = absurd (both_ways false h refl)

mutual
  pub foreign-none : (t : Tree) → ordinary t ≡ false → foreign t ≡ false
  foreign-none (var v) h = elim (true_or_false (is_abstraction v)) [
    | inl is ↦ ap not (abstraction_is_Int v.kind v.sort v.proper is)
    | inr is ↦ absurd (both_ways (not (is_abstraction v)) (ap not is) h)
  ]
  foreign-none (node f xs) h = any_foreign-none xs h

  any_foreign-none : (xs : Trees) → any_ordinary xs ≡ false → any_foreign xs ≡ false
  any_foreign-none none h = refl
  any_foreign-none (more x xs) h = let two = or-false (ordinary x) (any_ordinary xs) h in rw (foreign-none x two.0) (any_foreign-none xs two.1)

background-pure : (signature : List Symbol) (t : Tree) → IsPure signature t → is_background_tree signature t ≡ true
background-pure signature t p = rw (p.no_foreground, foreign-none t p.no_ordinary) refl

-- a clause of pure sides is a background clause
pub background-sides : (signature : List Symbol) (c : List Lit) → EachLit (λ l. IsPure signature l.left × IsPure signature l.right) c → is_background signature c ≡ true
background-sides signature [] h = refl
background-sides signature (l ∷ ls) h =
    let left = background-pure signature l.left h.0.0 in
    let right = background-pure signature l.right h.0.1 in
    rw (left, right, background-sides signature ls h.1) refl

-- and stays one under a simple substitution
pub background-put : (signature : List Symbol) (s : Variable → Tree) → Simple signature s → (c : List Lit) → EachLit (λ l. IsPure signature l.left × IsPure signature l.right) c → is_background signature (put_clause s c) ≡ true
background-put signature s simple [] h = refl
background-put signature s simple (l ∷ ls) h =
    let left = background-pure signature (put_in s l.left) (pure-put_in signature s simple l.left h.0.0) in
    let right = background-pure signature (put_in s l.right) (pure-put_in signature s simple l.right h.0.1) in
    rw (left, right, background-put signature s simple ls h.1) refl

-- a substitution that keeps sorts keeps clauses well sorted
pub well_sorted-put : (signature : List Symbol) (s : Variable → Tree) → ((v : Variable) → sort signature (s v) ≡ Some v.sort) → (c : List Lit) → is_well_sorted signature (put_clause s c) ≡ is_well_sorted signature c
well_sorted-put signature s sorted [] = refl
well_sorted-put signature s sorted (l ∷ ls) =
    rw (sort-put_in signature s sorted l.left, sort-put_in signature s sorted l.right, well_sorted-put signature s sorted ls) refl

argument-with : (n : ℕ) (xs : Trees) (x new : Tree) → argument n xs ≡ Some x → argument n (with_argument n new xs) ≡ Some new
argument-with n none x new h = cc
argument-with zero (more y ys) x new h = refl
argument-with (suc n) (more y ys) x new h = argument-with n ys x new h

child-with : (n : ℕ) (t x new : Tree) → child n t ≡ Some x → child n (with_child n new t) ≡ Some new
child-with n (var v) x new h = cc
child-with n (node f xs) x new h = argument-with (argument_number f n) xs x new h

at_path-put_at : (path : List ℕ) (t u new : Tree) → at_path path t ≡ Some u → at_path path (put_at path new t) ≡ Some new
at_path-put_at [] t u new h = refl
at_path-put_at (n ∷ path) t u new h =
    let f = first_of (at_path path) (child n t) u h in
    ap (λ o. option_and_then (at_path path) (child n (put_child (put_at path new) n t o))) f.1.0
    ∙ ap (option_and_then (at_path path)) (child-with n t f.0 (put_at path new f.0) f.1.0)
    ∙ at_path-put_at path f.0 u new f.1.1

named-with_side : (side : Side) (t : Tree) (l : Lit) → named side (with_side side t l) ≡ t
named-with_side Left t l = refl
named-with_side Right t l = refl

item-changed : (n : ℕ) (c : List Lit) (l new : Lit) → item n c ≡ Some l → item n (changed n new c) ≡ Some new
item-changed n [] l new h = cc
item-changed zero (m ∷ ms) l new h = refl
item-changed (suc n) (m ∷ ms) l new h = item-changed n ms l new h

module _ (c : List Lit) (p : Place) (u : Tree) (there : tree_at c p ≡ Some u) where
  found : (l : Lit) × ((item p.literal c ≡ Some l) × (at_path p.path (named p.side l) ≡ Some u))
  found = first_of (λ l. at_path p.path (named p.side l)) (item p.literal c) u there

  replaced-is : (new : Tree) → replaced c p new ≡ changed p.literal (put_place p new found.0) c
  replaced-is new = ap (λ o. option_map_or (λ l. changed p.literal (put_place p new l) c) o c) found.1.0

  -- the term that was put at a place is there
  pub tree_at-replaced : (new : Tree) → tree_at (replaced c p new) p ≡ Some new
  tree_at-replaced new =
      let side = named p.side found.0 in
      ap (λ d. tree_at d p) (replaced-is new)
      ∙ ap (option_and_then (λ l. at_path p.path (named p.side l))) (item-changed p.literal c found.0 (put_place p new found.0) found.1.0)
      ∙ ap (at_path p.path) (named-with_side p.side (put_at p.path new side) found.0)
      ∙ at_path-put_at p.path side u new found.1.1

  -- a place stays under a substitution, and has the instance
  pub tree_at-put : (s : Variable → Tree) → tree_at (put_clause s c) p ≡ Some (put_in s u)
  tree_at-put s =
      ap (option_and_then (λ l. at_path p.path (named p.side l))) (item-put s p.literal c found.0 found.1.0)
      ∙ ap (at_path p.path) (named-put s p.side found.0)
      ∙ at_path-put s p.path (named p.side found.0) u found.1.1

  -- a substitution after a replacement is the replacement of instances
  pub replaced-put : (s : Variable → Tree) (new : Tree) → replaced (put_clause s c) p (put_in s new) ≡ put_clause s (replaced c p new)
  replaced-put s new =
      let l = found.0 in
      ap (λ o. option_map_or (λ k. changed p.literal (put_place p (put_in s new) k) (put_clause s c)) o (put_clause s c)) (item-put s p.literal c l found.1.0)
      ∙ ap (λ t. changed p.literal (with_side p.side (put_at p.path (put_in s new) t) (put_lit s l)) (put_clause s c)) (named-put s p.side l)
      ∙ ap (λ t. changed p.literal (with_side p.side t (put_lit s l)) (put_clause s c)) (put_at-put s p.path new (named p.side l) u found.1.1)
      ∙ ap (λ k. changed p.literal k (put_clause s c)) (with_side-put s p.side (put_at p.path new (named p.side l)) l)
      ∙ changed-put s p.literal (put_place p new l) c
      ∙ sym (ap (put_clause s) (replaced-is new))

module _ (signature : List Symbol) where
  sorts-with : (n : ℕ) (xs : Trees) (x new : Tree) → argument n xs ≡ Some x → sort signature new ≡ sort signature x → sorts signature (with_argument n new xs) ≡ sorts signature xs
  sorts-with n none x new h e = cc
  sorts-with zero (more y ys) x new h e = let is : y ≡ x = cc in ap (λ o. o ∷ sorts signature ys) (e ∙ sym (ap (sort signature) is))
  sorts-with (suc n) (more y ys) x new h e = ap (λ os. sort signature y ∷ os) (sorts-with n ys x new h e)

  sort-with_child : (n : ℕ) (t x new : Tree) → child n t ≡ Some x → sort signature new ≡ sort signature x → sort signature (with_child n new t) ≡ sort signature t
  sort-with_child n (var v) x new h e = refl
  sort-with_child n (node f xs) x new h e = rw (sorts-with (argument_number f n) xs x new h e) refl

  sort-put_at : (path : List ℕ) (t u new : Tree) → at_path path t ≡ Some u → sort signature new ≡ sort signature u → sort signature (put_at path new t) ≡ sort signature t
  sort-put_at [] t u new h e = let is : t ≡ u = cc in e ∙ sym (ap (sort signature) is)
  sort-put_at (n ∷ path) t u new h e =
      let f = first_of (at_path path) (child n t) u h in
      ap (λ o. sort signature (put_child (put_at path new) n t o)) f.1.0
      ∙ sort-with_child n t f.0 (put_at path new f.0) f.1.0 (sort-put_at path f.0 u new f.1.1 e)

  sorted-with_side : (side : Side) (t : Tree) (l : Lit) → sort signature t ≡ sort signature (named side l) → is_lit_sorted signature (with_side side t l) ≡ is_lit_sorted signature l
  sorted-with_side Left t l e = ap (λ o. are_sides l.relation o (sort signature l.right)) e
  sorted-with_side Right t l e = ap (λ o. are_sides l.relation (sort signature l.left) o) e

  sorted-changed : (n : ℕ) (c : List Lit) (l new : Lit) → item n c ≡ Some l → is_lit_sorted signature new ≡ is_lit_sorted signature l → is_well_sorted signature (changed n new c) ≡ is_well_sorted signature c
  sorted-changed n [] l new h e = cc
  sorted-changed zero (m ∷ ms) l new h e = let is : m ≡ l = cc in ap (λ b. b && is_well_sorted signature ms) (e ∙ sym (ap (is_lit_sorted signature) is))
  sorted-changed (suc n) (m ∷ ms) l new h e = ap (λ b. is_lit_sorted signature m && b) (sorted-changed n ms l new h e)

  -- a term of the sort at a place keeps the clause well sorted
  pub well_sorted-replaced : (c : List Lit) (p : Place) (u new : Tree) → tree_at c p ≡ Some u → sort signature new ≡ sort signature u → is_well_sorted signature (replaced c p new) ≡ is_well_sorted signature c
  well_sorted-replaced c p u new there e =
      let f = found c p u there in
      ap (is_well_sorted signature) (replaced-is c p u there new)
      ∙ sorted-changed p.literal c f.0 (put_place p new f.0) f.1.0
      (sorted-with_side p.side (put_at p.path new (named p.side f.0)) f.0 (sort-put_at p.path (named p.side f.0) u new f.1.1 e))

-- weights
nodes_all : (ts : List Term) → Each (λ t. nodes t ≤ weight (tree t)) ts → sum (map nodes ts) ≤ weight_all (trees (map tree ts))
nodes_all [] all = omega arith
nodes_all (t ∷ ts) all =
    let one = all.0 in
    let rest = nodes_all ts all.1 in
    let split : sum (map nodes (t ∷ ts)) ≡ nodes t + sum (map nodes ts) = sum_by-cons (λ n. n) (nodes t) (map nodes ts) in
    rw split (omega arith)

pub nodes-weight : (t : Term) → nodes t ≤ weight (tree t)
nodes-weight = term_induction (λ t. nodes t ≤ weight (tree t))
    (λ v. rw (fold-Var ℕ nodes_step v, tree-Var v) (omega arith))
    (λ n. rw (fold-Num ℕ nodes_step n, tree-Num n) (omega arith))
    (rw (fold-True ℕ nodes_step, tree-True) (omega arith))
    (λ a b in_a in_b. rw (fold-Sum ℕ nodes_step a b, tree-Sum a b) (omega arith))
    (λ k a in_a. rw (fold-Scale ℕ nodes_step k a, tree-Scale k a) (omega arith))
    (λ f ts all. let inner = nodes_all ts all in rw (fold-App ℕ nodes_step f ts, tree-App f ts) (omega arith))
