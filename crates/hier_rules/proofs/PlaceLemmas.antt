-- The paths of the places that count: below a Pure term there are none, and those of another term are its own and its children's.
use Rattle.std.proofs.Common.{◌≡◌, ℕ, ◌+◌, Bool, true, false, ◌||◌, List, [], ◌∷◌, ◌++◌, map, append_assoc, append-nil, refl, ap, sym, ◌∙◌}
use Rattle.std.specs.Prelude.{ℤ}
use Rattle.term_base.specs.declared.symbols.Symbol.{Symbol}
use Rattle.term_base.specs.declared.terms.Term.{Term}
use Rattle.term_base.specs.declared.terms.Term.TheVariants.{Sum, Scale, App}
use Rattle.term_base.specs.Purity.{foreground, foreground_head, any_foreground, ordinary, any_ordinary}
use Rattle.term_base.specs.TreeLemmas.{or-false}
use Rattle.term_base.specs.TreeOf.{tree-Sum, tree-Scale, tree-App}
use Rattle.term_base.specs.Trees.{Head, truth, number, plus, times, symbol, Tree, Trees, var, node, none, more, tree, trees}
use Rattle.hier_rules.specs.CountedPlaces.{counts, this_path, paths, paths_each}

both_false : (a b : Bool) → a ≡ false → b ≡ false → (a || b) ≡ false
both_false true b h k = cc
both_false false b h k = k

-- neither this path nor others
no_path : (b : Bool) (path : List ℕ) (others : List (List ℕ)) → b ≡ false → others ≡ [] → this_path b path ++ others ≡ []
no_path true path others h none_is = cc
no_path false path others h none_is = none_is

nothing_more : (ps qs : List (List ℕ)) → ps ≡ [] → qs ≡ [] → ps ++ qs ≡ []
nothing_more [] qs p q = q
nothing_more (x ∷ ps) qs p q = cc

module _ (S : List Symbol) where
  counts_not : (f : Head) (xs : Trees) → foreground S (node f xs) ≡ false → ordinary (node f xs) ≡ false → counts S (node f xs) ≡ false
  counts_not f xs h o = both_false (foreground S (node f xs)) (ordinary (node f xs)) h o

  children : (f : Head) (xs : Trees) → foreground S (node f xs) ≡ false → any_foreground S xs ≡ false
  children f xs h = (or-false (foreground_head S f) (any_foreground S xs) h).1

  mutual
    no_paths : (path : List ℕ) (t : Tree) → foreground S t ≡ false → ordinary t ≡ false → paths S path t ≡ []
    no_paths path (var v) h o = refl
    no_paths path (node truth xs) h o = no_path (counts S (node truth xs)) path (paths_each S path 0 xs) (counts_not truth xs h o) (no_paths_each path 0 xs (children truth xs h) o)
    no_paths path (node (number n) xs) h o =
        no_path (counts S (node (number n) xs)) path (paths_each S path 0 xs) (counts_not (number n) xs h o) (no_paths_each path 0 xs (children (number n) xs h) o)
    no_paths path (node plus xs) h o = no_path (counts S (node plus xs)) path (paths_each S path 0 xs) (counts_not plus xs h o) (no_paths_each path 0 xs (children plus xs h) o)
    no_paths path (node times none) h o = no_path (counts S (node times none)) path [] (counts_not times none h o) refl
    no_paths path (node times (more k xs)) h o =
        no_path (counts S (node times (more k xs))) path (paths_each S path 0 xs) (counts_not times (more k xs) h o)
        (no_paths_each path 0 xs (or-false (foreground S k) (any_foreground S xs) (children times (more k xs) h)).1 (or-false (ordinary k) (any_ordinary xs) o).1)
    no_paths path (node (symbol g) xs) h o =
        no_path (counts S (node (symbol g) xs)) path (paths_each S path 0 xs) (counts_not (symbol g) xs h o) (no_paths_each path 0 xs (children (symbol g) xs h) o)

    no_paths_each : (path : List ℕ) (n : ℕ) (xs : Trees) → any_foreground S xs ≡ false → any_ordinary xs ≡ false → paths_each S path n xs ≡ []
    no_paths_each path n none h o = refl
    no_paths_each path n (more x xs) h o =
        let f = or-false (foreground S x) (any_foreground S xs) h in
        let r = or-false (ordinary x) (any_ordinary xs) o in
        nothing_more (paths S (path ++ n ∷ []) x) (paths_each S path (n + 1) xs) (no_paths (path ++ n ∷ []) x f.0 r.0) (no_paths_each path (n + 1) xs f.1 r.1)

  -- where a term doesn't count, nothing below it does
  pub nothing_below : (path : List ℕ) (t : Tree) → counts S t ≡ false → this_path (counts S t) path ≡ paths S path t
  nothing_below path (var v) h = refl
  nothing_below path (node f xs) h =
      let w = or-false (foreground S (node f xs)) (ordinary (node f xs)) h in
      ap (λ b. this_path b path) h ∙ sym (no_paths path (node f xs) w.0 w.1)

-- ---- the paths of a term that counts

joined : (all mid new first second : List (List ℕ)) → mid ≡ all ++ first → new ≡ mid ++ second → new ≡ all ++ (first ++ second)
joined all mid new first second p q = q ∙ ap (λ ps. ps ++ second) p ∙ append_assoc all first second

module _ (S : List Symbol) (path : List ℕ) (t : Term) (all here : List (List ℕ)) (own : here ≡ all ++ this_path (counts S (tree t)) path) where
  -- what was put behind others so far, for a term of this form
  as_tree : (u : Tree) → tree t ≡ u → here ≡ all ++ this_path (counts S u) path
  as_tree u is = own ∙ ap (λ z. all ++ this_path (counts S z) path) is

  pub sum_paths : (path2 : List ℕ) (a b x y : Term) (mid : List (List ℕ)) → t ≡ Sum a b → x ≡ a → y ≡ b
      → mid ≡ here ++ paths S (path ++ 0 ∷ []) (tree x) → path2 ≡ path
      → mid ++ paths S (path2 ++ 1 ∷ []) (tree y) ≡ all ++ paths S path (tree t)
  sum_paths path2 a b x y mid is left right first same =
      let u : Tree = node plus (more (tree x) (more (tree y) none)) in
      let t_is : tree t ≡ u = ap tree is ∙ tree-Sum a b ∙ ap (λ z. node plus (more (tree z) (more (tree b) none))) (sym left) ∙ ap (λ z. node plus (more (tree x) (more (tree z) none))) (sym right) in
      let ps = paths S (path ++ 0 ∷ []) (tree x) in
      let qs = paths S (path ++ 1 ∷ []) (tree y) in
      ap (λ z. mid ++ paths S (z ++ 1 ∷ []) (tree y)) same
      ∙ ap (λ z. z ++ qs) (joined all here mid (this_path (counts S u) path) ps (as_tree u t_is) first)
      ∙ append_assoc all (this_path (counts S u) path ++ ps) qs
      ∙ ap (λ z. all ++ z) (append_assoc (this_path (counts S u) path) ps qs ∙ ap (λ z. this_path (counts S u) path ++ (ps ++ z)) (sym (append-nil qs)))
      ∙ ap (λ z. all ++ paths S path z) (sym t_is)

  pub product_paths : (k : ℤ) (a x : Term) → t ≡ Scale k a → x ≡ a → here ++ paths S (path ++ 0 ∷ []) (tree x) ≡ all ++ paths S path (tree t)
  product_paths k a x is same =
      let u : Tree = node times (more (node (number k) none) (more (tree x) none)) in
      let t_is : tree t ≡ u = ap tree is ∙ tree-Scale k a ∙ ap (λ z. node times (more (node (number k) none) (more (tree z) none))) (sym same) in
      let ps = paths S (path ++ 0 ∷ []) (tree x) in
      ap (λ z. z ++ ps) (as_tree u t_is)
      ∙ append_assoc all (this_path (counts S u) path) ps
      ∙ ap (λ z. all ++ (this_path (counts S u) path ++ z)) (sym (append-nil ps))
      ∙ ap (λ z. all ++ paths S path z) (sym t_is)

  pub call_paths : (f : ℕ) (xs ys : List Term) → t ≡ App f xs → ys ≡ xs → here ++ paths_each S path 0 (trees (map tree ys)) ≡ all ++ paths S path (tree t)
  call_paths f xs ys is same =
      let u : Tree = node (symbol f) (trees (map tree ys)) in
      let t_is : tree t ≡ u = ap tree is ∙ tree-App f xs ∙ ap (λ z. node (symbol f) (trees (map tree z))) (sym same) in
      ap (λ z. z ++ paths_each S path 0 (trees (map tree ys))) (as_tree u t_is)
      ∙ append_assoc all (this_path (counts S u) path) (paths_each S path 0 (trees (map tree ys)))
      ∙ ap (λ z. all ++ paths S path z) (sym t_is)
