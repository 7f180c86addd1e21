-- The paths of a term that are listed: those whose term counts.
use Rattle.std.proofs.Common.{◌≡◌, inl, inr, ℕ, zero, suc, ◌+◌, Bool, true, false, List, [], ◌∷◌, ◌++◌, append_assoc, refl, ap, sym, ◌∙◌, subst, arith}
use Rattle.std.proofs.lemmas.List.{append-nil}
use Rattle.std.specs.Prelude.{Some, option_and_then}
use Rattle.term_base.specs.declared.symbols.Symbol.{Symbol}
use Rattle.term_base.specs.LitLemmas.{first_of}
use Rattle.term_base.specs.Places.{argument, child, at_path}
use Rattle.term_base.specs.TreeLemmas.{both_ways}
use Rattle.term_base.specs.Trees.{Head, truth, number, plus, times, symbol, Tree, Trees, var, node, none, more}
use Rattle.hier_rules.specs.CountedPlaces.{counts, this_path, paths, paths_each}
use Rattle.hier_rules.proofs.ListedLists.{In, in_left, in_right, in_cases}

module _ (S : List Symbol) where
  -- ---- what counts is listed

  this_one : (b : Bool) (path : List ℕ) (others : List (List ℕ)) → b ≡ true → In path (this_path b path ++ others)
  this_one true path others h = inl refl
  this_one false path others h = absurd (both_ways false h refl)

  own_path : (path : List ℕ) (t : Tree) → counts S t ≡ true → In path (paths S path t)
  own_path path (var v) h = absurd (both_ways false h refl)
  own_path path (node truth xs) h = this_one (counts S (node truth xs)) path (paths_each S path 0 xs) h
  own_path path (node (number n) xs) h = this_one (counts S (node (number n) xs)) path (paths_each S path 0 xs) h
  own_path path (node plus xs) h = this_one (counts S (node plus xs)) path (paths_each S path 0 xs) h
  own_path path (node times none) h = this_one (counts S (node times none)) path [] h
  own_path path (node times (more k xs)) h = this_one (counts S (node times (more k xs))) path (paths_each S path 0 xs) h
  own_path path (node (symbol f) xs) h = this_one (counts S (node (symbol f) xs)) path (paths_each S path 0 xs) h

  at_argument : (path : List ℕ) (xs : Trees) (i j : ℕ) (x : Tree) (p : List ℕ) → argument j xs ≡ Some x → In p (paths S (path ++ (i + j) ∷ []) x) → In p (paths_each S path i xs)
  at_argument path none i j x p e h = cc
  at_argument path (more y ys) i zero x p e h =
      let is : y ≡ x = cc in
      let same : i + 0 ≡ i = omega arith in
      in_left (paths S (path ++ i ∷ []) y) (paths_each S path (i + 1) ys) p
      (subst (λ n. In p (paths S (path ++ n ∷ []) y)) same (subst (λ z. In p (paths S (path ++ (i + 0) ∷ []) z)) (sym is) h))
  at_argument path (more y ys) i (suc j) x p e h =
      let same : i + suc j ≡ (i + 1) + j = omega arith in
      in_right (paths S (path ++ i ∷ []) y) (paths_each S path (i + 1) ys) p
      (at_argument path ys (i + 1) j x p e (subst (λ n. In p (paths S (path ++ n ∷ []) x)) same h))

  below : (path : List ℕ) (b : Bool) (xs : Trees) (j : ℕ) (x : Tree) (p : List ℕ) → argument j xs ≡ Some x → In p (paths S (path ++ j ∷ []) x) → In p (this_path b path ++ paths_each S path 0 xs)
  below path b xs j x p e h =
      let same : j ≡ 0 + j = omega arith in
      in_right (this_path b path) (paths_each S path 0 xs) p (at_argument path xs 0 j x p e (subst (λ n. In p (paths S (path ++ n ∷ []) x)) same h))

  at_child : (path : List ℕ) (t : Tree) (j : ℕ) (x : Tree) (p : List ℕ) → child j t ≡ Some x → In p (paths S (path ++ j ∷ []) x) → In p (paths S path t)
  at_child path (var v) j x p e h = cc
  at_child path (node truth xs) j x p e h = below path (counts S (node truth xs)) xs j x p e h
  at_child path (node (number n) xs) j x p e h = below path (counts S (node (number n) xs)) xs j x p e h
  at_child path (node plus xs) j x p e h = below path (counts S (node plus xs)) xs j x p e h
  at_child path (node times none) j x p e h = cc
  at_child path (node times (more k xs)) j x p e h = below path (counts S (node times (more k xs))) xs j x p e h
  at_child path (node (symbol f) xs) j x p e h = below path (counts S (node (symbol f) xs)) xs j x p e h

  pub path_listed : (path above : List ℕ) (t u : Tree) → at_path path t ≡ Some u → counts S u ≡ true → In (above ++ path) (paths S above t)
  path_listed [] above t u e h =
      let is : t ≡ u = cc in
      subst (λ p. In p (paths S above t)) (sym (append-nil above)) (own_path above t (ap (counts S) is ∙ h))
  path_listed (n ∷ path) above t u e h =
      let f = first_of (at_path path) (child n t) u e in
      subst (λ p. In p (paths S above t)) (append_assoc above (n ∷ []) path)
      (at_child above t n f.0 ((above ++ n ∷ []) ++ path) f.1.0 (path_listed path (above ++ n ∷ []) f.0 u f.1.1 h))

  -- ---- what is listed counts

  pub record Listed (above : List ℕ) (t : Tree) (p : List ℕ) : Type 0 where
    pub path : List ℕ
    pub u : Tree
    pub is : p ≡ above ++ path
    pub there : at_path path t ≡ Some u
    pub counted : counts S u ≡ true

  record ListedEach (above : List ℕ) (i : ℕ) (xs : Trees) (p : List ℕ) : Type 0 where
    pub j : ℕ
    pub x : Tree
    pub child_is : argument j xs ≡ Some x
    pub below : Listed (above ++ (i + j) ∷ []) x p

  this_back : (b : Bool) (above : List ℕ) (t : Tree) (p : List ℕ) → b ≡ counts S t → In p (this_path b above) → Listed above t p
  this_back true above t p e (inl is) = record { path = []; u = t; is = sym is ∙ sym (append-nil above); there = refl; counted = sym e }
  this_back true above t p e (inr h) = absurd h
  this_back false above t p e h = absurd h

  each_back : (f : Head) (above : List ℕ) (xs ys : Trees) (p : List ℕ) → ((n : ℕ) → child n (node f xs) ≡ argument n ys) → ListedEach above 0 ys p → Listed above (node f xs) p
  each_back f above xs ys p children l =
      let same : 0 + l.j ≡ l.j = omega arith in
      record {
        path = l.j ∷ l.below.path;
        u = l.below.u;
        is = l.below.is ∙ ap (λ n. (above ++ n ∷ []) ++ l.below.path) same ∙ append_assoc above (l.j ∷ []) l.below.path;
        there = ap (option_and_then (at_path l.below.path)) (children l.j ∙ l.child_is) ∙ l.below.there;
        counted = l.below.counted;
      }

  mutual
    pub listed_back : (t : Tree) (above : List ℕ) (p : List ℕ) → In p (paths S above t) → Listed above t p
    listed_back (var v) above p h = absurd h
    listed_back (node truth xs) above p h = elim (in_cases (this_path (counts S (node truth xs)) above) (paths_each S above 0 xs) p h) [
      | inl a ↦ this_back (counts S (node truth xs)) above (node truth xs) p refl a
      | inr b ↦ each_back truth above xs xs p (λ n. refl) (listed_each xs above 0 p b)
    ]
    listed_back (node (number k) xs) above p h = elim (in_cases (this_path (counts S (node (number k) xs)) above) (paths_each S above 0 xs) p h) [
      | inl a ↦ this_back (counts S (node (number k) xs)) above (node (number k) xs) p refl a
      | inr b ↦ each_back (number k) above xs xs p (λ n. refl) (listed_each xs above 0 p b)
    ]
    listed_back (node plus xs) above p h = elim (in_cases (this_path (counts S (node plus xs)) above) (paths_each S above 0 xs) p h) [
      | inl a ↦ this_back (counts S (node plus xs)) above (node plus xs) p refl a
      | inr b ↦ each_back plus above xs xs p (λ n. refl) (listed_each xs above 0 p b)
    ]
    listed_back (node times none) above p h = elim (in_cases (this_path (counts S (node times none)) above) [] p h) [
      | inl a ↦ this_back (counts S (node times none)) above (node times none) p refl a
      | inr b ↦ absurd b
    ]
    listed_back (node times (more k xs)) above p h = elim (in_cases (this_path (counts S (node times (more k xs))) above) (paths_each S above 0 xs) p h) [
      | inl a ↦ this_back (counts S (node times (more k xs))) above (node times (more k xs)) p refl a
      | inr b ↦ each_back times above (more k xs) xs p (λ n. refl) (listed_each xs above 0 p b)
    ]
    listed_back (node (symbol f) xs) above p h = elim (in_cases (this_path (counts S (node (symbol f) xs)) above) (paths_each S above 0 xs) p h) [
      | inl a ↦ this_back (counts S (node (symbol f) xs)) above (node (symbol f) xs) p refl a
      | inr b ↦ each_back (symbol f) above xs xs p (λ n. refl) (listed_each xs above 0 p b)
    ]

    listed_each : (xs : Trees) (above : List ℕ) (i : ℕ) (p : List ℕ) → In p (paths_each S above i xs) → ListedEach above i xs p
    listed_each none above i p h = absurd h
    listed_each (more x xs) above i p h = elim (in_cases (paths S (above ++ i ∷ []) x) (paths_each S above (i + 1) xs) p h) [
      | inl a ↦ (
          let same : i ≡ i + 0 = omega arith in
          record { j = 0; x = x; child_is = refl; below = subst (λ n. Listed (above ++ n ∷ []) x p) same (listed_back x (above ++ i ∷ []) p a) })
      | inr b ↦ (
          let l = listed_each xs above (i + 1) p b in
          let same : (i + 1) + l.j ≡ i + suc l.j = omega arith in
          record { j = suc l.j; x = l.x; child_is = l.child_is; below = subst (λ n. Listed (above ++ n ∷ []) l.x p) same l.below })
    ]
