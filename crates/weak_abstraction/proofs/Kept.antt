-- What a term keeps when its targets give way to their variables: foreground symbols, purity and sort.
use Rattle.std.proofs.Common.{◌≡◌, ℕ, Bool, true, false, not, ◌&&◌, ◌||◌, List, [], ◌∷◌, ◌++◌, map, Option, Some, None, if◌then◌else◌, refl, ap, sym, ◌∙◌}
use Rattle.term_base.specs.declared.symbols.Sort.{Sort}
use Rattle.term_base.specs.declared.symbols.Sort.TheVariants.{Int}
use Rattle.term_base.specs.declared.symbols.Symbol.{Symbol}
use Rattle.term_base.specs.declared.terms.Purity.TheVariants.{Pure, Impure, Foreground}
use Rattle.term_base.specs.declared.variables.Kind.TheVariants.{Abstraction}
use Rattle.term_base.specs.Same.{same_kind}
use Rattle.term_base.specs.Trees.{Tree, Trees, var, node, none, more}
use Rattle.term_base.specs.TreeLemmas.{and-true}
use Rattle.term_base.specs.Sorting.{arity, result_sort, have_sorts, has_sort, sort, sorts}
use Rattle.term_base.specs.Purity.{foreground_head, foreground, any_foreground, ordinary, any_ordinary, purity}
use Rattle.term_base.specs.Clauses.{are_sides, is_lit_sorted, is_well_sorted}
use Rattle.term_base.specs.Lits.{Lit}
use Rattle.weak_abstraction.specs.Targets.{is_mixed, mixed, is_plain, is_number, each_mixed, argument_counts, first_counts, other_counts, is_equation, side_counts, lit_foreground}
use Rattle.weak_abstraction.specs.Abstracted.{kind_for, named, replaced_below, replaced_each, replaced_in, replaced_side, replaced_sides, replaced_lit}
use Rattle.weak_abstraction.proofs.Choices.{choice}
use Rattle.weak_abstraction.proofs.Found.{plain_foreground, plain_sort}

-- a term without foreground symbol has an ordinary variable for it where it has an ordinary variable
kinds : (f o : Bool) → f ≡ false → not (same_kind (kind_for (if f then Foreground else (if o then Impure else Pure))) Abstraction) ≡ o
kinds true o h = cc
kinds false true h = refl
kinds false false h = refl

purity_same : (S : List Symbol) (s t : Tree) → foreground S s ≡ foreground S t → ordinary s ≡ ordinary t → purity S s ≡ purity S t
purity_same S s t a b =
    ap (λ (z : Bool). if z then Foreground else (if ordinary s then Impure else Pure)) a
    ∙ ap (λ (z : Bool). if foreground S t then Foreground else (if z then Impure else Pure)) b

module _ (S : List Symbol) (n : ℕ) (us : List Tree) where
  abbrev g : Tree → Tree
  g = named S n us

  foreground_at : (t : Tree) (c : Bool) → foreground S (replaced_below S g t) ≡ foreground S t → foreground S (replaced_in S g t c) ≡ foreground S t
  foreground_at t c below =
      choice (λ (z : Tree). foreground S z ≡ foreground S t) (is_plain S t && c) (g t) (replaced_below S g t)
      (λ h. sym (plain_foreground S t (and-true (is_plain S t) c h).0)) (λ _. below)

  mutual
    pub foreground_below : (t : Tree) → foreground S (replaced_below S g t) ≡ foreground S t
    foreground_below (var v) = refl
    foreground_below (node f xs) = ap (λ (z : Bool). foreground_head S f || z) (foreground_each xs (argument_counts S f (each_mixed S xs)))

    foreground_each : (xs : Trees) (cs : List Bool) → any_foreground S (replaced_each S g xs cs) ≡ any_foreground S xs
    foreground_each none cs = refl
    foreground_each (more x xs) cs =
        ap (λ (z : Bool). z || any_foreground S (replaced_each S g xs (other_counts cs))) (foreground_at x (first_counts cs) (foreground_below x))
        ∙ ap (λ (z : Bool). foreground S x || z) (foreground_each xs (other_counts cs))

  ordinary_at : (t : Tree) (c : Bool) → ordinary (replaced_below S g t) ≡ ordinary t → ordinary (replaced_in S g t c) ≡ ordinary t
  ordinary_at t c below =
      choice (λ (z : Tree). ordinary z ≡ ordinary t) (is_plain S t && c) (g t) (replaced_below S g t)
      (λ h. kinds (foreground S t) (ordinary t) (plain_foreground S t (and-true (is_plain S t) c h).0)) (λ _. below)

  mutual
    ordinary_below : (t : Tree) → ordinary (replaced_below S g t) ≡ ordinary t
    ordinary_below (var v) = refl
    ordinary_below (node f xs) = ordinary_each xs (argument_counts S f (each_mixed S xs))

    ordinary_each : (xs : Trees) (cs : List Bool) → any_ordinary (replaced_each S g xs cs) ≡ any_ordinary xs
    ordinary_each none cs = refl
    ordinary_each (more x xs) cs =
        ap (λ (z : Bool). z || any_ordinary (replaced_each S g xs (other_counts cs))) (ordinary_at x (first_counts cs) (ordinary_below x))
        ∙ ap (λ (z : Bool). ordinary x || z) (ordinary_each xs (other_counts cs))

  sort_at : (t : Tree) (c : Bool) → sort S (replaced_below S g t) ≡ sort S t → sort S (replaced_in S g t c) ≡ sort S t
  sort_at t c below =
      choice (λ (z : Tree). sort S z ≡ sort S t) (is_plain S t && c) (g t) (replaced_below S g t)
      (λ h. sym (plain_sort S t (and-true (is_plain S t) c h).0)) (λ _. below)

  mutual
    pub sort_below : (t : Tree) → sort S (replaced_below S g t) ≡ sort S t
    sort_below (var v) = refl
    sort_below (node f xs) =
        ap (λ (z : List (Option Sort)). if have_sorts z (arity S f) then Some (result_sort S f) else None)
        (sorts_each xs (argument_counts S f (each_mixed S xs)))

    sorts_each : (xs : Trees) (cs : List Bool) → sorts S (replaced_each S g xs cs) ≡ sorts S xs
    sorts_each none cs = refl
    sorts_each (more x xs) cs =
        ap (λ (z : Option Sort). z ∷ sorts S (replaced_each S g xs (other_counts cs))) (sort_at x (first_counts cs) (sort_below x))
        ∙ ap (λ (z : List (Option Sort)). sort S x ∷ z) (sorts_each xs (other_counts cs))

  sort_in : (t : Tree) (c : Bool) → sort S (replaced_in S g t c) ≡ sort S t
  sort_in t c = sort_at t c (sort_below t)

  -- whether a term is Foreground or Impure
  pub mixed_in : (t : Tree) (c : Bool) → mixed S (replaced_in S g t c) ≡ mixed S t
  mixed_in t c = ap is_mixed (purity_same S (replaced_in S g t c) t (foreground_at t c (foreground_below t)) (ordinary_at t c (ordinary_below t)))

  pub each_mixed_same : (xs : Trees) (cs : List Bool) → each_mixed S (replaced_each S g xs cs) ≡ each_mixed S xs
  each_mixed_same none cs = refl
  each_mixed_same (more x xs) cs =
      ap (λ (z : Bool). z ∷ each_mixed S (replaced_each S g xs (other_counts cs))) (mixed_in x (first_counts cs))
      ∙ ap (λ (z : List Bool). mixed S x ∷ z) (each_mixed_same xs (other_counts cs))

  -- a term below which targets were replaced is plain where it was
  pub plain_same : (t : Tree) → is_plain S (replaced_below S g t) ≡ is_plain S t
  plain_same (var v) = refl
  plain_same (node f xs) =
      let r = replaced_below S g (node f xs) in
      ap (λ (z : Bool). not (is_number f) && (not z && has_sort (sort S r) Int)) (foreground_below (node f xs))
      ∙ ap (λ (z : Option Sort). not (is_number f) && (not (foreground S (node f xs)) && has_sort z Int)) (sort_below (node f xs))

  sorted_sides : (l : Lit) → is_lit_sorted S (replaced_sides S g l) ≡ is_lit_sorted S l
  sorted_sides l =
      let q = is_equation l.relation in
      ap (λ (z : Option Sort). are_sides l.relation z (sort S (replaced_side S g q l.right l.left))) (sort_in l.left (side_counts S q l.left l.right))
      ∙ ap (λ (z : Option Sort). are_sides l.relation (sort S l.left) z) (sort_in l.right (side_counts S q l.right l.left))

  sorted_literal : (l : Lit) → is_lit_sorted S (replaced_lit S g l) ≡ is_lit_sorted S l
  sorted_literal l =
      choice (λ (z : Lit). is_lit_sorted S z ≡ is_lit_sorted S l) (lit_foreground S l) (replaced_sides S g l) l (λ _. sorted_sides l) (λ _. refl)

  -- the clause is as well sorted as before, where what follows is well sorted
  pub sorted_clause : (c more_literals : List Lit) → is_well_sorted S more_literals ≡ true → is_well_sorted S (map (replaced_lit S g) c ++ more_literals) ≡ is_well_sorted S c
  sorted_clause [] ms h = h
  sorted_clause (l ∷ ls) ms h =
      ap (λ (z : Bool). z && is_well_sorted S (map (replaced_lit S g) ls ++ ms)) (sorted_literal l)
      ∙ ap (λ (z : Bool). is_lit_sorted S l && z) (sorted_clause ls ms h)
