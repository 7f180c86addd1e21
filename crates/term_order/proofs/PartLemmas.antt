-- `standing` by its parts.
use Rattle.std.proofs.Common.{◌≡◌, ℕ, zero, suc, ◌<◌, ◌≤◌, ◌==◌, true, false, ◌||◌, ◌&&◌, List, [], ◌∷◌, map, drop, length, get_or, refl, ap, sym, ◌∙◌, arith}
use Rattle.term_base.specs.declared.symbols.Symbol.{Symbol}
use Rattle.term_base.specs.declared.terms.Term.{Term}
use Rattle.term_base.specs.declared.terms.Term.TheVariants.{App}
use Rattle.term_base.specs.TreeOf.{tree-App}
use Rattle.term_base.specs.Trees.{Head, Tree, Trees, var, node, none, more, tree, trees, same_tree, same_head}
use Rattle.term_base.specs.TreeLemmas.{both_ways, same_head-refl}
use Rattle.term_order.specs.Standing.{above_if, is_above, reaches, by_standing, some_reaches, above_all, list_standing, standing, standings}
use Rattle.term_order.specs.Parts.{equal_if, is_variable, above_variable, arguments, behind, has_smaller_head, has_same_head, some_of, above_each, by_lists}
use Rattle.term_order.specs.declared.standing.Standing.{Standing}
use Rattle.term_order.specs.declared.standing.Standing.TheVariants as is
use Rattle.term_order.proofs.HeadLemmas.{heads_total}
use Rattle.term_order.proofs.VariableLemmas.{over}

-- the terms without the first n, as trees
pub behind-trees : (n : ℕ) (ts : List Term) → behind n (trees (map tree ts)) ≡ trees (map tree (drop n ts))
behind-trees zero ts = refl
behind-trees (suc n) [] = refl
behind-trees (suc n) (t ∷ ts) = behind-trees n ts

pub behind-none : (n : ℕ) → behind n none ≡ none
behind-none zero = refl
behind-none (suc n) = refl

-- the arguments of an application
pub arguments-App : (s : Term) (f : ℕ) (xs ts : List Term) → s ≡ App f xs → ts ≡ xs → arguments (tree s) ≡ trees (map tree ts)
arguments-App s f xs ts is e = ap (λ z. arguments (tree z)) is ∙ ap arguments (tree-App f xs) ∙ ap (λ z. trees (map tree z)) (sym e)

drop_at : (n : ℕ) (ts : List Term) (d : Term) → n < length ts → drop n ts ≡ get_or ts n d ∷ drop (suc n) ts
drop_at n [] d h = absurd (omega arith)
drop_at zero (t ∷ ts) d h = refl
drop_at (suc n) (t ∷ ts) d h = drop_at n ts d (omega arith)

drop_next : (n : ℕ) (ts : List Term) → drop 1 (drop n ts) ≡ drop (suc n) ts
drop_next zero ts = refl
drop_next (suc n) [] = refl
drop_next (suc n) (t ∷ ts) = drop_next n ts

module _ (S : List Symbol) (s t : Tree) where
  -- the second list is the first to end
  pub lists_end : (ts us : List Term) → 0 < length ts → length us < 1 → by_lists S s t (trees (map tree ts)) (trees (map tree us)) ≡ above_if (some_of S (trees (map tree ts)) t)
  lists_end [] us h k = absurd (omega arith)
  lists_end (x ∷ ts) [] h k = refl
  lists_end (x ∷ ts) (u ∷ us) h k = absurd (omega arith)

  -- the first is
  pub lists_none : (us : List Term) → false ≡ (length us == 0) → by_lists S s t none (trees (map tree us)) ≡ is.Neither
  lists_none [] h = absurd (both_ways true refl (sym h))
  lists_none (u ∷ us) h = refl

  module _ (xs ys rest : List Term) (i : ℕ) (x y : Term) (within : i < length xs) (x_is : x ≡ get_or xs i x)
      (there : 1 ≤ length rest) (y_is : y ≡ get_or rest 0 y) (beside : rest ≡ drop i ys) where
    lists_at : by_lists S s t (trees (map tree (drop i xs))) (trees (map tree rest))
        ≡ by_lists S s t (trees (map tree (x ∷ drop (suc i) xs))) (trees (map tree (y ∷ drop (suc i) ys)))
    lists_at =
        let left : drop i xs ≡ x ∷ drop (suc i) xs = drop_at i xs x within ∙ ap (λ z. z ∷ drop (suc i) xs) (sym x_is) in
        let right : rest ≡ y ∷ drop (suc i) ys = drop_at 0 rest y there ∙ ap (λ z. z ∷ drop 1 rest) (sym y_is) ∙ ap (λ z. y ∷ z) (ap (drop 1) beside ∙ drop_next i ys) in
        ap (λ ts. by_lists S s t (trees (map tree ts)) (trees (map tree rest))) left
        ∙ ap (λ us. by_lists S s t (trees (map tree (x ∷ drop (suc i) xs))) (trees (map tree us))) right

    abbrev decided : Standing → Standing
    decided c = by_standing c
        (above_if (above_each S s (trees (map tree (drop (suc i) ys)))))
        (by_lists S s t (trees (map tree (drop (suc i) xs))) (trees (map tree (drop (suc i) ys))))
        (above_if (some_of S (trees (map tree (drop (suc i) xs))) t))

    pub lists_above : standing S (tree x) (tree y) ≡ is.Above
        → by_lists S s t (trees (map tree (drop i xs))) (trees (map tree rest)) ≡ above_if (above_each S s (behind (suc i) (trees (map tree ys))))
    lists_above h = lists_at ∙ ap decided h ∙ ap (λ us. above_if (above_each S s us)) (sym (behind-trees (suc i) ys))

    pub lists_neither : standing S (tree x) (tree y) ≡ is.Neither
        → by_lists S s t (trees (map tree (drop i xs))) (trees (map tree rest)) ≡ above_if (some_of S (behind (suc i) (trees (map tree xs))) t)
    lists_neither h = lists_at ∙ ap decided h ∙ ap (λ us. above_if (some_of S us t)) (sym (behind-trees (suc i) xs))

module _ (S : List Symbol) where
  some-of : (xs : Trees) (t : Tree) → some_reaches (standings S xs) t ≡ some_of S xs t
  some-of none t = refl
  some-of (more x xs) t = ap (λ b. reaches (standing S x t) || b) (some-of xs t)

  above-each : (f : Head) (xs ys : Trees) → above_all S f xs (standings S xs) ys ≡ above_each S (node f xs) ys
  above-each f xs none = refl
  above-each f xs (more y ys) = ap (λ b. is_above (standing S (node f xs) y) && b) (above-each f xs ys)

  by-lists : (f : Head) (xs : Trees) (t : Tree) (rs ls : Trees) → list_standing S f xs (standings S xs) t rs (standings S ls) ≡ by_lists S (node f xs) t ls rs
  by-lists f xs t none none = refl
  by-lists f xs t none (more a ls) = ap above_if (some-of (more a ls) t)
  by-lists f xs t (more b rs) none = refl
  by-lists f xs t (more b rs) (more a ls) =
      ap (λ z. by_standing (standing S a b) (above_if z) (list_standing S f xs (standings S xs) t rs (standings S ls)) (above_if (some_reaches (standings S ls) t))) (above-each f xs rs)
      ∙ ap (λ z. by_standing (standing S a b) (above_if (above_each S (node f xs) rs)) z (above_if (some_reaches (standings S ls) t))) (by-lists f xs t rs ls)
      ∙ ap (λ z. by_standing (standing S a b) (above_if (above_each S (node f xs) rs)) (by_lists S (node f xs) t ls rs) (above_if z)) (some-of ls t)

  pub of_variable : (s t : Tree) → true ≡ is_variable s → standing S s t ≡ equal_if (same_tree s t)
  of_variable (var v) t h = refl
  of_variable (node f xs) t h = absurd (both_ways true refl h)

  pub over_variable : (s t : Tree) → false ≡ is_variable s → true ≡ is_variable t → standing S s t ≡ above_if (above_variable S s t)
  over_variable (var v) t h k = absurd (both_ways true refl (sym h))
  over_variable (node f xs) (node g ys) h k = absurd (both_ways true refl k)
  over_variable (node f xs) (var v) h k = ap above_if (over S v f xs)

  pub of_smaller : (s t : Tree) → true ≡ has_smaller_head S s t → standing S s t ≡ above_if (some_of S (arguments s) t)
  of_smaller (var v) t h = absurd (both_ways true refl h)
  of_smaller (node f xs) (var v) h = absurd (both_ways true refl h)
  of_smaller (node f xs) (node g ys) h =
      let e : standing S (node f xs) (node g ys) ≡ above_if (some_reaches (standings S xs) (node g ys)) = rw (sym h) refl in
      e ∙ ap above_if (some-of xs (node g ys))

  pub of_larger : (s t : Tree) → false ≡ has_smaller_head S s t → true ≡ has_smaller_head S t s → standing S s t ≡ above_if (above_each S s (arguments t))
  of_larger s (var v) h k = absurd (both_ways true refl k)
  of_larger (var v) (node g ys) h k = absurd (both_ways true refl k)
  of_larger (node f xs) (node g ys) h k =
      let e : standing S (node f xs) (node g ys) ≡ above_if (above_all S f xs (standings S xs) ys) = rw (sym h, sym k) refl in
      e ∙ ap above_if (above-each f xs ys)

  -- neither head is smaller, so they are one
  pub level_heads : (s t : Tree) → false ≡ is_variable s → false ≡ is_variable t → false ≡ has_smaller_head S s t → false ≡ has_smaller_head S t s → has_same_head s t ≡ true
  level_heads (var v) t a b h k = absurd (both_ways true refl (sym a))
  level_heads (node f xs) (var v) a b h k = absurd (both_ways true refl (sym b))
  level_heads (node f xs) (node g ys) a b h k = ap (same_head f) (sym (heads_total S f g (sym h) (sym k))) ∙ same_head-refl f

  pub of_level : (s t : Tree) → false ≡ is_variable s → false ≡ is_variable t → false ≡ has_smaller_head S s t → false ≡ has_smaller_head S t s
      → standing S s t ≡ by_lists S s t (arguments s) (arguments t)
  of_level (var v) t a b h k = absurd (both_ways true refl (sym a))
  of_level (node f xs) (var v) a b h k = absurd (both_ways true refl (sym b))
  of_level (node f xs) (node g ys) a b h k =
      let e : standing S (node f xs) (node g ys) ≡ list_standing S f xs (standings S xs) (node g ys) ys (standings S xs) = rw (sym h, sym k) refl in
      e ∙ by-lists f xs (node g ys) ys xs
