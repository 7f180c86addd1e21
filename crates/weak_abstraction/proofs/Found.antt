-- What is known of each target: it is plain, and its variables are numbered below those of the clause.
use Rattle.std.proofs.Common.{◌≡◌, ◌≤◌, ℕ, Bool, true, false, not, ◌&&◌, List, [], ◌∷◌, Option, Some, None, ap, arith}
use Rattle.term_base.specs.declared.symbols.Sort.{Sort}
use Rattle.term_base.specs.declared.symbols.Sort.TheVariants.{Int}
use Rattle.term_base.specs.declared.symbols.Symbol.{Symbol}
use Rattle.term_base.specs.SameLemmas.{same_sort-true}
use Rattle.term_base.specs.Trees.{Tree, Trees, var, node, none, more}
use Rattle.term_base.specs.TreeLemmas.{and-true}
use Rattle.term_base.specs.Sorting.{sort, has_sort}
use Rattle.term_base.specs.Purity.{foreground}
use Rattle.term_base.specs.Lits.{Lit}
use Rattle.weak_abstraction.specs.Targets.{is_compound, is_plain, each_mixed, argument_counts, first_counts, other_counts, targets_below, targets_of_each, targets_in, is_equation, side_counts, lit_foreground, side_targets, literal_targets, targets}
use Rattle.weak_abstraction.specs.Abstracted.{next_number, next_of_each, literal_number, first_number}
use Rattle.weak_abstraction.proofs.Choices.{choice, not-true, EachTree, each_join}

has_sort-true : (o : Option Sort) (s : Sort) → has_sort o s ≡ true → o ≡ Some s
has_sort-true None s h = cc
has_sort-true (Some r) s h = ap Some (same_sort-true r s h)

module _ (S : List Symbol) where
  -- the two parts of a plain term's test
  plain_parts : (t : Tree) → is_plain S t ≡ true → (not (foreground S t) ≡ true) × (has_sort (sort S t) Int ≡ true)
  plain_parts t h = and-true (not (foreground S t)) (has_sort (sort S t) Int) (and-true (is_compound t) (not (foreground S t) && has_sort (sort S t) Int) h).1

  pub plain_foreground : (t : Tree) → is_plain S t ≡ true → foreground S t ≡ false
  plain_foreground t h = not-true (foreground S t) (plain_parts t h).0

  pub plain_integer : (t : Tree) → is_plain S t ≡ true → has_sort (sort S t) Int ≡ true
  plain_integer t h = (plain_parts t h).1

  pub plain_sort : (t : Tree) → is_plain S t ≡ true → sort S t ≡ Some Int
  plain_sort t h = has_sort-true (sort S t) Int (plain_integer t h)

  module _ (n : ℕ) where
    -- a plain term whose variables are numbered below n
    abbrev pub IsTarget : Tree → Type 0
    IsTarget t = (is_plain S t ≡ true) × (next_number t ≤ n)

    found_at : (t : Tree) (counts : Bool) → next_number t ≤ n → EachTree IsTarget (targets_below S t) → EachTree IsTarget (targets_in S t counts)
    found_at t counts low below =
        choice (EachTree IsTarget) (is_plain S t && counts) (t ∷ []) (targets_below S t)
        (λ h. (((and-true (is_plain S t) counts h).0, low), tt)) (λ _. below)

    mutual
      found_below : (t : Tree) → next_number t ≤ n → EachTree IsTarget (targets_below S t)
      found_below (var v) low = tt
      found_below (node f xs) low = found_each xs (argument_counts S f (each_mixed S xs)) low

      found_each : (xs : Trees) (cs : List Bool) → next_of_each xs ≤ n → EachTree IsTarget (targets_of_each S xs cs)
      found_each none cs low = tt
      found_each (more x xs) cs low =
          let here : next_number x ≤ n = omega arith in
          let behind : next_of_each xs ≤ n = omega arith in
          each_join IsTarget (targets_in S x (first_counts cs)) (targets_of_each S xs (other_counts cs))
          (found_at x (first_counts cs) here (found_below x here))
          (found_each xs (other_counts cs) behind)

    found_literal : (l : Lit) → literal_number l ≤ n → EachTree IsTarget (literal_targets S l)
    found_literal l low =
        let q = is_equation l.relation in
        let left : next_number l.left ≤ n = omega arith in
        let right : next_number l.right ≤ n = omega arith in
        choice (EachTree IsTarget) (lit_foreground S l) (side_targets S q l.left l.right) []
        (λ _. each_join IsTarget (targets_in S l.left (side_counts S q l.left l.right)) (targets_in S l.right (side_counts S q l.right l.left))
        (found_at l.left (side_counts S q l.left l.right) left (found_below l.left left))
        (found_at l.right (side_counts S q l.right l.left) right (found_below l.right right)))
        (λ _. tt)

    -- each target of a clause is one
    pub found_clause : (c : List Lit) → first_number c ≤ n → EachTree IsTarget (targets S c)
    found_clause [] low = tt
    found_clause (l ∷ ls) low =
        let here : literal_number l ≤ n = omega arith in
        let behind : first_number ls ≤ n = omega arith in
        each_join IsTarget (literal_targets S l) (targets S ls) (found_literal l here) (found_clause ls behind)
