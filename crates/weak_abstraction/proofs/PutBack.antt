-- To put each target back for its variable gives the clause.
use Rattle.std.proofs.Common.{◌≡◌, ℕ, Bool, true, ◌&&◌, List, [], ◌∷◌, map, if◌then◌else◌, refl, ap, ◌∙◌, subst}
use Rattle.term_base.specs.declared.symbols.Symbol.{Symbol}
use Rattle.term_base.specs.declared.variables.Variable.{Variable}
use Rattle.term_base.specs.SameLemmas.{same_variable-refl}
use Rattle.term_base.specs.Trees.{Tree, Trees, var, node, none, more, occurs, any_occurs}
use Rattle.term_base.specs.TreeLemmas.{or-left, or-right}
use Rattle.term_base.specs.Substitution.{put_in, put_all}
use Rattle.term_base.specs.SubstLemmas.{put_in-agree, put_in-var}
use Rattle.term_base.specs.Lits.{Lit, put_lit, put_clause, lit_occurs, clause_occurs}
use Rattle.weak_abstraction.specs.Targets.{is_plain, each_mixed, argument_counts, first_counts, other_counts, targets_below, targets_of_each, targets_in, is_equation, side_counts, lit_foreground, side_targets, literal_targets, targets}
use Rattle.weak_abstraction.specs.Abstracted.{variable_of, named, replaced_below, replaced_each, replaced_in, replaced_side, replaced_sides, replaced_lit}
use Rattle.weak_abstraction.proofs.Choices.{choice, EachTree, each_split}

-- a term whose variables stay is as it was
pub put_in-fixed : (s : Variable → Tree) (t : Tree) → ((v : Variable) → occurs v t ≡ true → s v ≡ var v) → put_in s t ≡ t
put_in-fixed s t fixed = put_in-agree s var t fixed ∙ put_in-var t

module _ (S : List Symbol) (n : ℕ) (us : List Tree) (s : Variable → Tree) where
  abbrev g : Tree → Tree
  g = named S n us

  -- the target goes back for its variable
  abbrev pub GoesBack : Tree → Type 0
  GoesBack t = s (variable_of S n us t) ≡ t

  back_at : (t : Tree) (c : Bool) → EachTree GoesBack (targets_in S t c) → (EachTree GoesBack (targets_below S t) → put_in s (replaced_below S g t) ≡ t)
      → put_in s (replaced_in S g t c) ≡ t
  back_at t c each below =
      let P : Bool → Type 0 = λ b. EachTree GoesBack (if b then t ∷ [] else targets_below S t) in
      choice (λ (z : Tree). put_in s z ≡ t) (is_plain S t && c) (g t) (replaced_below S g t)
      (λ h. let one : EachTree GoesBack (t ∷ []) = subst P h each in one.0)
      (λ h. let all : EachTree GoesBack (targets_below S t) = subst P h each in below all)

  mutual
    back_below : (t : Tree) → ((v : Variable) → occurs v t ≡ true → s v ≡ var v) → EachTree GoesBack (targets_below S t) → put_in s (replaced_below S g t) ≡ t
    back_below (var v) fixed each = fixed v (same_variable-refl v)
    back_below (node f xs) fixed each = ap (node f) (back_each xs (argument_counts S f (each_mixed S xs)) fixed each)

    back_each : (xs : Trees) (cs : List Bool) → ((v : Variable) → any_occurs v xs ≡ true → s v ≡ var v) → EachTree GoesBack (targets_of_each S xs cs)
        → put_all s (replaced_each S g xs cs) ≡ xs
    back_each none cs fixed each = refl
    back_each (more x xs) cs fixed each =
        let two = each_split GoesBack (targets_in S x (first_counts cs)) (targets_of_each S xs (other_counts cs)) each in
        let here = back_at x (first_counts cs) two.0 (λ below. back_below x (λ v o. fixed v (or-left (occurs v x) (any_occurs v xs) o)) below) in
        let behind = back_each xs (other_counts cs) (λ v o. fixed v (or-right (occurs v x) (any_occurs v xs) o)) two.1 in
        ap (λ (z : Tree). more z (put_all s (replaced_each S g xs (other_counts cs)))) here ∙ ap (more x) behind

  back_side : (q : Bool) (t beside : Tree) → ((v : Variable) → occurs v t ≡ true → s v ≡ var v) → EachTree GoesBack (targets_in S t (side_counts S q t beside))
      → put_in s (replaced_side S g q t beside) ≡ t
  back_side q t beside fixed each = back_at t (side_counts S q t beside) each (back_below t fixed)

  back_sides : (l : Lit) → ((v : Variable) → lit_occurs v l ≡ true → s v ≡ var v) → EachTree GoesBack (side_targets S (is_equation l.relation) l.left l.right)
      → put_lit s (replaced_sides S g l) ≡ l
  back_sides l fixed each =
      let q = is_equation l.relation in
      let two = each_split GoesBack (targets_in S l.left (side_counts S q l.left l.right)) (targets_in S l.right (side_counts S q l.right l.left)) each in
      let left = back_side q l.left l.right (λ v o. fixed v (or-left (occurs v l.left) (occurs v l.right) o)) two.0 in
      let right = back_side q l.right l.left (λ v o. fixed v (or-right (occurs v l.left) (occurs v l.right) o)) two.1 in
      ap (λ (z : Tree). record { relation = l.relation; left = z; right = put_in s (replaced_side S g q l.right l.left) }) left
      ∙ ap (λ (z : Tree). record { relation = l.relation; left = l.left; right = z }) right

  stays : (l : Lit) → ((v : Variable) → lit_occurs v l ≡ true → s v ≡ var v) → put_lit s l ≡ l
  stays l fixed =
      let left = put_in-fixed s l.left (λ v o. fixed v (or-left (occurs v l.left) (occurs v l.right) o)) in
      let right = put_in-fixed s l.right (λ v o. fixed v (or-right (occurs v l.left) (occurs v l.right) o)) in
      ap (λ (z : Tree). record { relation = l.relation; left = z; right = put_in s l.right }) left
      ∙ ap (λ (z : Tree). record { relation = l.relation; left = l.left; right = z }) right

  back_literal : (l : Lit) → ((v : Variable) → lit_occurs v l ≡ true → s v ≡ var v) → EachTree GoesBack (literal_targets S l) → put_lit s (replaced_lit S g l) ≡ l
  back_literal l fixed each =
      let P : Bool → Type 0 = λ b. EachTree GoesBack (if b then side_targets S (is_equation l.relation) l.left l.right else []) in
      choice (λ (z : Lit). put_lit s z ≡ l) (lit_foreground S l) (replaced_sides S g l) l
      (λ h. let all : EachTree GoesBack (side_targets S (is_equation l.relation) l.left l.right) = subst P h each in back_sides l fixed all)
      (λ _. stays l fixed)

  -- the clause comes back, where its variables stay and each target goes back
  pub back_clause : (c : List Lit) → ((v : Variable) → clause_occurs v c ≡ true → s v ≡ var v) → EachTree GoesBack (targets S c) → put_clause s (map (replaced_lit S g) c) ≡ c
  back_clause [] fixed each = refl
  back_clause (l ∷ ls) fixed each =
      let two = each_split GoesBack (literal_targets S l) (targets S ls) each in
      ap (λ (z : Lit). z ∷ put_clause s (map (replaced_lit S g) ls)) (back_literal l (λ v o. fixed v (or-left (lit_occurs v l) (clause_occurs v ls) o)) two.0)
      ∙ ap (λ (z : List Lit). l ∷ z) (back_clause ls (λ v o. fixed v (or-right (lit_occurs v l) (clause_occurs v ls) o)) two.1)
