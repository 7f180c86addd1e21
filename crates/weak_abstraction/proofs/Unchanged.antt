-- A clause without a target stays as it is.
use Rattle.std.proofs.Common.{◌≡◌, Bool, ◌&&◌, List, [], ◌∷◌, map, if◌then◌else◌, refl, ap, ◌∙◌, subst}
use Rattle.term_base.specs.declared.symbols.Symbol.{Symbol}
use Rattle.term_base.specs.Trees.{Tree, Trees, var, node, none, more}
use Rattle.term_base.specs.Lits.{Lit}
use Rattle.weak_abstraction.specs.Targets.{is_plain, each_mixed, argument_counts, first_counts, other_counts, targets_below, targets_of_each, targets_in, is_equation, side_counts, lit_foreground, side_targets, literal_targets, targets}
use Rattle.weak_abstraction.specs.Abstracted.{replaced_below, replaced_each, replaced_in, replaced_side, replaced_sides, replaced_lit}
use Rattle.weak_abstraction.proofs.Choices.{choice, append_none}

module _ (S : List Symbol) (g : Tree → Tree) where
  same_at : (t : Tree) (c : Bool) → targets_in S t c ≡ [] → (targets_below S t ≡ [] → replaced_below S g t ≡ t) → replaced_in S g t c ≡ t
  same_at t c gone below =
      let P : Bool → Type 0 = λ b. (if b then t ∷ [] else targets_below S t) ≡ [] in
      choice (λ (z : Tree). z ≡ t) (is_plain S t && c) (g t) (replaced_below S g t)
      (λ h. let one : t ∷ [] ≡ [] = subst P h gone in cc)
      (λ h. let all : targets_below S t ≡ [] = subst P h gone in below all)

  mutual
    same_below : (t : Tree) → targets_below S t ≡ [] → replaced_below S g t ≡ t
    same_below (var v) gone = refl
    same_below (node f xs) gone = ap (node f) (same_each xs (argument_counts S f (each_mixed S xs)) gone)

    same_each : (xs : Trees) (cs : List Bool) → targets_of_each S xs cs ≡ [] → replaced_each S g xs cs ≡ xs
    same_each none cs gone = refl
    same_each (more x xs) cs gone =
        let two = append_none (targets_in S x (first_counts cs)) (targets_of_each S xs (other_counts cs)) gone in
        let here = same_at x (first_counts cs) two.0 (λ below. same_below x below) in
        ap (λ (z : Tree). more z (replaced_each S g xs (other_counts cs))) here ∙ ap (more x) (same_each xs (other_counts cs) two.1)

  same_side : (q : Bool) (t beside : Tree) → targets_in S t (side_counts S q t beside) ≡ [] → replaced_side S g q t beside ≡ t
  same_side q t beside gone = same_at t (side_counts S q t beside) gone (same_below t)

  same_sides : (l : Lit) → side_targets S (is_equation l.relation) l.left l.right ≡ [] → replaced_sides S g l ≡ l
  same_sides l gone =
      let q = is_equation l.relation in
      let two = append_none (targets_in S l.left (side_counts S q l.left l.right)) (targets_in S l.right (side_counts S q l.right l.left)) gone in
      ap (λ (z : Tree). record { relation = l.relation; left = z; right = replaced_side S g q l.right l.left }) (same_side q l.left l.right two.0)
      ∙ ap (λ (z : Tree). record { relation = l.relation; left = l.left; right = z }) (same_side q l.right l.left two.1)

  same_literal : (l : Lit) → literal_targets S l ≡ [] → replaced_lit S g l ≡ l
  same_literal l gone =
      let P : Bool → Type 0 = λ b. (if b then side_targets S (is_equation l.relation) l.left l.right else []) ≡ [] in
      choice (λ (z : Lit). z ≡ l) (lit_foreground S l) (replaced_sides S g l) l (λ h. same_sides l (subst P h gone)) (λ _. refl)

  pub same_clause : (c : List Lit) → targets S c ≡ [] → map (replaced_lit S g) c ≡ c
  same_clause [] gone = refl
  same_clause (l ∷ ls) gone =
      let two = append_none (literal_targets S l) (targets S ls) gone in
      ap (λ (z : Lit). z ∷ map (replaced_lit S g) ls) (same_literal l two.0) ∙ ap (λ (z : List Lit). l ∷ z) (same_clause ls two.1)
