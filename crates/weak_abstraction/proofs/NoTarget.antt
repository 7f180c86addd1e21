-- No target is left.
use Rattle.std.proofs.Common.{◌≡◌, ◌+◌, ℕ, Bool, true, false, not, ◌&&◌, List, [], ◌∷◌, ◌++◌, map, if◌then◌else◌, refl, ap, sym, ◌∙◌}
use Rattle.term_base.specs.declared.symbols.Symbol.{Symbol}
use Rattle.term_base.specs.Trees.{Tree, Trees, var, node, none, more}
use Rattle.term_base.specs.TreeLemmas.{and-true}
use Rattle.term_base.specs.Lits.{Lit}
use Rattle.weak_abstraction.specs.Targets.{is_plain, mixed, each_mixed, argument_counts, first_counts, other_counts, targets_below, targets_of_each, targets_in, is_equation, is_parameter, side_counts, lit_foreground, side_targets, literal_targets, targets}
use Rattle.weak_abstraction.specs.Abstraction.{definition}
use Rattle.weak_abstraction.specs.Abstracted.{variable_for, named, numbered, replaced_below, replaced_each, replaced_in, replaced_side, replaced_sides, replaced_lit}
use Rattle.term_base.specs.Purity.{purity}
use Rattle.weak_abstraction.proofs.Choices.{choice, not-true, EachTree, none_of_both}
use Rattle.weak_abstraction.proofs.Found.{plain_foreground, IsTarget}
use Rattle.weak_abstraction.proofs.Kept.{mixed_in, each_mixed_same, plain_same}

module _ (S : List Symbol) (n : ℕ) (us : List Tree) where
  abbrev g : Tree → Tree
  g = named S n us

  none_at : (t : Tree) (c : Bool) → targets_below S (replaced_below S g t) ≡ [] → targets_in S (replaced_in S g t c) c ≡ []
  none_at t c below =
      let r = replaced_below S g t in
      choice (λ (z : Tree). targets_in S z c ≡ []) (is_plain S t && c) (g t) r
      (λ _. refl)
      (λ h. ap (λ (z : Bool). if z then r ∷ [] else targets_below S r) (ap (λ (z : Bool). z && c) (plain_same S n us t) ∙ h) ∙ below)

  mutual
    none_below : (t : Tree) → targets_below S (replaced_below S g t) ≡ []
    none_below (var v) = refl
    none_below (node f xs) =
        let cs = argument_counts S f (each_mixed S xs) in
        ap (λ (z : List Bool). targets_of_each S (replaced_each S g xs cs) (argument_counts S f z)) (each_mixed_same S n us xs cs)
        ∙ none_each xs cs

    none_each : (xs : Trees) (cs : List Bool) → targets_of_each S (replaced_each S g xs cs) cs ≡ []
    none_each none cs = refl
    none_each (more x xs) cs =
        ap (λ (z : List Tree). z ++ targets_of_each S (replaced_each S g xs (other_counts cs)) (other_counts cs)) (none_at x (first_counts cs) (none_below x))
        ∙ none_each xs (other_counts cs)

  parameter_below : (t : Tree) → is_parameter S (replaced_below S g t) ≡ is_parameter S t
  parameter_below (var v) = refl
  parameter_below (node f xs) = refl

  -- a parameter of an equation stays, and what replaces another side is none
  parameter_same : (t : Tree) (m : Bool) → is_parameter S (replaced_in S g t (not (is_parameter S t) && m)) ≡ is_parameter S t
  parameter_same t m =
      choice (λ (z : Tree). is_parameter S z ≡ is_parameter S t) (is_plain S t && (not (is_parameter S t) && m)) (g t) (replaced_below S g t)
      (λ h. sym (not-true (is_parameter S t) (and-true (not (is_parameter S t)) m (and-true (is_plain S t) (not (is_parameter S t) && m) h).1).0))
      (λ _. parameter_below t)

  parameter_of : (q : Bool) (t : Tree) (m : Bool) → (q && is_parameter S (replaced_in S g t (not (q && is_parameter S t) && m))) ≡ (q && is_parameter S t)
  parameter_of false t m = refl
  parameter_of true t m = parameter_same t m

  -- whether a side may be a target stays
  counts_same : (q : Bool) (t beside : Tree) (d : Bool) → side_counts S q (replaced_side S g q t beside) (replaced_in S g beside d) ≡ side_counts S q t beside
  counts_same q t beside d =
      ap (λ (z : Bool). not (q && is_parameter S (replaced_side S g q t beside)) && z) (mixed_in S n us beside d)
      ∙ ap (λ (z : Bool). not z && mixed S beside) (parameter_of q t (mixed S beside))

  none_side : (q : Bool) (t beside : Tree) (d : Bool) → targets_in S (replaced_side S g q t beside) (side_counts S q (replaced_side S g q t beside) (replaced_in S g beside d)) ≡ []
  none_side q t beside d =
      ap (targets_in S (replaced_side S g q t beside)) (counts_same q t beside d) ∙ none_at t (side_counts S q t beside) (none_below t)

  none_sides : (l : Lit) → literal_targets S (replaced_sides S g l) ≡ []
  none_sides l =
      let q = is_equation l.relation in
      let s = replaced_side S g q l.left l.right in
      let t = replaced_side S g q l.right l.left in
      none_of_both (lit_foreground S (replaced_sides S g l)) (targets_in S s (side_counts S q s t)) (targets_in S t (side_counts S q t s))
      (none_side q l.left l.right (side_counts S q l.right l.left))
      (none_side q l.right l.left (side_counts S q l.left l.right))

  none_literal : (l : Lit) → literal_targets S (replaced_lit S g l) ≡ []
  none_literal l =
      choice (λ (z : Lit). literal_targets S z ≡ []) (lit_foreground S l) (replaced_sides S g l) l
      (λ _. none_sides l)
      (λ h. ap (λ (z : Bool). if z then side_targets S (is_equation l.relation) l.left l.right else []) h)

  -- the clause with its targets replaced has no target, where what follows has none
  pub none_clause : (c ms : List Lit) → targets S ms ≡ [] → targets S (map (replaced_lit S g) c ++ ms) ≡ []
  none_clause [] ms h = h
  none_clause (l ∷ ls) ms h =
      ap (λ (z : List Tree). z ++ targets S (map (replaced_lit S g) ls ++ ms)) (none_literal l) ∙ none_clause ls ms h

-- nor do the literals x != t have one
pub none_defined : (S : List Symbol) (m n : ℕ) (ts : List Tree) → EachTree (IsTarget S m) ts → targets S (map definition (numbered S n ts)) ≡ []
none_defined S m n [] each = refl
none_defined S m n (t ∷ ts) each =
    ap (λ (z : Bool). (if z then side_targets S false (var (variable_for (purity S t) n)) t else []) ++ targets S (map definition (numbered S (n + 1) ts)))
    (plain_foreground S t each.0.0)
    ∙ none_defined S m (n + 1) ts each.1
