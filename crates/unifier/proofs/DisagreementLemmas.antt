-- Disagreements of terms whose first arguments are equal, and of lists of which one has ended.
use Rattle.std.proofs.Common.{◌≡◌, ◌≤◌, ℕ, length, List, [], ◌∷◌, map, drop, refl, ap, sym, ◌∙◌, arith}
use Rattle.std.specs.Prelude.{ℤ}
use Rattle.std.proofs.lemmas.List.{drop_all}
use Rattle.term_base.specs.declared.terms.Term.{Term}
use Rattle.term_base.specs.declared.terms.Term.TheVariants.{Scale}
use Rattle.term_base.specs.Trees.{Tree, node, none, more, number, times, trees, tree}
use Rattle.term_base.specs.TreeLemmas.{same_head-refl}
use Rattle.term_base.specs.TreeOf.{tree-Scale}
use Rattle.unifier.specs.Disagreements.{Disagreement, agree, clash, bind, first_of, disagreement, disagreement_among}

first_of-agree : (g : Disagreement) → first_of g agree ≡ g
first_of-agree agree = refl
first_of-agree clash = refl
first_of-agree (bind v t) = refl

at_scale : (k : ℤ) (a b : Tree) → disagreement (node times (more (node (number k) none) (more a none))) (node times (more (node (number k) none) (more b none))) ≡ disagreement a b
at_scale k a b = rw (same_head-refl (number k)) (first_of-agree (disagreement a b))

disagreement-Scale : (j k : ℤ) (a b : Term) → j ≡ k → disagreement (tree (Scale j a)) (tree (Scale k b)) ≡ disagreement (tree a) (tree b)
disagreement-Scale j k a b e = ap (λ i. disagreement (tree (Scale i a)) (tree (Scale k b))) e ∙ rw (tree-Scale k a, tree-Scale k b) (at_scale k (tree a) (tree b))

pub disagreement-scaled : (s t : Term) (j k : ℤ) (a b : Term) → s ≡ Scale j a → t ≡ Scale k b → j ≡ k → disagreement (tree s) (tree t) ≡ disagreement (tree a) (tree b)
disagreement-scaled s t j k a b p q e = ap (λ x. disagreement (tree x) (tree t)) p ∙ ap (λ x. disagreement (tree (Scale j a)) (tree x)) q ∙ disagreement-Scale j k a b e

one_left : (rest : List Term) → 1 ≤ length rest → disagreement_among none (trees (map tree rest)) ≡ clash
one_left [] h = absurd (omega arith)
one_left (y ∷ ys) h = refl

-- a list that has ended against one that has not
pub disagreement_ended : (g : Disagreement) (xs rest : List Term) (i : ℕ) → length xs ≤ i → g ≡ disagreement_among (trees (map tree (drop i xs))) (trees (map tree rest)) → 1 ≤ length rest → clash ≡ g
disagreement_ended g xs rest i h e longer =
    let d : drop i xs ≡ [] = drop_all i xs h in
    sym (e ∙ ap (λ l. disagreement_among (trees (map tree l)) (trees (map tree rest))) d ∙ one_left rest longer)
