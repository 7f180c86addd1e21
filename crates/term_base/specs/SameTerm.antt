-- Equality of terms as a test: their trees are one.
use Rattle.std.proofs.Common.{◌≡◌, Bool, true, false, refl, ap, sym, ◌∙◌}
use Rattle.std.specs.Cmp.{IsEquivalence}
use Rattle.term_base.specs.declared.terms.Term.{Term}
use Rattle.term_base.specs.Trees.{tree, same_tree}
use Rattle.term_base.specs.TreeBack.{tree_injective}
use Rattle.term_base.specs.TreeLemmas.{same_tree-true, same_tree-refl}

abbrev pub same_term : Term → Term → Bool
same_term s t = same_tree (tree s) (tree t)

pub same_term-true : (s t : Term) → same_term s t ≡ true → s ≡ t
same_term-true s t h = tree_injective s t (same_tree-true (tree s) (tree t) h)

pub same_term-refl : (t : Term) → same_term t t ≡ true
same_term-refl t = same_tree-refl (tree t)

-- two tests that imply each other give the same answer
pub either : (p q : Bool) → (p ≡ true → q ≡ true) → (q ≡ true → p ≡ true) → p ≡ q
either true q there back = sym (there refl)
either false true there back = back refl
either false false there back = refl

pub same_term_equiv : IsEquivalence same_term
same_term_equiv = record {
  refl = same_term-refl;
  symm = λ s t. either (same_term s t) (same_term t s)
      (λ h. let e : s ≡ t = same_term-true s t h in ap (λ z. same_term z s) (sym e) ∙ same_term-refl s)
      (λ h. let e : t ≡ s = same_term-true t s h in ap (λ z. same_term z t) (sym e) ∙ same_term-refl t);
  congr = λ s t u h. ap (λ z. same_term z u) (same_term-true s t h);
}
