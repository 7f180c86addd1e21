-- A term is known by its tree.
use Rattle.std.proofs.Common.{◌≡◌, List, [], ◌∷◌, map, refl, ap, sym, ◌∙◌}
use Rattle.std.specs.Prelude.{ℤ}
use Rattle.term_base.specs.declared.terms.Term.{Term}
use Rattle.term_base.specs.declared.terms.Term.TheVariants.{Var, Num, True, Sum, Scale, App}
use Rattle.term_base.specs.Trees.{Head, Tree, Trees, var, node, none, more, truth, number, plus, times, symbol, trees, tree}
use Rattle.term_base.specs.TreeOf.{tree-Var, tree-Num, tree-True, tree-Sum, tree-Scale, tree-App}
use Rattle.term_base.specs.TermInduction.{Each, term_induction}

-- the number of a tree that is one
abbrev number_of : Tree → ℤ
number_of (node (number k) xs) = k
number_of _ = Rattle.std.specs.Prelude.pos 0

abbrev rebuilt : Head → Trees → List Term → Term
rebuilt truth xs ts = True
rebuilt (number n) xs ts = Num n
rebuilt plus xs (a ∷ b ∷ []) = Sum a b
rebuilt times (more k xs) (t ∷ a ∷ []) = Scale (number_of k) a
rebuilt (symbol f) xs ts = App f ts
rebuilt _ _ _ = True

abbrev mutual
  pub term_of : Tree → Term
  term_of (var v) = Var v
  term_of (node f xs) = rebuilt f xs (terms_of xs)

  pub terms_of : Trees → List Term
  terms_of none = []
  terms_of (more x xs) = term_of x ∷ terms_of xs

abbrev Back : Term → Type 0
Back t = term_of (tree t) ≡ t

each_back : (ts : List Term) → Each Back ts → terms_of (trees (map tree ts)) ≡ ts
each_back [] all = refl
each_back (t ∷ ts) all = let a = all.0 in let b = each_back ts all.1 in cc

pub term_of-tree : (t : Term) → term_of (tree t) ≡ t
term_of-tree = term_induction Back
    (λ v. ap term_of (tree-Var v))
    (λ n. ap term_of (tree-Num n))
    (ap term_of tree-True)
    (λ a b in_a in_b. ap term_of (tree-Sum a b) ∙ ap (λ z. Sum z (term_of (tree b))) in_a ∙ ap (Sum a) in_b)
    (λ k a in_a. ap term_of (tree-Scale k a) ∙ ap (Scale k) in_a)
    (λ f ts all. ap term_of (tree-App f ts) ∙ ap (App f) (each_back ts all))

-- terms with one tree are one
pub tree_injective : (s t : Term) → tree s ≡ tree t → s ≡ t
tree_injective s t e = sym (term_of-tree s) ∙ ap term_of e ∙ term_of-tree t
