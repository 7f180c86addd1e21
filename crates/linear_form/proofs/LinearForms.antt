-- How the answers of the parts of a term give that of the term.
use Rattle.std.specs.Prelude.{◌≡◌, ℤ, List, ◌++◌, None, Result, Err}
use Rattle.std.proofs.Common.{sym, ◌∙◌, ap, subst}
use Rattle.term_base.specs.declared.terms.Term.{Term}
use Rattle.term_base.specs.declared.terms.Term.TheVariants.{Sum, Scale}
use Rattle.term_base.specs.Trees.{Tree, tree}
use Rattle.term_base.specs.TreeOf.{tree-Sum, tree-Scale}
use Rattle.lin_base.specs.declared.sums.Lin.{Lin}
use Rattle.lin_base.specs.declared.wides.Wide.{Wide}
use Rattle.lin_base.specs.declared.wides.ArithmeticError.{ArithmeticError}
use Rattle.lin_base.specs.Sum.{add, scale}
use Rattle.lin_base.specs.Steps.{first_wide, add_steps, scale_steps, IsErrorAt, Forms}
use Rattle.lin_base.proofs.Forming.{Forms-err, Forms-after, IsErrorAt-append_some, IsErrorAt-append_none, first_wide-append_none}
use Rattle.linear_form.specs.Linear.{Formed, both, multiple, linear_in}

-- three parts one after the other: an error of the first, of the second, and the answer of the last
module _ {A : Type 0} (r : Result A ArithmeticError) (ss ts us : List Wide) (a : A) where
  pub first_fails : (e : ArithmeticError) → r ≡ Err e → IsErrorAt e (first_wide ss) → Forms r (ss ++ ts ++ us) a
  first_fails e is h = Forms-err r e (ss ++ ts ++ us) a is (IsErrorAt-append_some e (ss ++ ts) us (IsErrorAt-append_some e ss ts h))

  pub second_fails : (e : ArithmeticError) → r ≡ Err e → first_wide ss ≡ None → IsErrorAt e (first_wide ts) → Forms r (ss ++ ts ++ us) a
  second_fails e is n h = Forms-err r e (ss ++ ts ++ us) a is (IsErrorAt-append_some e (ss ++ ts) us (IsErrorAt-append_none e ss ts n h))

  pub last_answers : first_wide ss ≡ None → first_wide ts ≡ None → Forms r us a → Forms r (ss ++ ts ++ us) a
  last_answers n m h = Forms-after r (ss ++ ts) us a (first_wide-append_none ss ts n ∙ m) h

-- a term over these summands and its parts, x and y being a and b
module _ (terms : List Tree) (r : Result Lin ArithmeticError) (t : Term) where
  abbrev formed : Term → Formed
  formed u = linear_in terms (tree u)

  abbrev Answer : Type 0
  Answer = Forms r (formed t).steps (formed t).sum

  module _ (a b x y : Term) (is : t ≡ Sum a b) (left : x ≡ a) (right : y ≡ b) where
    sum_is : formed t ≡ both (formed x) (formed y)
    sum_is = ap formed is ∙ ap (linear_in terms) (tree-Sum a b) ∙ ap (λ z. both (formed z) (formed b)) (sym left) ∙ ap (λ z. both (formed x) (formed z)) (sym right)

    answer : Forms r (both (formed x) (formed y)).steps (both (formed x) (formed y)).sum → Answer
    answer = subst (λ f. Forms r f.steps f.sum) (sym sum_is)

    pub left_fails : (e : ArithmeticError) → r ≡ Err e → IsErrorAt e (first_wide (formed x).steps) → Answer
    left_fails e err h = answer (first_fails r (formed x).steps (formed y).steps _ _ e err h)

    pub right_fails : (e : ArithmeticError) → r ≡ Err e → first_wide (formed x).steps ≡ None → IsErrorAt e (first_wide (formed y).steps) → Answer
    right_fails e err low h = answer (second_fails r (formed x).steps (formed y).steps _ _ e err low h)

    pub sum_answers : (u v : Lin) → (first_wide (formed x).steps ≡ None) × (u ≡ (formed x).sum) → (first_wide (formed y).steps ≡ None) × (v ≡ (formed y).sum) → Forms r (add_steps u v) (add u v) → Answer
    sum_answers u v p q h =
        let P : Lin → Type 0 = λ u. Forms r (add_steps u v) (add u v) in
        let Q : Lin → Type 0 = λ v. Forms r (add_steps (formed x).sum v) (add (formed x).sum v) in
        answer (last_answers r (formed x).steps (formed y).steps _ _ p.0 q.0 (subst Q q.1 (subst P p.1 h)))

  module _ (k : ℤ) (a x : Term) (is : t ≡ Scale k a) (same : x ≡ a) where
    multiple_is : formed t ≡ multiple k (formed x)
    multiple_is = ap formed is ∙ ap (linear_in terms) (tree-Scale k a) ∙ ap (λ z. multiple k (formed z)) (sym same)

    pub scaled_fails : (e : ArithmeticError) → r ≡ Err e → IsErrorAt e (first_wide (formed x).steps) → Answer
    scaled_fails e err h = subst (λ f. Forms r f.steps f.sum) (sym multiple_is) (Forms-err r e (multiple k (formed x)).steps (multiple k (formed x)).sum err (IsErrorAt-append_some e (formed x).steps (scale_steps k (formed x).sum) h))

    pub product_answers : (u : Lin) → (first_wide (formed x).steps ≡ None) × (u ≡ (formed x).sum) → Forms r (scale_steps k u) (scale k u) → Answer
    product_answers u p h =
        let P : Lin → Type 0 = λ u. Forms r (scale_steps k u) (scale k u) in
        subst (λ f. Forms r f.steps f.sum) (sym multiple_is) (Forms-after r (formed x).steps (scale_steps k (formed x).sum) (scale k (formed x).sum) p.0 (subst P p.1 h))
