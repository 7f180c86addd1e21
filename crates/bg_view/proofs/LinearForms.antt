-- How the answers of the parts of a term give that of the term.
use Rattle.std.specs.Prelude.{◌≡◌, ℤ, List, ◌++◌, None, Result, Err}
use Rattle.std.proofs.Common.{sym, ◌∙◌, ap, subst}
use Rattle.term_base.specs.declared.terms.Term.{Term}
use Rattle.term_base.specs.declared.terms.Term.TheVariants.{Sum, Scale}
use Rattle.term_base.specs.TermFolds.{fold-Sum, fold-Scale}
use Rattle.lin_base.specs.declared.sums.Lin.{Lin}
use Rattle.lin_base.specs.declared.wides.Wide.{Wide}
use Rattle.lin_base.specs.declared.wides.ArithmeticError.{ArithmeticError}
use Rattle.lin_base.specs.Sum.{add, scale}
use Rattle.lin_base.specs.Steps.{first_wide, add_steps, scale_steps, IsErrorAt, Forms}
use Rattle.lin_base.proofs.Forming.{Forms-err, Forms-after, IsErrorAt-append_some, IsErrorAt-append_none, first_wide-append_none}
use Rattle.bg_view.specs.Unknowns.{Numbering}
use Rattle.bg_view.specs.Linear.{Formed, plus, times, linear_step, linear}

-- three parts one after the other: an error of the first, of the second, and the answer of the last
module _ {A : Type 0} (r : Result A ArithmeticError) (ss ts us : List Wide) (a : A) where
  pub first_fails : (e : ArithmeticError) → r ≡ Err e → IsErrorAt e (first_wide ss) → Forms r (ss ++ ts ++ us) a
  first_fails e is h = Forms-err r e (ss ++ ts ++ us) a is (IsErrorAt-append_some e (ss ++ ts) us (IsErrorAt-append_some e ss ts h))

  pub second_fails : (e : ArithmeticError) → r ≡ Err e → first_wide ss ≡ None → IsErrorAt e (first_wide ts) → Forms r (ss ++ ts ++ us) a
  second_fails e is n h = Forms-err r e (ss ++ ts ++ us) a is (IsErrorAt-append_some e (ss ++ ts) us (IsErrorAt-append_none e ss ts n h))

  pub last_answers : first_wide ss ≡ None → first_wide ts ≡ None → Forms r us a → Forms r (ss ++ ts ++ us) a
  last_answers n m h = Forms-after r (ss ++ ts) us a (first_wide-append_none ss ts n ∙ m) h

-- a term and its parts, x and y being a and b
module _ (n : Numbering) (r : Result Lin ArithmeticError) (t : Term) where
  abbrev Answer : Type 0
  Answer = Forms r (linear n t).steps (linear n t).sum

  module _ (a b x y : Term) (is : t ≡ Sum a b) (left : x ≡ a) (right : y ≡ b) where
    sum_is : linear n t ≡ plus (linear n x) (linear n y)
    sum_is = ap (linear n) is ∙ fold-Sum Formed (linear_step n) a b ∙ ap (λ z. plus (linear n z) (linear n b)) (sym left) ∙ ap (λ z. plus (linear n x) (linear n z)) (sym right)

    answer : Forms r (plus (linear n x) (linear n y)).steps (plus (linear n x) (linear n y)).sum → Answer
    answer = subst (λ f. Forms r f.steps f.sum) (sym sum_is)

    pub left_fails : (e : ArithmeticError) → r ≡ Err e → IsErrorAt e (first_wide (linear n x).steps) → Answer
    left_fails e err h = answer (first_fails r (linear n x).steps (linear n y).steps _ _ e err h)

    pub right_fails : (e : ArithmeticError) → r ≡ Err e → first_wide (linear n x).steps ≡ None → IsErrorAt e (first_wide (linear n y).steps) → Answer
    right_fails e err low h = answer (second_fails r (linear n x).steps (linear n y).steps _ _ e err low h)

    pub sum_answers : (u v : Lin) → (first_wide (linear n x).steps ≡ None) × (u ≡ (linear n x).sum) → (first_wide (linear n y).steps ≡ None) × (v ≡ (linear n y).sum) → Forms r (add_steps u v) (add u v) → Answer
    sum_answers u v p q h =
        let P : Lin → Type 0 = λ u. Forms r (add_steps u v) (add u v) in
        let Q : Lin → Type 0 = λ v. Forms r (add_steps (linear n x).sum v) (add (linear n x).sum v) in
        answer (last_answers r (linear n x).steps (linear n y).steps _ _ p.0 q.0 (subst Q q.1 (subst P p.1 h)))

  module _ (k : ℤ) (a x : Term) (is : t ≡ Scale k a) (same : x ≡ a) where
    times_is : linear n t ≡ times k (linear n x)
    times_is = ap (linear n) is ∙ fold-Scale Formed (linear_step n) k a ∙ ap (λ z. times k (linear n z)) (sym same)

    pub scaled_fails : (e : ArithmeticError) → r ≡ Err e → IsErrorAt e (first_wide (linear n x).steps) → Answer
    scaled_fails e err h = subst (λ f. Forms r f.steps f.sum) (sym times_is) (Forms-err r e (times k (linear n x)).steps (times k (linear n x)).sum err (IsErrorAt-append_some e (linear n x).steps (scale_steps k (linear n x).sum) h))

    pub product_answers : (u : Lin) → (first_wide (linear n x).steps ≡ None) × (u ≡ (linear n x).sum) → Forms r (scale_steps k u) (scale k u) → Answer
    product_answers u p h =
        let P : Lin → Type 0 = λ u. Forms r (scale_steps k u) (scale k u) in
        subst (λ f. Forms r f.steps f.sum) (sym times_is) (Forms-after r (linear n x).steps (scale_steps k (linear n x).sum) (scale k (linear n x).sum) p.0 (subst P p.1 h))
