-- Induction on terms.
use Rattle.std.proofs.Common.{ℕ, List, [], ◌∷◌, map, subst, sym}
use Rattle.std.specs.Prelude.{ℤ}
use Rattle.term_base.specs.declared.terms.Term.{Term}
use Rattle.term_base.specs.declared.variables.Variable.{Variable}
use Rattle.term_base.specs.declared.terms.Term.TheOpen as layer
use Rattle.term_base.specs.declared.terms.Term.TheOpen.{Term-F}
use Rattle.term_base.specs.declared.terms.Term.TheVariants.{Var, Num, True, Sum, Scale, App, rolls-Var, rolls-Num, rolls-True, rolls-Sum, rolls-Scale, rolls-App}
use Rattle.term_base.specs.declared.terms.Term.TheViews.{roll-Term}
use Rattle.term_base.specs.declared.terms.Term.TheFolds.{ind-Term, map-Term}

-- a fact of each term of a list, one beside the other
abbrev pub Each : (P : Term → Type 0) → List Term → Type 0
Each P [] = Unit {0}
Each P (t ∷ ts) = P t × Each P ts

each_beside : (P : Term → Type 0) (es : List ((t : Term) × P t)) → Each P (map (λ e. e.0) es)
each_beside P [] = tt
each_beside P (e ∷ es) = (e.1, each_beside P es)

module _ (P : Term → Type 0)
    (at_var : (v : Variable) → P (Var v))
    (at_num : (n : ℤ) → P (Num n))
    (at_true : P True)
    (at_sum : (a b : Term) → P a → P b → P (Sum a b))
    (at_scale : (k : ℤ) (a : Term) → P a → P (Scale k a))
    (at_app : (f : ℕ) (ts : List Term) → Each P ts → P (App f ts)) where
  at_layer : (y : Term-F ((t : Term) × P t)) → P (roll-Term (map-Term ((t : Term) × P t) Term (λ e. e.0) y))
  at_layer (layer.Var v) = subst P (sym (rolls-Var v)) (at_var v)
  at_layer (layer.Num n) = subst P (sym (rolls-Num n)) (at_num n)
  at_layer layer.True = subst P (sym rolls-True) at_true
  at_layer (layer.Sum a b) = subst P (sym (rolls-Sum a.0 b.0)) (at_sum a.0 b.0 a.1 b.1)
  at_layer (layer.Scale k a) = subst P (sym (rolls-Scale k a.0)) (at_scale k a.0 a.1)
  at_layer (layer.App f es) = subst P (sym (rolls-App f (map (λ e. e.0) es))) (at_app f (map (λ e. e.0) es) (each_beside P es))

  pub term_induction : (t : Term) → P t
  term_induction = ind-Term P (λ x y is. subst (λ z. P (roll-Term z)) is (at_layer y))
