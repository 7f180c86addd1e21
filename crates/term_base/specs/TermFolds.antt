-- What a fold gives at each variant of a term.
use Rattle.std.proofs.Common.{◌≡◌, ℕ, ◌∙◌, ap, List, map}
use Rattle.std.specs.Prelude.{ℤ}
use Rattle.term_base.specs.declared.terms.Term.{Term}
use Rattle.term_base.specs.declared.variables.Variable.{Variable}
use Rattle.term_base.specs.declared.terms.Term.TheOpen as open_at
use Rattle.term_base.specs.declared.terms.Term.TheOpen.{Term-F}
use Rattle.term_base.specs.declared.terms.Term.TheVariants.{Var, Num, True, Sum, Scale, App, outs-Var, outs-Num, outs-True, outs-Sum, outs-Scale, outs-App}
use Rattle.term_base.specs.declared.terms.Term.TheFolds.{fold-Term, fold_out-Term, map-Term}

module _ (A : Type 0) (step : Term-F A → A) where
  abbrev at_layer : Term-F Term → A
  at_layer d = step (map-Term Term A (fold-Term A step) d)

  pub fold-Var : (v : Variable) → fold-Term A step (Var v) ≡ step (open_at.Var v)
  fold-Var v = fold_out-Term A step (Var v) ∙ ap at_layer (outs-Var v)

  pub fold-Num : (n : ℤ) → fold-Term A step (Num n) ≡ step (open_at.Num n)
  fold-Num n = fold_out-Term A step (Num n) ∙ ap at_layer (outs-Num n)

  pub fold-True : fold-Term A step True ≡ step open_at.True
  fold-True = fold_out-Term A step True ∙ ap at_layer outs-True

  pub fold-Sum : (a b : Term) → fold-Term A step (Sum a b) ≡ step (open_at.Sum (fold-Term A step a) (fold-Term A step b))
  fold-Sum a b = fold_out-Term A step (Sum a b) ∙ ap at_layer (outs-Sum a b)

  pub fold-Scale : (k : ℤ) (a : Term) → fold-Term A step (Scale k a) ≡ step (open_at.Scale k (fold-Term A step a))
  fold-Scale k a = fold_out-Term A step (Scale k a) ∙ ap at_layer (outs-Scale k a)

  pub fold-App : (f : ℕ) (ts : List Term) → fold-Term A step (App f ts) ≡ step (open_at.App f (map (fold-Term A step) ts))
  fold-App f ts = fold_out-Term A step (App f ts) ∙ ap at_layer (outs-App f ts)
