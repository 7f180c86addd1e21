-- What a fold gives at each variant of a formula.
use Rattle.std.proofs.Common.{◌≡◌, ◌∙◌, ap, List, map}
use Rattle.term_base.specs.declared.terms.Term.{Term}
use Rattle.term_base.specs.declared.variables.Variable.{Variable}
use Rattle.formula_base.specs.declared.formulas.Formula.{Formula}
use Rattle.formula_base.specs.declared.formulas.Formula.TheOpen as layer
use Rattle.formula_base.specs.declared.formulas.Formula.TheOpen.{Formula-F}
use Rattle.formula_base.specs.declared.formulas.Formula.TheVariants as f
use Rattle.formula_base.specs.declared.formulas.Formula.TheFolds.{fold-Formula, fold_out-Formula, map-Formula}

module _ (A : Type 0) (step : Formula-F A → A) where
  abbrev at_layer : Formula-F Formula → A
  at_layer d = step (map-Formula Formula A (fold-Formula A step) d)

  pub fold-True : fold-Formula A step f.True ≡ step layer.True
  fold-True = fold_out-Formula A step f.True ∙ ap at_layer f.outs-True

  pub fold-False : fold-Formula A step f.False ≡ step layer.False
  fold-False = fold_out-Formula A step f.False ∙ ap at_layer f.outs-False

  pub fold-Atom : (s : Term) → fold-Formula A step (f.Atom s) ≡ step (layer.Atom s)
  fold-Atom s = fold_out-Formula A step (f.Atom s) ∙ ap at_layer (f.outs-Atom s)

  pub fold-Same : (s u : Term) → fold-Formula A step (f.Same s u) ≡ step (layer.Same s u)
  fold-Same s u = fold_out-Formula A step (f.Same s u) ∙ ap at_layer (f.outs-Same s u)

  pub fold-Less : (s u : Term) → fold-Formula A step (f.Less s u) ≡ step (layer.Less s u)
  fold-Less s u = fold_out-Formula A step (f.Less s u) ∙ ap at_layer (f.outs-Less s u)

  pub fold-LessEq : (s u : Term) → fold-Formula A step (f.LessEq s u) ≡ step (layer.LessEq s u)
  fold-LessEq s u = fold_out-Formula A step (f.LessEq s u) ∙ ap at_layer (f.outs-LessEq s u)

  pub fold-Not : (g : Formula) → fold-Formula A step (f.Not g) ≡ step (layer.Not (fold-Formula A step g))
  fold-Not g = fold_out-Formula A step (f.Not g) ∙ ap at_layer (f.outs-Not g)

  pub fold-And : (gs : List Formula) → fold-Formula A step (f.And gs) ≡ step (layer.And (map (fold-Formula A step) gs))
  fold-And gs = fold_out-Formula A step (f.And gs) ∙ ap at_layer (f.outs-And gs)

  pub fold-Or : (gs : List Formula) → fold-Formula A step (f.Or gs) ≡ step (layer.Or (map (fold-Formula A step) gs))
  fold-Or gs = fold_out-Formula A step (f.Or gs) ∙ ap at_layer (f.outs-Or gs)

  pub fold-Implies : (g h : Formula) → fold-Formula A step (f.Implies g h) ≡ step (layer.Implies (fold-Formula A step g) (fold-Formula A step h))
  fold-Implies g h = fold_out-Formula A step (f.Implies g h) ∙ ap at_layer (f.outs-Implies g h)

  pub fold-Iff : (g h : Formula) → fold-Formula A step (f.Iff g h) ≡ step (layer.Iff (fold-Formula A step g) (fold-Formula A step h))
  fold-Iff g h = fold_out-Formula A step (f.Iff g h) ∙ ap at_layer (f.outs-Iff g h)

  pub fold-All : (vs : List Variable) (g : Formula) → fold-Formula A step (f.All vs g) ≡ step (layer.All vs (fold-Formula A step g))
  fold-All vs g = fold_out-Formula A step (f.All vs g) ∙ ap at_layer (f.outs-All vs g)

  pub fold-Some : (vs : List Variable) (g : Formula) → fold-Formula A step (f.Some vs g) ≡ step (layer.Some vs (fold-Formula A step g))
  fold-Some vs g = fold_out-Formula A step (f.Some vs g) ∙ ap at_layer (f.outs-Some vs g)
