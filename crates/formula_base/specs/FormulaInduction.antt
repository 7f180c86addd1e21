-- Induction on formulas.
use Rattle.std.proofs.Common.{List, [], ◌∷◌, map, subst, sym}
use Rattle.term_base.specs.declared.terms.Term.{Term}
use Rattle.term_base.specs.declared.variables.Variable.{Variable}
use Rattle.formula_base.specs.declared.formulas.Formula.{Formula}
use Rattle.formula_base.specs.declared.formulas.Formula.TheOpen as layer
use Rattle.formula_base.specs.declared.formulas.Formula.TheOpen.{Formula-F}
use Rattle.formula_base.specs.declared.formulas.Formula.TheVariants as f
use Rattle.formula_base.specs.declared.formulas.Formula.TheViews.{roll-Formula}
use Rattle.formula_base.specs.declared.formulas.Formula.TheFolds.{ind-Formula, map-Formula}

-- a fact of each formula of a list, one beside the other
abbrev pub Each : (P : Formula → Type 0) → List Formula → Type 0
Each P [] = Unit {0}
Each P (g ∷ gs) = P g × Each P gs

each_beside : (P : Formula → Type 0) (es : List ((g : Formula) × P g)) → Each P (map (λ e. e.0) es)
each_beside P [] = tt
each_beside P (e ∷ es) = (e.1, each_beside P es)

module _ (P : Formula → Type 0)
    (at_true : P f.True)
    (at_false : P f.False)
    (at_atom : (s : Term) → P (f.Atom s))
    (at_same : (s u : Term) → P (f.Same s u))
    (at_less : (s u : Term) → P (f.Less s u))
    (at_less_eq : (s u : Term) → P (f.LessEq s u))
    (at_not : (g : Formula) → P g → P (f.Not g))
    (at_and : (gs : List Formula) → Each P gs → P (f.And gs))
    (at_or : (gs : List Formula) → Each P gs → P (f.Or gs))
    (at_implies : (g h : Formula) → P g → P h → P (f.Implies g h))
    (at_iff : (g h : Formula) → P g → P h → P (f.Iff g h))
    (at_all : (vs : List Variable) (g : Formula) → P g → P (f.All vs g))
    (at_some : (vs : List Variable) (g : Formula) → P g → P (f.Some vs g)) where
  at_layer : (y : Formula-F ((g : Formula) × P g)) → P (roll-Formula (map-Formula ((g : Formula) × P g) Formula (λ e. e.0) y))
  at_layer layer.True = subst P (sym f.rolls-True) at_true
  at_layer layer.False = subst P (sym f.rolls-False) at_false
  at_layer (layer.Atom s) = subst P (sym (f.rolls-Atom s)) (at_atom s)
  at_layer (layer.Same s u) = subst P (sym (f.rolls-Same s u)) (at_same s u)
  at_layer (layer.Less s u) = subst P (sym (f.rolls-Less s u)) (at_less s u)
  at_layer (layer.LessEq s u) = subst P (sym (f.rolls-LessEq s u)) (at_less_eq s u)
  at_layer (layer.Not e) = subst P (sym (f.rolls-Not e.0)) (at_not e.0 e.1)
  at_layer (layer.And es) = subst P (sym (f.rolls-And (map (λ e. e.0) es))) (at_and (map (λ e. e.0) es) (each_beside P es))
  at_layer (layer.Or es) = subst P (sym (f.rolls-Or (map (λ e. e.0) es))) (at_or (map (λ e. e.0) es) (each_beside P es))
  at_layer (layer.Implies a b) = subst P (sym (f.rolls-Implies a.0 b.0)) (at_implies a.0 b.0 a.1 b.1)
  at_layer (layer.Iff a b) = subst P (sym (f.rolls-Iff a.0 b.0)) (at_iff a.0 b.0 a.1 b.1)
  at_layer (layer.All vs e) = subst P (sym (f.rolls-All vs e.0)) (at_all vs e.0 e.1)
  at_layer (layer.Some vs e) = subst P (sym (f.rolls-Some vs e.0)) (at_some vs e.0 e.1)

  pub formula_induction : (g : Formula) → P g
  formula_induction = ind-Formula P (λ x y is. subst (λ z. P (roll-Formula z)) is (at_layer y))
