-- The worked rows hold: each from the equations of the fold, and by computing.
use Rattle.std.proofs.Common.{◌≡◌, Bool, true, false, List, [], ◌∷◌, refl, ap, ◌∙◌, subst, sym}
use Rattle.term_base.specs.declared.variables.Variable.{Variable}
use Rattle.term_base.specs.declared.terms.Term.TheVariants as term
use Rattle.term_base.specs.Trees.{tree}
use Rattle.term_base.specs.TreeOf.{tree-Var}
use Rattle.formula_base.specs.declared.formulas.Formula.{Formula}
use Rattle.formula_base.specs.declared.formulas.Formula.TheVariants as f
use Rattle.formula_base.specs.FormulaFolds.{fold-Less, fold-All, fold-Some}
use Rattle.formula_base.specs.Binders.{AreNumbered, binders, binders_step}
use Rattle.formula_base.specs.Typing.{inside, is_inequality, is_typed, typed_step}
use Rattle.formula_base.specs.Rows.{x, y, individual, below, some_below, bounded_below, Bound, Numbered, Typed, Unbound, Hidden}

binders_below : binders some_below ≡ y ∷ []
binders_below =
    fold-Some (List Variable) binders_step (y ∷ []) below
    ∙ rw (fold-Less (List Variable) binders_step (term.Var y) (term.Var x)) refl

pub bound_row : Bound
bound_row =
    fold-All (List Variable) binders_step (x ∷ []) some_below
    ∙ rw binders_below refl

pub numbered_row : Numbered
numbered_row = subst (AreNumbered 0) (sym bound_row) (refl, (refl, tt))

-- the formula under `? [Y]`, inside these binders
at_below : (bs : List Variable) → is_typed [] some_below bs ≡ is_inequality [] (inside (y ∷ []) bs) (tree (term.Var y)) (tree (term.Var x))
at_below bs =
    ap (λ (m : List Variable → Bool). m bs) (fold-Some (List Variable → Bool) (typed_step []) (y ∷ []) below)
    ∙ ap (λ (m : List Variable → Bool). m (inside (y ∷ []) bs)) (fold-Less (List Variable → Bool) (typed_step []) (term.Var y) (term.Var x))

at_some : (bs : List Variable) (b : Bool) → is_inequality [] (inside (y ∷ []) bs) (tree (term.Var y)) (tree (term.Var x)) ≡ b → is_typed [] some_below bs ≡ b
at_some bs b h = at_below bs ∙ h

under : (v : Variable) (g : Formula) (bs : List Variable) → is_typed [] (f.All (v ∷ []) g) bs ≡ is_typed [] g (inside (v ∷ []) bs)
under v g bs = ap (λ (m : List Variable → Bool). m bs) (fold-All (List Variable → Bool) (typed_step []) (v ∷ []) g)

pub typed_row : Typed
typed_row = under x some_below [] ∙ at_some (x ∷ []) true (rw (tree-Var y, tree-Var x) refl)

pub unbound_row : Unbound
unbound_row = at_some [] false (rw (tree-Var y, tree-Var x) refl)

pub hidden_row : Hidden
hidden_row =
    under x (f.All (individual ∷ []) some_below) []
    ∙ under individual some_below (x ∷ [])
    ∙ at_some (individual ∷ x ∷ []) false (rw (tree-Var y, tree-Var x) refl)
