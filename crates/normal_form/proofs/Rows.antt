-- The worked rows hold: each from the equations of the fold, and by computing.
use Rattle.std.proofs.Common.{◌≡◌, ℕ, Bool, true, false, [], ◌∷◌, replicate, refl, ap, ◌∙◌}
use Rattle.term_base.specs.declared.variables.Variable.{Variable}
use Rattle.term_base.specs.declared.terms.Term.{Term}
use Rattle.term_base.specs.declared.terms.Term.TheVariants as term
use Rattle.term_base.specs.TermFolds.{fold-Var}
use Rattle.formula_base.specs.declared.formulas.Formula.{Formula}
use Rattle.formula_base.specs.declared.formulas.Formula.TheVariants as f
use Rattle.formula_base.specs.Rows.{x, y}
use Rattle.formula_base.specs.FormulaFolds.{fold-Less, fold-All, fold-Some, fold-Atom, fold-And, fold-Or}
use Rattle.normal_form.specs.declared.scopes.Scope.{Scope}
use Rattle.normal_form.specs.Clauses.{nothing_bound}
use Rattle.normal_form.specs.Cnf.{Meaning, cnf, cnf_step, instance, instance_step, at_variable, less, unit, quantified, with_universal, with_skolem}
use Rattle.normal_form.specs.Count.{Number, number, number_step}
use Rattle.normal_form.specs.Rows.{Less, NotLess, BoundedBelow, NotBoundedBelow, Joined, Counted}

at_less : (sign : Bool) (s u : Term) (scope : Scope) (next : ℕ) → cnf (f.Less s u) sign scope next ≡ unit (less sign (instance scope s) (instance scope u))
at_less true s u scope next = ap (λ (m : Meaning). m true scope next) (fold-Less Meaning cnf_step s u)
at_less false s u scope next = ap (λ (m : Meaning). m false scope next) (fold-Less Meaning cnf_step s u)

pub less_row : Less
less_row = at_less true

pub not_less_row : NotLess
not_less_row = at_less false

-- an inequality between variables
at_variables : (sign : Bool) (v w : Variable) (scope : Scope) (next : ℕ)
    → cnf (f.Less (term.Var v) (term.Var w)) sign scope next ≡ unit (less sign (at_variable scope.terms v) (at_variable scope.terms w))
at_variables sign v w scope next =
    at_less sign (term.Var v) (term.Var w) scope next
    ∙ ap (λ (t : Term). unit (less sign t (instance scope (term.Var w)))) (fold-Var Term (instance_step scope.terms) v)
    ∙ ap (λ (t : Term). unit (less sign (at_variable scope.terms v) t)) (fold-Var Term (instance_step scope.terms) w)

pub bounded_below_row : BoundedBelow
bounded_below_row =
    ap (λ (m : Meaning). m true nothing_bound 4) (fold-All Meaning cnf_step (x ∷ []) (f.Some (y ∷ []) (f.Less (term.Var y) (term.Var x))))
    ∙ ap (λ (m : Meaning). quantified true (x ∷ []) m true nothing_bound 4) (fold-Some Meaning cnf_step (y ∷ []) (f.Less (term.Var y) (term.Var x)))
    ∙ rw (at_variables true y x (with_skolem 4 (y ∷ []) (with_universal (x ∷ []) nothing_bound)) 5) refl

pub not_bounded_below_row : NotBoundedBelow
not_bounded_below_row =
    ap (λ (m : Meaning). m false nothing_bound 4) (fold-All Meaning cnf_step (x ∷ []) (f.Some (y ∷ []) (f.Less (term.Var y) (term.Var x))))
    ∙ ap (λ (m : Meaning). quantified false (x ∷ []) m false nothing_bound 4) (fold-Some Meaning cnf_step (y ∷ []) (f.Less (term.Var y) (term.Var x)))
    ∙ rw (at_variables false y x (with_universal (y ∷ []) (with_skolem 4 (x ∷ []) nothing_bound)) 5) refl

pub joined_row : Joined
joined_row a b c d = refl

-- ---- the count

one : (s : Term) → number (f.Atom s) true ≡ 1
one s = ap (λ (m : Number). m true) (fold-Atom Number number_step s)

two : (g h : Formula) → number g true ≡ 1 → number h true ≡ 1 → number (f.And (g ∷ h ∷ [])) true ≡ 2
two g h p q = ap (λ (m : Number). m true) (fold-And Number number_step (g ∷ h ∷ [])) ∙ rw (p, q) refl

many : (g : Formula) → number g true ≡ 2 → number (f.Or (replicate 17 g)) true ≡ 131072
many g p = ap (λ (m : Number). m true) (fold-Or Number number_step (replicate 17 g)) ∙ rw p refl

pub counted_row : Counted
counted_row p q = many (f.And (f.Atom p ∷ f.Atom q ∷ [])) (two (f.Atom p) (f.Atom q) (one p) (one q))
