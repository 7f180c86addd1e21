-- Induction on the terms and the formulas of the grammar.
use Rattle.std.proofs.Common.{Bool, List, [], ◌∷◌, map, subst, sym}
use Rattle.tff_grammar.specs.declared.pieces.Span.{Span}
use Rattle.tff_grammar.specs.declared.pieces.Number.{Number}
use Rattle.tff_grammar.specs.declared.pieces.Junction.{Junction}
use Rattle.tff_grammar.specs.declared.pieces.Link.{Link}
use Rattle.tff_grammar.specs.declared.pieces.Quantifier.{Quantifier}
use Rattle.tff_grammar.specs.declared.pieces.Relation.{Relation}
use Rattle.tff_grammar.specs.declared.trees.Head.{Head}
use Rattle.tff_grammar.specs.declared.trees.Variable.{Variable}
use Rattle.tff_grammar.specs.declared.trees.Term.{Term}
use Rattle.tff_grammar.specs.declared.trees.Term.TheOpen as t
use Rattle.tff_grammar.specs.declared.trees.Term.TheOpen.{Term-F}
use Rattle.tff_grammar.specs.declared.trees.Term.TheVariants as term
use Rattle.tff_grammar.specs.declared.trees.Term.TheViews.{roll-Term}
use Rattle.tff_grammar.specs.declared.trees.Term.TheFolds.{ind-Term, map-Term}
use Rattle.tff_grammar.specs.declared.trees.Formula.{Formula}
use Rattle.tff_grammar.specs.declared.trees.Formula.TheOpen as f
use Rattle.tff_grammar.specs.declared.trees.Formula.TheOpen.{Formula-F}
use Rattle.tff_grammar.specs.declared.trees.Formula.TheVariants as formula
use Rattle.tff_grammar.specs.declared.trees.Formula.TheViews.{roll-Formula}
use Rattle.tff_grammar.specs.declared.trees.Formula.TheFolds.{ind-Formula, map-Formula}

-- a fact of each item of a list, one beside the other
abbrev pub Each : {A : Type 0} → (A → Type 0) → List A → Type 0
Each P [] = Unit {0}
Each P (x ∷ xs) = P x × Each P xs

each_beside : {A : Type 0} (P : A → Type 0) (es : List ((x : A) × P x)) → Each P (map (λ e. e.0) es)
each_beside P [] = tt
each_beside P (e ∷ es) = (e.1, each_beside P es)

module _ (P : Term → Type 0)
    (at_variable : (s : Span) → P (term.Variable s))
    (at_numeral : (m : Number) → P (term.Numeral m))
    (at_apply : (h : Head) (us : List Term) → Each P us → P (term.Apply h us)) where
  at_term : (y : Term-F ((u : Term) × P u)) → P (roll-Term (map-Term ((u : Term) × P u) Term (λ e. e.0) y))
  at_term (t.Variable s) = subst P (sym (term.rolls-Variable s)) (at_variable s)
  at_term (t.Numeral m) = subst P (sym (term.rolls-Numeral m)) (at_numeral m)
  at_term (t.Apply h es) = subst P (sym (term.rolls-Apply h (map (λ e. e.0) es))) (at_apply h (map (λ e. e.0) es) (each_beside P es))

  pub term_induction : (u : Term) → P u
  term_induction = ind-Term P (λ x y is. subst (λ z. P (roll-Term z)) is (at_term y))

module _ (P : Formula → Type 0)
    (at_constant : (b : Bool) → P (formula.Constant b))
    (at_atom : (u : Term) → P (formula.Atom u))
    (at_relation : (r : Relation) (s u : Term) → P (formula.Relation r s u))
    (at_not : (g : Formula) → P g → P (formula.Not g))
    (at_quantified : (q : Quantifier) (vs : List Variable) (g : Formula) → P g → P (formula.Quantified q vs g))
    (at_linked : (l : Link) (g h : Formula) → P g → P h → P (formula.Linked l g h))
    (at_joined : (j : Junction) (gs : List Formula) → Each P gs → P (formula.Joined j gs)) where
  at_formula : (y : Formula-F ((g : Formula) × P g)) → P (roll-Formula (map-Formula ((g : Formula) × P g) Formula (λ e. e.0) y))
  at_formula (f.Constant b) = subst P (sym (formula.rolls-Constant b)) (at_constant b)
  at_formula (f.Atom u) = subst P (sym (formula.rolls-Atom u)) (at_atom u)
  at_formula (f.Relation r s u) = subst P (sym (formula.rolls-Relation r s u)) (at_relation r s u)
  at_formula (f.Not e) = subst P (sym (formula.rolls-Not e.0)) (at_not e.0 e.1)
  at_formula (f.Quantified q vs e) = subst P (sym (formula.rolls-Quantified q vs e.0)) (at_quantified q vs e.0 e.1)
  at_formula (f.Linked l a b) = subst P (sym (formula.rolls-Linked l a.0 b.0)) (at_linked l a.0 b.0 a.1 b.1)
  at_formula (f.Joined j es) = subst P (sym (formula.rolls-Joined j (map (λ e. e.0) es))) (at_joined j (map (λ e. e.0) es) (each_beside P es))

  pub formula_induction : (g : Formula) → P g
  formula_induction = ind-Formula P (λ x y is. subst (λ z. P (roll-Formula z)) is (at_formula y))
