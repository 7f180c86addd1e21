-- Worked rows of the definition.
use Rattle.std.specs.Prelude.{◌≡◌, ℕ, true, false, [], ◌∷◌, ◌++◌, replicate}
use Rattle.term_base.specs.declared.terms.Term.{Term}
use Rattle.term_base.specs.declared.terms.Term.TheVariants as term
use Rattle.term_base.specs.declared.clauses.Literal.TheVariants as literal
use Rattle.formula_base.specs.declared.formulas.Formula.TheVariants as f
use Rattle.formula_base.specs.Rows.{x, y, bounded_below}
use Rattle.normal_form.specs.declared.scopes.Scope.{Scope}
use Rattle.normal_form.specs.Cnf.{Literals, cnf, instance, joined, plus_one, skolem, unit}
use Rattle.normal_form.specs.Clauses.{nothing_bound}
use Rattle.normal_form.specs.Count.{number}

-- s < u is s + 1 <= u
abbrev pub Less : Type 0
Less = (s u : Term) (scope : Scope) (next : ℕ) → cnf (f.Less s u) true scope next ≡ unit (literal.AtMost (plus_one (instance scope s)) (instance scope u))

-- and negated u <= s
abbrev pub NotLess : Type 0
NotLess = (s u : Term) (scope : Scope) (next : ℕ) → cnf (f.Less s u) false scope next ≡ unit (literal.AtMost (instance scope u) (instance scope s))

-- in ! [X] : ? [Y] : Y < X, X is universal, and Y is replaced by the Skolem symbol 4 at X
abbrev pub BoundedBelow : Type 0
BoundedBelow = cnf bounded_below true nothing_bound 4 ≡ record {
  clauses = (literal.AtMost (plus_one (term.App 4 (term.Var x ∷ []))) (term.Var x) ∷ []) ∷ [];
  symbols = skolem (x ∷ []) y ∷ [];
}

-- with minus X is replaced by the Skolem symbol 4 without arguments, and Y is universal
abbrev pub NotBoundedBelow : Type 0
NotBoundedBelow = cnf bounded_below false nothing_bound 4 ≡ record {
  clauses = (literal.AtMost (term.App 4 []) (term.Var y) ∷ []) ∷ [];
  symbols = skolem [] x ∷ [];
}

-- the left member's clause runs slowest
abbrev pub Joined : Type 0
Joined = (a b c d : Literals) → joined ((a ∷ b ∷ []) ∷ (c ∷ d ∷ []) ∷ []) ≡ (a ++ c) ∷ (a ++ d) ∷ (b ++ c) ∷ (b ++ d) ∷ []

-- 17 conjunctions of two propositions each, joined
abbrev pub Counted : Type 0
Counted = (p q : Term) → number (f.Or (replicate 17 (f.And (f.Atom p ∷ f.Atom q ∷ [])))) true ≡ 131072
