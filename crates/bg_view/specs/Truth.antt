-- The truth of background clauses in the integers.
use Rattle.std.specs.Prelude.{◌≡◌, ◌<◌, ◌+◌, ℕ, zero, suc, ℤ, pos, ◌+ℤ◌, ◌*ℤ◌, Bool, not, int_le, IsTrue, List, [], ◌∷◌, length}
use Rattle.std.specs.List.{list_any, AllByRecursion}
use Rattle.std.proofs.Common.{get_or}
use Rattle.term_base.specs.declared.variables.Variable.{Variable}
use Rattle.term_base.specs.declared.terms.Term.{Term}
use Rattle.term_base.specs.declared.terms.Term.TheOpen.{Term-F, Var, Num, True, Sum, Scale, App}
use Rattle.term_base.specs.declared.terms.Term.TheFolds.{fold-Term}
use Rattle.term_base.specs.declared.clauses.Literal.{Literal}
use Rattle.term_base.specs.declared.clauses.Literal.TheVariants.{Equal, Differ, AtMost}
use Rattle.term_base.specs.declared.clauses.Clause.{Clause}
use Rattle.lin_base.specs.Whole.{is_same}
use Rattle.lin_base.specs.Sum.{Valuation}
use Rattle.bg_view.specs.Unknowns.{variables_of}

-- a whole number for each parameter symbol
abbrev pub Symbols : Type 0
Symbols = ℕ → ℤ

-- a whole number for each variable
abbrev pub Variables : Type 0
Variables = Variable → ℤ

-- `true` is compared with itself alone, so any number will do for it
abbrev pub value_step : Symbols → Variables → Term-F ℤ → ℤ
value_step p w (Var v) = w v
value_step p w (Num k) = k
value_step p w True = pos 0
value_step p w (Sum a b) = a +ℤ b
value_step p w (Scale k a) = k *ℤ a
value_step p w (App f args) = p f

-- the value of a background term
abbrev pub value : Symbols → Variables → Term → ℤ
value p w = fold-Term ℤ (value_step p w)

-- the literal is true at these values
abbrev pub literal_holds : Symbols → Variables → Literal → Bool
literal_holds p w (Equal s t) = is_same (value p w s) (value p w t)
literal_holds p w (Differ s t) = not (is_same (value p w s) (value p w t))
literal_holds p w (AtMost s t) = int_le (value p w s) (value p w t)

-- some literal is true
abbrev pub clause_holds : Symbols → Variables → Clause → Bool
clause_holds p w c = list_any (literal_holds p w) c.literals

-- the clause is true for all values of its variables
abbrev pub IsTrueAt : Symbols → Clause → Type 0
IsTrueAt p c = (w : Variables) → IsTrue (clause_holds p w c)

-- each of the clauses is
abbrev pub AreTrueAt : Symbols → List Clause → Type 0
AreTrueAt p clauses = AllByRecursion (IsTrueAt p) clauses

-- q gives each parameter the value that p gives its symbol
abbrev pub GivesSymbols : List ℕ → Symbols → Valuation → Type 0
GivesSymbols symbols p q = (x : ℕ) → x < length symbols → q x ≡ p (get_or symbols x 0)

-- the value of the variable at a place of the list
abbrev pub value_at : Variables → List Variable → ℕ → ℤ
value_at w [] n = pos 0
value_at w (v ∷ vs) zero = w v
value_at w (v ∷ vs) (suc n) = value_at w vs n

-- q gives each parameter from `first` on the value that w gives its variable
abbrev pub GivesVariables : ℕ → List Variable → Variables → Valuation → Type 0
GivesVariables first variables w q = (x : ℕ) → x < length variables → q (first + x) ≡ value_at w variables x

-- q gives the parameters of a view the values of their symbols, and of the target's variables
abbrev pub GivesTarget : List ℕ → Clause → Symbols → Variables → Valuation → Type 0
GivesTarget symbols target p w q = GivesSymbols symbols p q × GivesVariables (length symbols) (variables_of target) w q

-- the clauses are true at no values of their symbols
abbrev pub AreContradictory : List Clause → Type 0
AreContradictory clauses = (p : Symbols) → ¬ AreTrueAt p clauses

-- the target is true where the clauses are
abbrev pub Entail : List Clause → Clause → Type 0
Entail clauses target = (p : Symbols) → AreTrueAt p clauses → IsTrueAt p target
