-- The clauses of a formula with a sign: a recursion that carries what is in scope, and numbers Skolem symbols as it meets them.
use Rattle.std.specs.Prelude.{ℕ, ◌+◌, Bool, true, false, not, ◌==◌, pos, List, [], ◌∷◌, ◌++◌, length, map, fold, reverse, if◌then◌else◌, refl}
use Rattle.std.specs.List.{flat_map, find}
use Rattle.std.specs.Option.{option_map_or}
use Rattle.term_base.specs.declared.symbols.Symbol.{Symbol}
use Rattle.term_base.specs.Classes.{class_of}
use Rattle.term_base.specs.declared.variables.Variable.{Variable}
use Rattle.term_base.specs.declared.terms.Term.{Term}
use Rattle.term_base.specs.declared.terms.Term.TheVariants as term
use Rattle.term_base.specs.declared.terms.Term.TheOpen as t
use Rattle.term_base.specs.declared.terms.Term.TheOpen.{Term-F}
use Rattle.term_base.specs.declared.terms.Term.TheFolds.{fold-Term}
use Rattle.term_base.specs.declared.clauses.Literal.{Literal}
use Rattle.term_base.specs.declared.clauses.Literal.TheVariants as literal
use Rattle.formula_base.specs.declared.formulas.Formula.{Formula}
use Rattle.formula_base.specs.declared.formulas.Formula.TheOpen as f
use Rattle.formula_base.specs.declared.formulas.Formula.TheOpen.{Formula-F}
use Rattle.formula_base.specs.declared.formulas.Formula.TheFolds.{fold-Formula}
use Rattle.normal_form.specs.declared.scopes.Scope.{Scope}

-- ---- lists of clauses

-- the literals of a clause
abbrev pub Literals : Type 0
Literals = List Literal

-- each clause of the first with each of the second; the first runs slowest
abbrev pub join : List Literals → List Literals → List Literals
join left right = flat_map (λ c. map (λ d. c ++ d) right) left

-- one after the other
abbrev pub appended : List (List Literals) → List Literals
appended members = flat_map (λ m. m) members

-- joined pairwise from the left
abbrev pub joined : List (List Literals) → List Literals
joined members = fold join ([] ∷ []) members

-- ---- what is in scope: the universal variables, outermost first, and what stands for each binder's number, in the order of the binders

-- what stands for a variable: the term of the innermost binder with its number
abbrev pub at_variable : List (ℕ × Term) → Variable → Term
at_variable terms v = option_map_or (λ p. p.1) (find (λ p. p.0 == v.id) (reverse terms)) (term.Var v)

abbrev pub instance_step : List (ℕ × Term) → Term-F Term → Term
instance_step terms (t.Var v) = at_variable terms v
instance_step terms (t.Num n) = term.Num n
instance_step terms t.True = term.True
instance_step terms (t.Sum a b) = term.Sum a b
instance_step terms (t.Scale k a) = term.Scale k a
instance_step terms (t.App g args) = term.App g args

-- the term, with what stands for its variables
abbrev pub instance : Scope → Term → Term
instance scope = fold-Term Term (instance_step scope.terms)

-- the scope inside binders whose variables are universal
abbrev pub with_universal : List Variable → Scope → Scope
with_universal vs scope = record { universal = scope.universal ++ vs; terms = scope.terms ++ map (λ v. (v.id, term.Var v)) vs }

-- a Skolem symbol over these universal variables, without a name
abbrev pub skolem : List Variable → Variable → Symbol
skolem universal v = let args = map (λ u. u.sort) universal in record { name = []; args = args; result = v.sort; class = class_of args v.sort; classified = refl }

-- Skolem symbols at these variables, numbered from one on
abbrev pub skolem_terms : ℕ → List Variable → List Variable → List (ℕ × Term)
skolem_terms next universal [] = []
skolem_terms next universal (v ∷ vs) = (v.id, term.App next (map term.Var universal)) ∷ skolem_terms (next + 1) universal vs

-- the scope inside binders whose variables are replaced by Skolem symbols, numbered from one on
abbrev pub with_skolem : ℕ → List Variable → Scope → Scope
with_skolem next vs scope = record { universal = scope.universal; terms = scope.terms ++ skolem_terms next scope.universal vs }

-- ---- the recursion

-- the clauses, and the Skolem symbols that were made for them
pub record Made : Type 0 where
  pub clauses : List Literals
  pub symbols : List Symbol

-- What a formula gives for a sign (true is plus), a scope and the number of the next Skolem symbol.
abbrev pub Meaning : Type 0
Meaning = Bool → Scope → ℕ → Made

abbrev pub only : List Literals → Made
only clauses = record { clauses = clauses; symbols = [] }

-- one clause of one literal
abbrev pub unit : Literal → Made
unit l = only ((l ∷ []) ∷ [])

-- one more
abbrev pub plus_one : Term → Term
plus_one s = term.Sum s (term.Num (pos 1))

abbrev pub atom : Bool → Term → Literal
atom true s = literal.Equal s term.True
atom false s = literal.Differ s term.True

abbrev pub same : Bool → Term → Term → Literal
same true s u = literal.Equal s u
same false s u = literal.Differ s u

abbrev pub less : Bool → Term → Term → Literal
less true s u = literal.AtMost (plus_one s) u
less false s u = literal.AtMost u s

abbrev pub less_eq : Bool → Term → Term → Literal
less_eq true s u = literal.AtMost s u
less_eq false s u = literal.AtMost (plus_one u) s

-- the formula that always holds has no clause, and negated one empty clause
abbrev pub always : Bool → Made
always true = only []
always false = only ([] ∷ [])

-- what the members make from left to right, each with its Skolem symbols behind those of the members before it
abbrev pub visit : List Meaning → Bool → Scope → ℕ → List Made
visit [] sign scope next = []
visit (m ∷ ms) sign scope next = let first = m sign scope next in first ∷ visit ms sign scope (next + length first.symbols)

abbrev pub all_symbols : List Made → List Symbol
all_symbols made = flat_map (λ m. m.symbols) made

abbrev pub combine : (List (List Literals) → List Literals) → List Made → Made
combine how made = record { clauses = how (map (λ m. m.clauses) made); symbols = all_symbols made }

abbrev pub negated : Meaning → Meaning
negated m sign scope next = m (not sign) scope next

abbrev pub conjunction : List Meaning → Meaning
conjunction ms sign scope next = combine (if sign then appended else joined) (visit ms sign scope next)

abbrev pub disjunction : List Meaning → Meaning
disjunction ms sign scope next = combine (if sign then joined else appended) (visit ms sign scope next)

abbrev pub implication : Meaning → Meaning → Meaning
implication m n = disjunction (negated m ∷ n ∷ [])

abbrev pub equivalence : Meaning → Meaning → Meaning
equivalence m n = conjunction (implication m n ∷ implication n m ∷ [])

-- the variables are universal
abbrev pub universally : List Variable → Meaning → Meaning
universally vs m sign scope next = m sign (with_universal vs scope) next

-- each variable is replaced by a Skolem symbol over the universal variables in scope
abbrev pub by_skolem : List Variable → Meaning → Meaning
by_skolem vs m sign scope next =
    let inner = m sign (with_skolem next vs scope) (next + length vs) in
    record { clauses = inner.clauses; symbols = map (skolem scope.universal) vs ++ inner.symbols }

abbrev pub quantified : Bool → List Variable → Meaning → Meaning
quantified universal vs m = if universal then universally vs m else by_skolem vs m

abbrev pub cnf_step : Formula-F Meaning → Meaning
cnf_step f.True sign scope next = always sign
cnf_step f.False sign scope next = always (not sign)
cnf_step (f.Atom s) sign scope next = unit (atom sign (instance scope s))
cnf_step (f.Same s u) sign scope next = unit (same sign (instance scope s) (instance scope u))
cnf_step (f.Less s u) sign scope next = unit (less sign (instance scope s) (instance scope u))
cnf_step (f.LessEq s u) sign scope next = unit (less_eq sign (instance scope s) (instance scope u))
cnf_step (f.Not m) sign scope next = negated m sign scope next
cnf_step (f.And ms) sign scope next = conjunction ms sign scope next
cnf_step (f.Or ms) sign scope next = disjunction ms sign scope next
cnf_step (f.Implies m n) sign scope next = implication m n sign scope next
cnf_step (f.Iff m n) sign scope next = equivalence m n sign scope next
cnf_step (f.All vs m) sign scope next = quantified sign vs m sign scope next
cnf_step (f.Some vs m) sign scope next = quantified (not sign) vs m sign scope next

abbrev pub cnf : Formula → Meaning
cnf = fold-Formula Meaning cnf_step
