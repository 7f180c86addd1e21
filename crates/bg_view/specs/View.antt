-- The pool of background clauses, and that of clauses and a negated target.
use Rattle.std.specs.Prelude.{◌≡◌, ⊤, ℕ, suc, ◌+◌, pos, Bool, true, false, ◌&&◌, List, [], ◌∷◌, ◌++◌, map, length, Option, Some, None, Result, IfOk, IfErr, if◌then◌else◌}
use Rattle.term_base.specs.declared.terms.Term.{Term}
use Rattle.term_base.specs.declared.terms.Term.TheOpen.{Term-F, Var, Num, True, Sum, Scale, App}
use Rattle.term_base.specs.declared.terms.Term.TheFolds.{fold-Term}
use Rattle.term_base.specs.declared.clauses.Literal.{Literal}
use Rattle.term_base.specs.declared.clauses.Literal.TheVariants.{Equal, Differ, AtMost}
use Rattle.term_base.specs.declared.clauses.Clause.{Clause}
use Rattle.lin_base.specs.declared.sums.Lin.{Lin}
use Rattle.lin_base.specs.declared.facts.Fact.{Fact}
use Rattle.lin_base.specs.declared.facts.Fact.TheVariants.{AtMostZero, Zero}
use Rattle.lin_base.specs.declared.facts.Pool.{Pool}
use Rattle.lin_base.specs.declared.wides.Wide.{Wide}
use Rattle.lin_base.specs.declared.wides.ArithmeticError.{ArithmeticError}
use Rattle.lin_base.specs.declared.wides.ArithmeticError.TheVariants as arithmetic
use Rattle.lin_base.specs.Sum.{number, add_number, above}
use Rattle.lin_base.specs.Steps as arithmetic_steps
use Rattle.lin_base.specs.Steps.{first_wide, add_number_steps, above_steps}
use Rattle.bg_view.specs.declared.viewing.Viewed.{Viewed}
use Rattle.bg_view.specs.declared.viewing.WideAt.{WideAt}
use Rattle.bg_view.specs.declared.viewing.ViewError.{ViewError}
use Rattle.bg_view.specs.declared.viewing.ViewError.TheVariants.{Memory, Wide as TooWide}
use Rattle.bg_view.specs.Unknowns.{Numbering, numbering, ascending, symbols_in_literals, symbols_in_clauses, symbols_of, variables_of}
use Rattle.bg_view.specs.Linear.{Formed, difference}

-- ---- literals
-- of the terms `true` alone
abbrev pub truth_step : Term-F Bool → Bool
truth_step (Var v) = false
truth_step (Num k) = false
truth_step True = true
truth_step (Sum a b) = false
truth_step (Scale k a) = false
truth_step (App f args) = false

-- the term is `true`
abbrev pub is_truth : Term → Bool
is_truth = fold-Term Bool truth_step

-- facts and the steps that form them
pub record Facts : Type 0 where
  pub facts : List Fact
  pub steps : List Wide

-- the answer of a call that forms these facts
abbrev pub Gives : Result (List Fact) ArithmeticError → Facts → Type 0
Gives r f = arithmetic_steps.Forms r f.steps f.facts

-- `t <= 0`
abbrev pub at_most : Formed → Facts
at_most d = record { facts = AtMostZero d.sum ∷ []; steps = d.steps }

-- `-t + 1 <= 0`
abbrev pub more : Formed → Facts
more d = record { facts = AtMostZero (above d.sum) ∷ []; steps = d.steps ++ above_steps d.sum }

-- `t = 0`
abbrev pub equal : Formed → Facts
equal d = record { facts = Zero d.sum ∷ []; steps = d.steps }

-- `t + 1 <= 0` or `-t + 1 <= 0`
abbrev pub differ_facts : Lin → List Fact
differ_facts t = AtMostZero (add_number t (pos 1)) ∷ AtMostZero (above t) ∷ []

-- those of the first fact, then those of the second
abbrev pub differ_steps : Lin → List Wide
differ_steps t = add_number_steps t (pos 1) ++ above_steps t

-- `t != 0`, as two facts
abbrev pub differ : Formed → Facts
differ d = record { facts = differ_facts d.sum; steps = d.steps ++ differ_steps d.sum }

-- `0 = 0`
abbrev pub yes : Facts
yes = record { facts = Zero (number (pos 0)) ∷ []; steps = [] }

-- `1 <= 0`
abbrev pub no : Facts
no = record { facts = AtMostZero (number (pos 1)) ∷ []; steps = [] }

-- `s <= t`
abbrev pub inequality : Numbering → Term → Term → Facts
inequality n s t = at_most (difference n s t)

-- `s > t`
abbrev pub strict_inequality : Numbering → Term → Term → Facts
strict_inequality n s t = more (difference n s t)

-- `s = t`
abbrev pub equation : Numbering → Term → Term → Facts
equation n s t = if is_truth s && is_truth t then yes else equal (difference n s t)

-- `s != t`
abbrev pub disequation : Numbering → Term → Term → Facts
disequation n s t = if is_truth s && is_truth t then no else differ (difference n s t)

-- the facts of which one is true where the literal is
abbrev pub literal_view : Numbering → Literal → Facts
literal_view n (AtMost s t) = inequality n s t
literal_view n (Equal s t) = equation n s t
literal_view n (Differ s t) = disequation n s t

-- those of which one is true where the literal is false
abbrev pub negated_view : Numbering → Literal → Facts
negated_view n (AtMost s t) = strict_inequality n s t
negated_view n (Equal s t) = disequation n s t
negated_view n (Differ s t) = equation n s t

-- ---- clauses
-- the facts of all literals in order
abbrev pub literals_facts : Numbering → List Literal → List Fact
literals_facts n [] = []
literals_facts n (l ∷ ls) = (literal_view n l).facts ++ literals_facts n ls

-- their steps in order
abbrev pub literals_steps : Numbering → List Literal → List Wide
literals_steps n [] = []
literals_steps n (l ∷ ls) = (literal_view n l).steps ++ literals_steps n ls

-- a unit clause for each literal of the negated target, of two facts for an equation
abbrev pub negated_facts : Numbering → List Literal → List (List Fact)
negated_facts n [] = []
negated_facts n (l ∷ ls) = (negated_view n l).facts ∷ negated_facts n ls

-- their steps in order
abbrev pub negated_steps_of : Numbering → List Literal → List Wide
negated_steps_of n [] = []
negated_steps_of n (l ∷ ls) = (negated_view n l).steps ++ negated_steps_of n ls

-- a clause's own variables come after the symbols and the other parameters
abbrev pub clause_numbering : List ℕ → ℕ → Clause → Numbering
clause_numbering symbols params c = numbering symbols params (variables_of c)

-- the facts of a clause
abbrev pub clause_facts : List ℕ → ℕ → Clause → List Fact
clause_facts symbols params c = literals_facts (clause_numbering symbols params c) c.literals

-- their steps
abbrev pub clause_steps : List ℕ → ℕ → Clause → List Wide
clause_steps symbols params c = literals_steps (clause_numbering symbols params c) c.literals

-- the facts of each clause
abbrev pub clauses_facts : List ℕ → ℕ → List Clause → List (List Fact)
clauses_facts symbols params = map (clause_facts symbols params)

-- the steps of each clause
abbrev pub clauses_steps : List ℕ → ℕ → List Clause → List (List Wide)
clauses_steps symbols params = map (clause_steps symbols params)

-- ---- the view of clauses
-- the pool of the clauses where these are the parameters' symbols
abbrev pub view_of : List ℕ → List Clause → Viewed
view_of symbols clauses = record { symbols = symbols; pool = record { params = length symbols; clauses = clauses_facts symbols (length symbols) clauses } }

-- the pool, with the parameters' symbols
abbrev pub view : List Clause → Viewed
view clauses = view_of (symbols_of clauses) clauses

-- the steps of each clause
abbrev pub view_steps : List Clause → List (List Wide)
view_steps clauses = clauses_steps (symbols_of clauses) (length (symbols_of clauses)) clauses

-- ---- the view of clauses and a negated target
-- the target's variables are parameters after the symbols
abbrev pub target_numbering : List ℕ → Clause → Numbering
target_numbering symbols target = numbering symbols (length symbols) (variables_of target)

-- how many parameters there are: the symbols and the target's variables
abbrev pub entail_params : List ℕ → Clause → ℕ
entail_params symbols target = length symbols + length (variables_of target)

-- the clauses, and then the unit clauses of the negated target
abbrev pub entail_pool_of : List ℕ → List Clause → Clause → Pool
entail_pool_of symbols clauses target = record {
  params = entail_params symbols target;
  clauses = clauses_facts symbols (entail_params symbols target) clauses ++ negated_facts (target_numbering symbols target) target.literals;
}

-- that pool, with these symbols
abbrev pub entail_view_of : List ℕ → List Clause → Clause → Viewed
entail_view_of symbols clauses target = record { symbols = symbols; pool = entail_pool_of symbols clauses target }

-- the parameters of the clauses and the target
abbrev pub entail_symbols : List Clause → Clause → List ℕ
entail_symbols clauses target = ascending (symbols_in_clauses clauses ++ symbols_in_literals target.literals)

-- the pool of the clauses and the negated target, with the symbols of its parameters
abbrev pub entail_view : List Clause → Clause → Viewed
entail_view clauses target = entail_view_of (entail_symbols clauses target) clauses target

-- the target comes last
abbrev pub entail_steps_of : List ℕ → List Clause → Clause → List (List Wide)
entail_steps_of symbols clauses target =
    clauses_steps symbols (entail_params symbols target) clauses ++ negated_steps_of (target_numbering symbols target) target.literals ∷ []

-- the steps of each clause, and those of the target
abbrev pub entail_view_steps : List Clause → Clause → List (List Wide)
entail_view_steps clauses target = entail_steps_of (entail_symbols clauses target) clauses target

-- ---- the answers
-- the step that leaves the range, with the number n, or a later one
abbrev pub wide_at : ℕ → Option Wide → Option WideAt → Option WideAt
wide_at n None later = later
wide_at n (Some w) later = Some (record { clause = n; wide = w })

-- the first step that leaves the range, with the number of its clause, counted from n
abbrev pub first_wide_at : ℕ → List (List Wide) → Option WideAt
first_wide_at n [] = None
first_wide_at n (steps ∷ rest) = wide_at n (first_wide steps) (first_wide_at (suc n) rest)

-- an error is want of memory, or WideAt with this first step that leaves the range
abbrev pub IsErrorAt : ViewError → Option WideAt → Type 0
IsErrorAt Memory first = ⊤
IsErrorAt (TooWide w) first = first ≡ Some w

-- the value exactly where each result of the clauses' steps is in the range, WideAt exactly with the first step that leaves it
abbrev pub Forms : {A : Type 0} → Result A ViewError → List (List Wide) → A → Type 0
Forms r steps a = IfOk r (λ v. (first_wide_at 0 steps ≡ None) × (v ≡ a)) × IfErr r (λ e. IsErrorAt e (first_wide_at 0 steps))

-- the answer for one clause
abbrev pub FormsAt : {A : Type 0} → ℕ → Result A ViewError → List Wide → A → Type 0
FormsAt n r steps a = IfOk r (λ v. (first_wide steps ≡ None) × (v ≡ a)) × IfErr r (λ e. IsErrorAt e (wide_at n (first_wide steps) None))

-- the error of a clause
abbrev pub at_clause : ℕ → ArithmeticError → ViewError
at_clause n arithmetic.Memory = Memory
at_clause n (arithmetic.Wide w) = TooWide (record { clause = n; wide = w })
