-- What background clauses decide: they contradict each other, or they are true at values, or why neither is known.
use Rattle.std.specs.Prelude.{◌≡◌, ℕ, suc, ℤ, pos, Bool, true, false, ◌==◌, List, [], ◌∷◌, Option, Some, None, if◌then◌else◌}
use Rattle.term_base.specs.declared.clauses.Clause.{Clause}
use Rattle.term_base.specs.declared.clauses.Literal.{Literal}
use Rattle.lin_base.specs.declared.facts.Pool.{Pool}
use Rattle.lin_base.specs.Fact.{Impossible}
use Rattle.cert_tree.specs.declared.certs.Cert.{Cert}
use Rattle.cert_tree.specs.Stands.{Stands}
use Rattle.judge_base.specs.declared.verdicts.Why.{Why}
use Rattle.judge_base.specs.Verdicts.{IsCause, IsSolution}
use Rattle.bg_view.specs.declared.viewing.WideAt.{WideAt}
use Rattle.bg_view.specs.Unknowns.{symbols_of}
use Rattle.bg_view.specs.View.{view, view_steps, first_wide_at}
use Rattle.bg_view.specs.Truth.{Symbols, AreTrueAt, AreContradictory}
use Rattle.arithmetic_answers.specs.declared.deciding.Decision.{Decision}
use Rattle.arithmetic_answers.specs.declared.deciding.Decision.TheVariants as decision

-- ---- clauses
abbrev pub has_no_literal : List Literal → Bool
has_no_literal [] = true
has_no_literal (l ∷ ls) = false

-- the first clause without literals, by its number counted from n
abbrev pub first_empty : ℕ → List Clause → Option ℕ
first_empty n [] = None
first_empty n (c ∷ cs) = if has_no_literal c.literals then Some n else first_empty (suc n) cs

-- the first operation that leaves the range where the pool of the clauses is formed, with the number of its clause
abbrev pub first_wide : List Clause → Option WideAt
first_wide cs = first_wide_at 0 (view_steps cs)

-- the pool of the clauses
abbrev pub pool_of : List Clause → Pool
pool_of cs = (view cs).pool

-- the value at the symbol's place, 0 for any other symbol
abbrev pub value_of : List ℕ → List ℤ → Symbols
value_of [] values f = pos 0
value_of (s ∷ symbols) [] f = pos 0
value_of (s ∷ symbols) (z ∷ values) f = if f == s then z else value_of symbols values f

-- ---- decisions
-- no clause is empty, and the pool is formed within the range
pub record HasPool (cs : List Clause) : Type 0 where
  pub no_empty : first_empty 0 cs ≡ None
  pub narrow : first_wide cs ≡ None

-- the first empty clause has this number, so the clauses contradict each other
pub record HasEmpty (cs : List Clause) (k : ℕ) : Type 0 where
  pub first : first_empty 0 cs ≡ Some k
  pub contradictory : AreContradictory cs

-- no clause is empty, and this operation is the first one that leaves the range where the pool is formed
pub record HasWide (cs : List Clause) (at : WideAt) : Type 0 where
  pub no_empty : first_empty 0 cs ≡ None
  pub wide : first_wide cs ≡ Some at

-- the certificate stands for the pool, which so is true at no integers, and the clauses contradict each other
pub record Contradicts (cs : List Clause) (cert : Cert) : Type 0 where
  pub has_pool : HasPool cs
  pub stands : Stands (pool_of cs) cert
  pub impossible : Impossible (pool_of cs)
  pub contradictory : AreContradictory cs

-- the pool is true at the values, and the clauses are true where each parameter has its value
pub record Satisfies (cs : List Clause) (values : List ℤ) : Type 0 where
  pub has_pool : HasPool cs
  pub solution : IsSolution (pool_of cs) values
  pub true_there : AreTrueAt (value_of (symbols_of cs) values) cs

-- a measure of the pool is past its limit
pub record IsPast (cs : List Clause) (limit : ℕ) (why : Why) : Type 0 where
  pub has_pool : HasPool cs
  pub cause : IsCause (pool_of cs) limit why

-- what a decision says of the clauses, with this limit of the Bulk of their pool
abbrev pub Decides : List Clause → ℕ → Decision → Type 0
Decides cs limit (decision.EmptyClause k) = HasEmpty cs k
Decides cs limit (decision.TooWide at) = HasWide cs at
Decides cs limit (decision.Refuted cert) = Contradicts cs cert
Decides cs limit (decision.Satisfied values) = Satisfies cs values
Decides cs limit (decision.Unknown why) = IsPast cs limit why

-- the numbers of the queries that it took: one, number 0, where the pool was judged
abbrev pub queries_of : Decision → List ℕ
queries_of (decision.EmptyClause k) = []
queries_of (decision.TooWide at) = []
queries_of (decision.Refuted cert) = 0 ∷ []
queries_of (decision.Satisfied values) = 0 ∷ []
queries_of (decision.Unknown why) = 0 ∷ []
