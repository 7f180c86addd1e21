-- What a verdict on a pool promises.
use Rattle.std.specs.Prelude.{ℕ, ◌<◌, ◌≤◌, ◌^◌, IsTrue, List, ℤ}
use Rattle.lin_base.specs.declared.facts.Pool.{Pool}
use Rattle.lin_base.specs.Fact.{HoldsAt}
use Rattle.cert_tree.specs.Holds.{Holds}
use Rattle.cert_tree.specs.Laws.{valuation}
use Rattle.cert_tree.specs.Measures.{bulk, span, depth}
use Rattle.cert_tree.specs.Stands.{stands}
use Rattle.judge_base.specs.declared.verdicts.Verdict.{Verdict}
use Rattle.judge_base.specs.declared.verdicts.Verdict.TheVariants as verdict
use Rattle.judge_base.specs.declared.verdicts.Why.{Why}
use Rattle.judge_base.specs.declared.verdicts.Why.TheVariants.{Spent, Wide, Deep}

-- the greatest Depth that has to be decided
abbrev pub max_depth : ℕ
max_depth = 2000

-- the pool is true at these values, and the check of values says so
pub record IsSolution (pool : Pool) (values : List ℤ) : Type 0 where
  pub checked : Holds pool values
  pub true_there : HoldsAt pool (valuation values)

-- the measure of the pool that is past its limit
abbrev pub IsCause : Pool → ℕ → Why → Type 0
IsCause pool limit Spent = limit < bulk pool
IsCause pool limit Wide = 2 ^ 127 ≤ span pool
IsCause pool limit Deep = max_depth < depth pool

-- what a verdict on a pool promises, with this limit of its Bulk
abbrev pub Promises : Pool → ℕ → Verdict → Type 0
Promises pool limit (verdict.Unsat cert) = IsTrue (stands pool cert)
Promises pool limit (verdict.Sat values) = IsSolution pool values
Promises pool limit (verdict.Unknown why) = IsCause pool limit why
