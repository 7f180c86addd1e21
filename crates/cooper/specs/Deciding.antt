-- What a decision within a limit says of a pool.
use Rattle.std.specs.Prelude.{◌≡◌, ⊤, ℕ, ◌≤◌, Result, Ok, Err, IsTrue}
use Rattle.lin_base.specs.declared.facts.Pool.{Pool}
use Rattle.cert_tree.specs.declared.certs.Tree.{Tree}
use Rattle.cert_tree.specs.Ground.{grounding}
use Rattle.cert_tree.specs.Measures.{bulk, values_at, visit_of}
use Rattle.cert_tree.specs.Search.{Found, closed, satisfied}
use Rattle.cert_tree.specs.Stands.{stands}
use Rattle.judge_base.specs.declared.verdicts.Verdict.{Verdict}
use Rattle.judge_base.specs.declared.verdicts.Verdict.TheVariants as verdict
use Rattle.judge_base.specs.declared.verdicts.Why.TheVariants as why
use Rattle.judge_base.specs.Verdicts.{IsSolution, IsCause}
use Rattle.cooper_rows.specs.declared.counting.BudgetError.{BudgetError}
use Rattle.cooper_rows.specs.declared.counting.BudgetError.TheVariants as budget

-- the pool is decided
abbrev pub IsDecided : Verdict → Type 0
IsDecided (verdict.Unsat cert) = ⊤
IsDecided (verdict.Sat values) = ⊤
IsDecided (verdict.Unknown cause) = ⊥

-- the certificate of a search that closed, with the rows of the grounding, or the values of its satisfied leaf
abbrev pub stated_by : Pool → Found Tree → Verdict
stated_by pool (closed tree) = verdict.Unsat (record { rows = (grounding pool).rows; tree = tree })
stated_by pool (satisfied v) = verdict.Sat (values_at pool.params v)

-- the verdict of the stated search, which has no limits
abbrev pub stated : Pool → Verdict
stated pool = stated_by pool (visit_of pool).found

-- the verdict of the stated search, of as many rows and nodes as the limit at most
abbrev pub IsStated : Pool → ℕ → Verdict → Type 0
IsStated pool limit v = (bulk pool ≤ limit) × (v ≡ stated pool)

-- a certificate that stands or values of the pool, as stated; else a measure that is past its limit
abbrev pub Settles : Pool → ℕ → Verdict → Type 0
Settles pool limit (verdict.Unsat cert) = IsTrue (stands pool cert) × IsStated pool limit (verdict.Unsat cert)
Settles pool limit (verdict.Sat values) = IsSolution pool values × IsStated pool limit (verdict.Sat values)
Settles pool limit (verdict.Unknown cause) = IsCause pool limit cause

-- an error as the measure that is past its limit
abbrev pub IsPast : Pool → ℕ → BudgetError → Type 0
IsPast pool limit budget.Memory = ⊤
IsPast pool limit budget.Wide = IsCause pool limit why.Wide
IsPast pool limit budget.Spent = IsCause pool limit why.Spent

-- the answer of a call that decides
abbrev pub Settled : Result Verdict BudgetError → Pool → ℕ → Type 0
Settled (Ok v) pool limit = Settles pool limit v
Settled (Err e) pool limit = IsPast pool limit e
