-- A decision that a judge's verdict on a pool gives.
use Rattle.std.specs.Prelude.{ℕ}
use Rattle.lin_base.specs.declared.facts.Pool.{Pool}
use Rattle.judge_base.specs.declared.verdicts.Verdict.TheVariants as verdict
use Rattle.judge_base.specs.Verdicts.{Promises}
use Rattle.arithmetic_answers.specs.declared.deciding.Decision.{Decision}
use Rattle.arithmetic_answers.specs.declared.deciding.Decision.TheVariants as decision

-- the judge promises what is decided
abbrev pub IsVerdict : Pool → ℕ → Decision → Type 0
IsVerdict pool limit (decision.EmptyClause k) = ⊥
IsVerdict pool limit (decision.TooWide at) = ⊥
IsVerdict pool limit (decision.Refuted cert) = Promises pool limit (verdict.Unsat cert)
IsVerdict pool limit (decision.Satisfied values) = Promises pool limit (verdict.Sat values)
IsVerdict pool limit (decision.Unknown why) = Promises pool limit (verdict.Unknown why)
