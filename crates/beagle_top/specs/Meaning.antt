-- What an answer says of the problem that was read.
use Rattle.std.specs.Prelude.{◌≡◌, ◌≤◌, ℕ, ℤ, true, List, [], ◌++◌, length, Option}
use Rattle.std.specs.Io.KnownBytes.{Appends}
use Rattle.options.specs.declared.asked.Options.{Options}
use Rattle.formula_base.specs.declared.problems.Problem.{Problem}
use Rattle.tff_reader.specs.Answer.{IsProblem}
use Rattle.normal_form.specs.Clauses.{count_of, max_clauses, prepared}
use Rattle.judge_base.specs.declared.verdicts.Why.{Why}
use Rattle.bg_view.specs.declared.viewing.WideAt.{WideAt}
use Rattle.bg_view.specs.Unknowns.{symbols_of}
use Rattle.bg_view.specs.Truth.{AreContradictory, AreTrueAt}
use Rattle.arithmetic_answers.specs.Decisions.{HasWide, IsPast, value_of}
use Rattle.arithmetic_answers.specs.Texts.{saturated_list, unknown_line, wide_line}
use Rattle.proof_check.specs.Sections.{ends_line, problem_part}
use Rattle.proof_check.specs.Checks.{IsProved}
use Rattle.beagle_top.specs.Answer.{are_all_background, clauses_of, input_limit}

-- the bytes are this problem, with clauses of arithmetic alone
pub record IsArithmetic (o : Options) (bytes : List ℕ) (p : Problem) : Type 0 where
  pub within : length bytes ≤ input_limit
  pub read : IsProblem bytes p
  pub few : count_of p ≤ max_clauses
  pub background : are_all_background (prepared p o.ordinary) ≡ true

-- at no integers for their parameters are the clauses true for all integers for their variables
pub record IsContradictory (o : Options) (bytes : List ℕ) : Type 0 where
  pub problem : Problem
  pub arithmetic : IsArithmetic o bytes problem
  pub contradictory : AreContradictory (clauses_of problem o.ordinary)

-- the clauses are true for all integers for their variables, where the parameters have the values of the list
pub record IsTrueAtValues (o : Options) (bytes text : List ℕ) : Type 0 where
  pub problem : Problem
  pub arithmetic : IsArithmetic o bytes problem
  pub values : List ℤ
  pub printed : text ≡ saturated_list o.ordinary (clauses_of problem o.ordinary) values
  pub true_there : AreTrueAt (value_of (symbols_of (clauses_of problem o.ordinary)) values) (clauses_of problem o.ordinary)

-- the operation of the line is the first one that leaves the range where the pool of the clauses is formed
pub record IsPastRange (o : Options) (bytes text : List ℕ) : Type 0 where
  pub problem : Problem
  pub arithmetic : IsArithmetic o bytes problem
  pub at : WideAt
  pub wide : HasWide (clauses_of problem o.ordinary) at
  pub printed : text ≡ wide_line at.wide

-- the measure of the line is past its limit
pub record IsPastMeasure (o : Options) (bytes text : List ℕ) : Type 0 where
  pub problem : Problem
  pub arithmetic : IsArithmetic o bytes problem
  pub why : Why
  pub past : IsPast (clauses_of problem o.ordinary) o.judge_steps why
  pub printed : text ≡ unknown_line why

-- the bytes, within the limit, are a problem and behind it a derivation of falsehood from its clauses
pub record IsVerified (bytes : List ℕ) : Type 0 where
  pub within : length bytes ≤ input_limit
  pub proved : IsProved bytes

-- an answer may stand behind the bytes: none of their lines begins as an answer does, and they end with a line or are none
pub record IsCheckable (bytes : List ℕ) : Type 0 where
  pub no_answer : problem_part bytes ≡ bytes
  pub whole_lines : ends_line bytes ≡ true

-- the sink has taken a text that is verified behind the bytes, where both are within the limit together
pub record WrittenChecks (bytes : List ℕ) (before after : Option (List ℕ)) : Type 0 where
  pub text : List ℕ
  pub taken : Appends before after text
  pub verified : length (bytes ++ text) ≤ input_limit → IsVerified (bytes ++ text)

-- the line of an operation, with no query
pub record IsWideLine (at : WideAt) (asked : List ℕ) (status : ℕ) (text : List ℕ) : Type 0 where
  pub asked_is : asked ≡ []
  pub status_is : status ≡ 2
  pub text_is : text ≡ wide_line at.wide

-- Two answers have the same queries, and without a query they are one; not one of them is a derivation and the other a saturated list.
pub record IsOneAnswer (asked also : List ℕ) (s t : ℕ) (x y : List ℕ) : Type 0 where
  pub queries : asked ≡ also
  pub without : asked ≡ [] → (s ≡ t) × (x ≡ y)
  pub apart : s ≡ 0 → t ≡ 1 → ⊥
