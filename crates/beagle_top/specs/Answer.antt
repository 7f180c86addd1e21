-- Which status and which text are due, which queries they take, and how a run ends.
use Rattle.std.specs.Prelude.{◌≡◌, ℕ, ◌<◌, ◌≤◌, ◌^◌, Bool, true, false, List, [], ◌∷◌, ◌++◌, length, take, is_some, Contains, Option, None, ◌⊎◌}
use Rattle.std.specs.List.{list_all}
use Rattle.std.specs.Io.KnownBytes.{Appends}
use Rattle.term_base.specs.declared.clauses.Clause.{Clause}
use Rattle.term_base.specs.declared.preparation.Prepared.{Prepared}
use Rattle.term_base.specs.Lits.{lits}
use Rattle.term_base.specs.Clauses.{is_background}
use Rattle.cert_tree.specs.Measures.{bulk, span, depth}
use Rattle.judge_base.specs.Verdicts.{max_depth}
use Rattle.options.specs.Asked.{default_options}
use Rattle.options.specs.declared.limits.TheConstants.{INPUT_LIMIT}
use Rattle.options.specs.declared.asked.Options.{Options}
use Rattle.options.specs.declared.asked.Mode.{Mode}
use Rattle.options.specs.declared.asked.Mode.TheVariants.{Prove, Check, Make}
use Rattle.tff_reader.specs.declared.refusals.Refused.{Refused}
use Rattle.tff_reader.specs.Answer.{IsProblem, IsRefused}
use Rattle.formula_base.specs.declared.problems.Problem.{Problem}
use Rattle.normal_form.specs.Clauses.{count_of, max_clauses, prepared}
use Rattle.normal_form.specs.Count.{saturated}
use Rattle.arithmetic_answers.specs.declared.deciding.Decision.{Decision}
use Rattle.arithmetic_answers.specs.declared.deciding.Decision.TheVariants.{EmptyClause, TooWide, Refuted, Satisfied, Unknown}
use Rattle.arithmetic_answers.specs.Decisions.{Decides, first_wide, pool_of, queries_of}
use Rattle.arithmetic_answers.specs.Texts.{Tells}
use Rattle.proof_check.specs.declared.checked.Checked.{Checked}
use Rattle.proof_check.specs.declared.checked.Checked.TheVariants.{Faulty, TooMany, SaturatedList, BadText, RefusedStep, Verified}
use Rattle.proof_check.specs.Checks.{Finds}
use Rattle.beagle_top.specs.Texts.{too_long, not_built, refused, too_many, found}

-- the most bytes that a problem may have
abbrev pub input_limit : ℕ
input_limit = INPUT_LIMIT

-- ---- the clauses of a problem
abbrev pub clauses_of : Problem → Bool → List Clause
clauses_of p ordinary = (prepared p ordinary).clauses

-- each of the clauses is a background clause over the symbols
abbrev pub are_all_background : Prepared → Bool
are_all_background p = list_all (λ c. is_background p.symbols (lits c)) p.clauses

-- ---- what is due for a problem
-- the line of a refusal, with no query
pub record Refuses (line : List ℕ) (asked : List ℕ) (status : ℕ) (text : List ℕ) : Type 0 where
  pub asked_is : asked ≡ []
  pub status_is : status ≡ 3
  pub text_is : text ≡ line

-- the status that goes with a decision
abbrev pub status_of : Decision → ℕ
status_of (EmptyClause k) = 0
status_of (TooWide at) = 2
status_of (Refuted cert) = 0
status_of (Satisfied values) = 1
status_of (Unknown why) = 2

-- What is due where a problem is to be proved, and the numbers of the queries that it takes: the refusal of too many clauses; else
-- that of a clause that isn't a background clause; else the text of what the clauses decide.
pub data IsProof (o : Options) (p : Problem) (asked : List ℕ) (status : ℕ) (text : List ℕ) : Type 0 where
  many : max_clauses < count_of p → Refuses (too_many (saturated (count_of p))) asked status text → IsProof o p asked status text
  foreground : count_of p ≤ max_clauses → are_all_background (prepared p o.ordinary) ≡ false → Refuses not_built asked status text
      → IsProof o p asked status text
  decided : (d : Decision) → count_of p ≤ max_clauses → are_all_background (prepared p o.ordinary) ≡ true
      → Decides (clauses_of p o.ordinary) o.judge_steps d → asked ≡ queries_of d → status ≡ status_of d
      → Tells o.ordinary (is_some p.conjecture) (clauses_of p o.ordinary) d text → IsProof o p asked status text

-- ---- what is due for bytes
-- what is due for the bytes of a problem: the refusal of the first fault, or what is due for the problem that they mean
pub data IsReading (Due : Problem → List ℕ → ℕ → List ℕ → Type 0) (bytes : List ℕ) (asked : List ℕ) (status : ℕ) (text : List ℕ) : Type 0 where
  fault : (r : Refused) → IsRefused bytes r → Refuses (refused r) asked status text → IsReading Due bytes asked status text
  read : (p : Problem) → IsProblem bytes p → Due p asked status text → IsReading Due bytes asked status text

-- the status that goes with what a check finds
abbrev pub found_status : Checked → ℕ
found_status (Faulty r) = 3
found_status (TooMany count) = 3
found_status SaturatedList = 3
found_status (BadText at) = 8
found_status (RefusedStep step) = 8
found_status Verified = 0

-- What is due where the answer behind the problem of the bytes is to be checked: the status and the line of what the check finds.
pub record IsCheck (bytes : List ℕ) (asked : List ℕ) (status : ℕ) (text : List ℕ) : Type 0 where
  pub checked : Checked
  pub finds : Finds bytes checked
  pub asked_is : asked ≡ []
  pub status_is : status ≡ found_status checked
  pub text_is : text ≡ found checked

-- what is due for bytes: the refusal of too many, or what is due for those within the limit
abbrev pub Limited : List ℕ → (List ℕ → ℕ → List ℕ → Type 0) → List ℕ → ℕ → List ℕ → Type 0
Limited bytes Due asked status text =
    ((input_limit < length bytes) × Refuses too_long asked status text) ⊎ ((length bytes ≤ input_limit) × Due asked status text)

-- what is due where the problem of the bytes is to be proved
abbrev pub Proves : Options → List ℕ → List ℕ → ℕ → List ℕ → Type 0
Proves o bytes = Limited bytes (IsReading (IsProof o) bytes)

-- what is due where the answer behind a problem is to be checked
abbrev pub Checks : List ℕ → List ℕ → ℕ → List ℕ → Type 0
Checks bytes = Limited bytes (IsCheck bytes)

-- the job is to make a problem, which reads nothing
abbrev pub is_make : Mode → Bool
is_make (Make number) = true
is_make mode = false

-- what is due for the bytes of a source, where the job reads one
abbrev pub IsDueIn : Mode → Options → List ℕ → List ℕ → ℕ → List ℕ → Type 0
IsDueIn Prove o bytes = Proves o bytes
IsDueIn Check o bytes = Checks bytes
IsDueIn (Make number) o bytes = λ asked status text. ⊥

-- what is due for the options' job
abbrev pub IsDueFor : Options → List ℕ → List ℕ → ℕ → List ℕ → Type 0
IsDueFor o = IsDueIn o.mode o

-- the options of a check for which no words were given: the defaults, and what it does
abbrev pub check_options : Options
check_options = default_options Check

-- ---- problems that are decided
-- The bytes are a problem of background clauses whose pool is formed within the range, and the three measures of this pool are within
-- their limits.
pub record IsDecidable (o : Options) (bytes : List ℕ) : Type 0 where
  pub within : length bytes ≤ input_limit
  pub problem : Problem
  pub read : IsProblem bytes problem
  pub few : count_of problem ≤ max_clauses
  pub background : are_all_background (prepared problem o.ordinary) ≡ true
  pub narrow : first_wide (clauses_of problem o.ordinary) ≡ None
  pub bulk_within : bulk (pool_of (clauses_of problem o.ordinary)) ≤ o.judge_steps
  pub span_within : span (pool_of (clauses_of problem o.ordinary)) < 2 ^ 127
  pub depth_within : depth (pool_of (clauses_of problem o.ordinary)) ≤ max_depth

-- a derivation or a saturated list
abbrev pub IsDecided : ℕ → Type 0
IsDecided status = (status ≡ 0) ⊎ (status ≡ 1)

-- ---- how a run ends
-- the sink has taken all of the text, and the status is the due one
pub record TakenWhole (status : ℕ) (text : List ℕ) (before after : Option (List ℕ)) (ended : ℕ) : Type 0 where
  pub status_is : ended ≡ status
  pub taken : Appends before after text

-- the sink failed after it had taken a prefix of the text
pub record CutOff (text : List ℕ) (before after : Option (List ℕ)) (ended : ℕ) : Type 0 where
  pub status_is : ended ≡ 6
  pub count : ℕ
  pub within : count < length text
  pub taken : Appends before after (take count text)

-- the sink has taken all of the text, or a prefix of it before it failed
abbrev pub Ends : ℕ → List ℕ → Option (List ℕ) → Option (List ℕ) → ℕ → Type 0
Ends status text before after ended = TakenWhole status text before after ended ⊎ CutOff text before after ended

-- what is due was written, as far as the sink took it, and the queries that it takes were asked
pub record EndsBy (Due : List ℕ → ℕ → List ℕ → Type 0) (before after : Option (List ℕ)) (numbers_before numbers_after : List ℕ) (ended : ℕ) : Type 0 where
  pub asked : List ℕ
  pub status : ℕ
  pub text : List ℕ
  pub due : Due asked status text
  pub ends : Ends status text before after ended
  pub grows : numbers_after ≡ numbers_before ++ asked

-- a status without a text: the source failed, or memory ran out
abbrev pub IsSilent : ℕ → Type 0
IsSilent ended = (ended ≡ 5) ⊎ (ended ≡ 7)

-- the statuses that go with a text that is due for bytes whose problem is to be proved
abbrev pub IsDue : ℕ → Type 0
IsDue status = (status ≡ 0) ⊎ ((status ≡ 1) ⊎ ((status ≡ 2) ⊎ (status ≡ 3)))

-- the statuses of a run
abbrev pub IsStatus : ℕ → Type 0
IsStatus ended = Contains (0 ∷ 1 ∷ 2 ∷ 3 ∷ 4 ∷ 5 ∷ 6 ∷ 7 ∷ 8 ∷ []) ended

-- those of a check
abbrev pub IsCheckStatus : ℕ → Type 0
IsCheckStatus ended = Contains (0 ∷ 3 ∷ 5 ∷ 6 ∷ 7 ∷ 8 ∷ []) ended
