-- What a check finds of a problem and the answer behind it.
use Rattle.std.specs.Prelude.{◌≡◌, ◌≢◌, ℕ, ◌+◌, ◌<◌, ◌≤◌, Bool, true, false, List, length, is_some}
use Rattle.tff_reader.specs.declared.refusals.Refused.{Refused}
use Rattle.tff_reader.specs.Answer.{IsProblem, IsRefused}
use Rattle.formula_base.specs.declared.problems.Problem.{Problem}
use Rattle.normal_form.specs.Clauses.{count_of, max_clauses, prepared}
use Rattle.normal_form.specs.Count.{saturated}
use Rattle.proof_steps.specs.declared.steps.Derivation.{Derivation}
use Rattle.proof_steps.specs.Derivations.{Derives, IsFirstFault}
use Rattle.proof_text.specs.declared.kinds.Status.{Status}
use Rattle.proof_text.specs.declared.kinds.Status.TheVariants.{Theorem, Unsatisfiable}
use Rattle.proof_text.specs.Derivations.{Spells}
use Rattle.proof_text.specs.Parsing.{NoneIs}
use Rattle.proof_check.specs.declared.checked.Checked.{Checked}
use Rattle.proof_check.specs.declared.checked.Checked.TheVariants as checked
use Rattle.proof_check.specs.Sections.{answer_part, begins_list, problem_part}

-- ---- the word of the status
abbrev pub is_theorem : Status → Bool
is_theorem Theorem = true
is_theorem Unsatisfiable = false

-- the word is Theorem exactly where the problem has a conjecture
abbrev pub IsStatusOf : Problem → Status → Type 0
IsStatusOf p status = is_theorem status ≡ is_some p.conjecture

-- ---- derivations
-- What is found of a derivation with its status: another word than that of the problem is step 0; then the first step that doesn't
-- stand over the clauses with the derivation's own kind of variables, or the number of steps where all stand and the last
-- clause isn't empty; else it is verified.
pub data FindsProof (p : Problem) (status : Status) (d : Derivation) (found : Checked) : Type 0 where
  other_word : is_theorem status ≢ is_some p.conjecture → found ≡ checked.RefusedStep 0 → FindsProof p status d found
  refused : (n : ℕ) → IsStatusOf p status → IsFirstFault (prepared p d.ordinary) d.steps n → found ≡ checked.RefusedStep n → FindsProof p status d found
  verified : IsStatusOf p status → Derives (prepared p d.ordinary) d.steps → found ≡ checked.Verified → FindsProof p status d found

-- What is found of the bytes behind a problem, whose first one has this place in the whole input: a saturated list isn't checked; else
-- the first byte with which no derivation goes on; else what is found of the derivation that they spell.
pub data FindsAnswer (p : Problem) (at : ℕ) (answer : List ℕ) (found : Checked) : Type 0 where
  list : begins_list answer ≡ true → found ≡ checked.SaturatedList → FindsAnswer p at answer found
  bad : (n : ℕ) → begins_list answer ≡ false → NoneIs Spells n answer → found ≡ checked.BadText (at + n) → FindsAnswer p at answer found
  spelled : (status : Status) (d : Derivation) → begins_list answer ≡ false → Spells (status, d) answer → FindsProof p status d found
      → FindsAnswer p at answer found

-- What is found behind a problem: more clauses than are taken; else what is found of the bytes behind it.
pub data FindsBehind (p : Problem) (at : ℕ) (answer : List ℕ) (found : Checked) : Type 0 where
  crowded : max_clauses < count_of p → found ≡ checked.TooMany (saturated (count_of p)) → FindsBehind p at answer found
  within : count_of p ≤ max_clauses → FindsAnswer p at answer found → FindsBehind p at answer found

-- ---- the whole input
-- What a check of the bytes finds: the first fault of the problem, or what is found behind it.
pub data Finds (bytes : List ℕ) (found : Checked) : Type 0 where
  faulty : (r : Refused) → IsRefused (problem_part bytes) r → found ≡ checked.Faulty r → Finds bytes found
  read : (p : Problem) → IsProblem (problem_part bytes) p → FindsBehind p (length (problem_part bytes)) (answer_part bytes) found → Finds bytes found

-- ---- what is verified
-- the bytes are a problem, and behind it a derivation of falsehood from the problem's clauses, with the word of its status
pub record IsProved (bytes : List ℕ) : Type 0 where
  pub problem : Problem
  pub read : IsProblem (problem_part bytes) problem
  pub few : count_of problem ≤ max_clauses
  pub status : Status
  pub derivation : Derivation
  pub spelled : Spells (status, derivation) (answer_part bytes)
  pub word : IsStatusOf problem status
  pub derives : Derives (prepared problem derivation.ordinary) derivation.steps
