-- What is verified, and what is found where nothing stands behind a problem.
use Rattle.std.proofs.Common.{◌≡◌, ◌≤◌, ◌<◌, ◌+◌, ◌-◌, ◌∙◌, ℕ, List, [], length, drop, take, le_of_eq, length-drop, refl, sym, ap, subst, arith, true≢false}
use Rattle.std.proofs.lemmas.List.{drop_all, take_all}
use Rattle.std.specs.Prelude.{true}
use Rattle.formula_base.specs.declared.problems.Problem.{Problem}
use Rattle.tff_reader.specs.declared.refusals.Refused.{Refused}
use Rattle.tff_reader.specs.Answer.{IsProblem, IsRefused}
use Rattle.normal_form.specs.Clauses.{count_of, max_clauses}
use Rattle.proof_steps.specs.declared.steps.Derivation.{Derivation}
use Rattle.proof_text.specs.declared.kinds.Status.{Status}
use Rattle.proof_text.specs.Derivations.{Spells}
use Rattle.proof_check.specs.declared.checked.Checked.{Checked}
use Rattle.proof_check.specs.declared.checked.Checked.TheVariants as checked
use Rattle.proof_check.specs.Sections.{answer_part, begins_list, problem_part}
use Rattle.proof_check.specs.Checks.{Finds, FindsAnswer, FindsBehind, FindsProof, IsProved, other_word, refused, verified, list, bad, spelled, crowded, within, faulty, read}
use Rattle.proof_check.proofs.Texts.{no_list, not_empty}

-- ---- verified
abbrev is_verified : Checked → Type 0
is_verified (checked.Faulty r) = ⊥
is_verified (checked.TooMany n) = ⊥
is_verified checked.SaturatedList = ⊥
is_verified (checked.BadText n) = ⊥
is_verified (checked.RefusedStep n) = ⊥
is_verified checked.Verified = Unit {0}

another : {A : Type 0} (x y : Checked) → x ≡ checked.Verified → x ≡ y → (is_verified y → ⊥) → A
another x y v e fails = absurd (fails (subst is_verified (sym v ∙ e) tt))

module _ (bytes : List ℕ) (x : Checked) (v : x ≡ checked.Verified) where
  of_proof : (p : Problem) (s : Status) (d : Derivation) → IsProblem (problem_part bytes) p → count_of p ≤ max_clauses
      → Spells (s, d) (answer_part bytes) → FindsProof p s d x → IsProved bytes
  of_proof p s d is few t (other_word n e) = another x (checked.RefusedStep 0) v e (λ z. z)
  of_proof p s d is few t (refused n w h e) = another x (checked.RefusedStep n) v e (λ z. z)
  of_proof p s d is few t (verified w h e) = record {
    problem = p;
    read = is;
    few = few;
    status = s;
    derivation = d;
    spelled = t;
    word = w;
    derives = h;
  }

  of_answer : (p : Problem) (at : ℕ) → IsProblem (problem_part bytes) p → count_of p ≤ max_clauses
      → FindsAnswer p at (answer_part bytes) x → IsProved bytes
  of_answer p at is few (list begins e) = another x checked.SaturatedList v e (λ z. z)
  of_answer p at is few (bad n fails h e) = another x (checked.BadText (at + n)) v e (λ z. z)
  of_answer p at is few (spelled s d fails t f) = of_proof p s d is few t f

  of_behind : (p : Problem) (at : ℕ) → IsProblem (problem_part bytes) p → FindsBehind p at (answer_part bytes) x → IsProved bytes
  of_behind p at is (crowded over e) = another x _ v e (λ z. z)
  of_behind p at is (within few f) = of_answer p at is few f

  pub proved : Finds bytes x → IsProved bytes
  proved (faulty r is e) = another x (checked.Faulty r) v e (λ z. z)
  proved (read p is f) = of_behind p _ is f

-- what is proved is verified
pub finds_verified : (bytes : List ℕ) → IsProved bytes → Finds bytes checked.Verified
finds_verified bytes i =
    read i.problem i.read (within i.few
    (spelled i.status i.derivation (no_list (i.status, i.derivation) (answer_part bytes) i.spelled) i.spelled
    (verified i.word i.derives refl)))

-- ---- nothing behind the problem
nothing_bad : (p : Problem) (at : ℕ) (x : Checked) → FindsAnswer p at [] x → x ≡ checked.BadText at
nothing_bad p at x (list begins e) = absurd (true≢false (sym begins))
nothing_bad p at x (bad n fails h e) =
    let within = h.within in
    let none : at + n ≡ at = omega (arith, within) in
    e ∙ ap checked.BadText none
nothing_bad p at x (spelled s d fails t f) = absurd (not_empty (s, d) t)

behind_bad : (p : Problem) (at : ℕ) (x : Checked) → count_of p ≤ max_clauses → FindsBehind p at [] x → x ≡ checked.BadText at
behind_bad p at x few (crowded over e) = absurd (omega (arith, over, few))
behind_bad p at x few (within also f) = nothing_bad p at x f

module _ (problem : (bytes : List ℕ) (p q : Problem) → IsProblem bytes p → IsProblem bytes q → p ≡ q)
    (apart : (bytes : List ℕ) (p : Problem) (r : Refused) → IsProblem bytes p → IsRefused bytes r → ⊥) where
  pub without_answer : (bytes : List ℕ) (p : Problem) (x : Checked) → problem_part bytes ≡ bytes → IsProblem bytes p → count_of p ≤ max_clauses
      → Finds bytes x → x ≡ checked.BadText (length bytes)
  without_answer bytes p x all is few (faulty r also e) =
      absurd (apart bytes p r is (subst (λ (b : List ℕ). IsRefused b r) all also))
  without_answer bytes p x all is few (read q also f) =
      let same : q ≡ p = problem bytes q p (subst (λ (b : List ℕ). IsProblem b q) all also) is in
      let at : length (problem_part bytes) ≡ length bytes = ap length all in
      let none : answer_part bytes ≡ [] = drop_all (length (problem_part bytes)) bytes (omega (arith, at)) in
      let behind : FindsBehind p (length (problem_part bytes)) (answer_part bytes) x =
      subst (λ (z : Problem). FindsBehind z (length (problem_part bytes)) (answer_part bytes) x) same f in
      behind_bad p (length (problem_part bytes)) x few (subst (λ (b : List ℕ). FindsBehind p (length (problem_part bytes)) b x) none behind)
      ∙ ap checked.BadText at

-- ---- parts of the input
-- what is found behind a problem that was read in front
pub read_so : (bytes part : List ℕ) (p : Problem) (x : Checked) → part ≡ problem_part bytes → IsProblem part p
    → FindsBehind p (length part) (take (length bytes - length part) (drop (length part) bytes)) x → Finds bytes x
read_so bytes part p x same is f =
    let all : take (length bytes - length part) (drop (length part) bytes) ≡ drop (length part) bytes =
    take_all (length bytes - length part) (drop (length part) bytes) (le_of_eq (length-drop (length part) bytes)) in
    let behind : FindsBehind p (length part) (drop (length part) bytes) x = subst (λ (b : List ℕ). FindsBehind p (length part) b x) all f in
    read p (subst (λ (b : List ℕ). IsProblem b p) same is)
    (subst (λ (b : List ℕ). FindsBehind p (length b) (drop (length b) bytes) x) same behind)
