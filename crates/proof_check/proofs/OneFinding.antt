-- A check finds one thing alone.
use Rattle.std.proofs.Common.{◌≡◌, ◌≢◌, ◌≤◌, ◌<◌, ◌+◌, ◌∙◌, ℕ, List, length, refl, sym, ap, subst, arith}
use Rattle.std.specs.Prelude.{is_some}
use Rattle.formula_base.specs.declared.problems.Problem.{Problem}
use Rattle.tff_reader.specs.declared.refusals.Refused.{Refused}
use Rattle.tff_reader.specs.Answer.{IsProblem, IsRefused}
use Rattle.normal_form.specs.Clauses.{count_of, max_clauses, prepared}
use Rattle.proof_steps.specs.declared.steps.Derivation.{Derivation}
use Rattle.proof_text.specs.declared.kinds.Status.{Status}
use Rattle.proof_text.specs.Derivations.{Spells}
use Rattle.proof_check.specs.declared.checked.Checked.{Checked}
use Rattle.proof_check.specs.declared.checked.Checked.TheVariants as checked
use Rattle.proof_check.specs.Sections.{answer_part, begins_list, problem_part}
use Rattle.proof_check.specs.Checks.{Finds, FindsAnswer, FindsBehind, FindsProof, IsStatusOf, is_theorem, other_word, refused, verified, list, bad, spelled, crowded, within, faulty, read}
use Rattle.proof_check.proofs.Comparing.{not_both}
use Rattle.proof_check.proofs.Texts.{one_bad}
use Rattle.proof_check.proofs.Replays.{no_fault, one_fault}

-- ---- derivations
one_proof : (p : Problem) (s : Status) (d : Derivation) (x y : Checked) → FindsProof p s d x → FindsProof p s d y → x ≡ y
one_proof p s d x y (other_word n e) (other_word m f) = e ∙ sym f
one_proof p s d x y (other_word n e) (refused k is h f) = absurd (n is)
one_proof p s d x y (other_word n e) (verified is h f) = absurd (n is)
one_proof p s d x y (refused k is h e) (other_word n f) = absurd (n is)
one_proof p s d x y (refused k is h e) (refused l also i f) =
    e ∙ (ap checked.RefusedStep (one_fault (prepared p d.ordinary) d.steps k l h i) ∙ sym f)
one_proof p s d x y (refused k is h e) (verified also i f) = absurd (no_fault (prepared p d.ordinary) d.steps k h i)
one_proof p s d x y (verified is h e) (other_word n f) = absurd (n is)
one_proof p s d x y (verified is h e) (refused k also i f) = absurd (no_fault (prepared p d.ordinary) d.steps k i h)
one_proof p s d x y (verified is h e) (verified also i f) = e ∙ sym f

abbrev pub OneText : Type 0
OneText = (p r : Status × Derivation) (text : List ℕ) → Spells p text → Spells r text → p ≡ r

module _ (one : OneText) where
  one_answer : (p : Problem) (at : ℕ) (answer : List ℕ) (x y : Checked) → FindsAnswer p at answer x → FindsAnswer p at answer y → x ≡ y
  one_answer p at answer x y (list is e) (list also f) = e ∙ sym f
  one_answer p at answer x y (list is e) (bad n fails h f) = absurd (not_both (begins_list answer) is fails)
  one_answer p at answer x y (list is e) (spelled s d fails h f) = absurd (not_both (begins_list answer) is fails)
  one_answer p at answer x y (bad n fails h e) (list is f) = absurd (not_both (begins_list answer) is fails)
  one_answer p at answer x y (bad n fails h e) (bad m also_fails i f) =
      e ∙ (ap (λ (k : ℕ). checked.BadText (at + k)) (one_bad Spells answer n m h i) ∙ sym f)
  one_answer p at answer x y (bad n fails h e) (spelled s d also_fails t f) = absurd (h.none (s, d) t)
  one_answer p at answer x y (spelled s d fails t e) (list is f) = absurd (not_both (begins_list answer) is fails)
  one_answer p at answer x y (spelled s d fails t e) (bad n also_fails h f) = absurd (h.none (s, d) t)
  one_answer p at answer x y (spelled s d fails t e) (spelled r c also_fails u f) =
      let same : ◌≡◌ {A = Status × Derivation} (r, c) (s, d) = one (r, c) (s, d) answer u t in
      one_proof p s d x y e (subst (λ (q : Status × Derivation). FindsProof p q.0 q.1 y) same f)

  one_behind : (p : Problem) (at : ℕ) (answer : List ℕ) (x y : Checked) → FindsBehind p at answer x → FindsBehind p at answer y → x ≡ y
  one_behind p at answer x y (crowded over e) (crowded also f) = e ∙ sym f
  one_behind p at answer x y (crowded over e) (within few f) = absurd (omega (arith, over, few))
  one_behind p at answer x y (within few e) (crowded over f) = absurd (omega (arith, over, few))
  one_behind p at answer x y (within few e) (within also f) = one_answer p at answer x y e f

  module _ (problem : (bytes : List ℕ) (p q : Problem) → IsProblem bytes p → IsProblem bytes q → p ≡ q)
      (refusal : (bytes : List ℕ) (r s : Refused) → IsRefused bytes r → IsRefused bytes s → r ≡ s)
      (apart : (bytes : List ℕ) (p : Problem) (r : Refused) → IsProblem bytes p → IsRefused bytes r → ⊥) where
    pub one_of : (bytes : List ℕ) (x y : Checked) → Finds bytes x → Finds bytes y → x ≡ y
    one_of bytes x y (faulty r is e) (faulty s also f) =
        e ∙ (ap checked.Faulty (refusal (problem_part bytes) r s is also) ∙ sym f)
    one_of bytes x y (faulty r is e) (read p also f) = absurd (apart (problem_part bytes) p r also is)
    one_of bytes x y (read p is e) (faulty r also f) = absurd (apart (problem_part bytes) p r is also)
    one_of bytes x y (read p is e) (read q also f) =
        let same : q ≡ p = problem (problem_part bytes) q p also is in
        let at = length (problem_part bytes) in
        one_behind p at (answer_part bytes) x y e (subst (λ (z : Problem). FindsBehind z at (answer_part bytes) y) same f)
