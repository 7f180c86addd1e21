-- A refusal asks nothing.
use Rattle.std.proofs.Common.{◌≡◌, ◌≢◌, ◌⊎◌, ◌∙◌, ℕ, List, [], ◌++◌, sym, ap, subst, inl, inr, append-nil, arith}
use Rattle.options.specs.declared.asked.Options.{Options}
use Rattle.formula_base.specs.declared.problems.Problem.{Problem}
use Rattle.arithmetic_answers.specs.declared.deciding.Decision.{Decision}
use Rattle.arithmetic_answers.specs.declared.deciding.Decision.TheVariants.{EmptyClause, TooWide, Refuted, Satisfied, Unknown}
use Rattle.beagle_top.specs.Answer.{IsProof, IsReading, decided, fault, foreground, many, read, status_of}
use Rattle.beagle_top.specs.Answered.{IsAnswered}

-- a decision is no refusal
not_refused : (d : Decision) → 3 ≡ status_of d → ⊥
not_refused (EmptyClause k) e = absurd (omega (arith, e))
not_refused (TooWide at) e = absurd (omega (arith, e))
not_refused (Refuted cert) e = absurd (omega (arith, e))
not_refused (Satisfied values) e = absurd (omega (arith, e))
not_refused (Unknown why) e = absurd (omega (arith, e))

of_problem : (o : Options) (p : Problem) (asked text : List ℕ) → IsProof o p asked 3 text → asked ≡ []
of_problem o p asked text (many over f) = f.asked_is
of_problem o p asked text (foreground few other f) = f.asked_is
of_problem o p asked text (decided d few all h q n f) = absurd (not_refused d n)

of_bytes : (o : Options) (bytes asked text : List ℕ) → IsReading (IsProof o) bytes asked 3 text → asked ≡ []
of_bytes o bytes asked text (fault r is f) = f.asked_is
of_bytes o bytes asked text (read p is due) = of_problem o p asked text due

-- an answer that was written as a refusal asked nothing
pub refusal_asks_nothing : (o : Options) (bytes before after : List ℕ) (s : ℕ) (text : List ℕ) (result : ℕ) (P : Type 0)
    → IsAnswered (IsReading (IsProof o) bytes) before after s text → (result ≡ s) ⊎ ((result ≡ 6) × P) → result ≡ 3 → after ≡ before
refusal_asks_nothing o bytes before after s text result P a (inl same) three =
    let is : s ≡ 3 = sym same ∙ three in
    let none : a.asked ≡ [] = of_bytes o bytes a.asked text (subst (λ (n : ℕ). IsReading (IsProof o) bytes a.asked n text) is a.due) in
    a.grows ∙ (ap (λ (more : List ℕ). before ++ more) none ∙ append-nil before)
refusal_asks_nothing o bytes before after s text result P a (inr six) three = absurd (omega (arith, six.0, three))

-- a refusal, where the other status doesn't come
pub first_of_two : (result : ℕ) (Q : Type 0) → (result ≡ 3 → Q) → result ≢ 5 → (result ≡ 3) ⊎ (result ≡ 5) → Q
first_of_two result Q so not (inl three) = so three
first_of_two result Q so not (inr five) = absurd (not five)
