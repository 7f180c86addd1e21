-- Answers with the queries that were asked, and how a run ends with them.
use Rattle.std.proofs.Common.{◌≡◌, ◌≢◌, ◌≤◌, ◌∙◌, ℕ, Bool, true, List, [], ◌∷◌, ◌++◌, length, refl, sym, ap, subst, inl, inr, append-nil}
use Rattle.std.specs.Prelude.{is_some, Option}
use Rattle.std.specs.List.{list_all}
use Rattle.std.proofs.lemmas.Bool.{and_parts, and_from}
use Rattle.term_base.specs.declared.clauses.Clause.{Clause}
use Rattle.term_base.specs.declared.symbols.Symbol.{Symbol}
use Rattle.term_base.specs.declared.preparation.Prepared.{Prepared}
use Rattle.term_base.specs.Lits.{lits}
use Rattle.term_base.specs.Clauses.{is_well_sorted, is_background}
use Rattle.options.specs.declared.asked.Options.{Options}
use Rattle.options.specs.declared.asked.Mode.{Mode}
use Rattle.options.specs.declared.asked.Mode.TheVariants.{Prove, Check}
use Rattle.tff_reader.specs.Answer.{IsProblem}
use Rattle.formula_base.specs.declared.problems.Problem.{Problem}
use Rattle.normal_form.specs.Clauses.{count_of, max_clauses, prepared}
use Rattle.bg_view.specs.Background.{are_background}
use Rattle.arithmetic_answers.specs.declared.deciding.Decision.{Decision}
use Rattle.arithmetic_answers.specs.declared.deciding.Decision.TheVariants.{EmptyClause, TooWide, Refuted, Satisfied, Unknown}
use Rattle.arithmetic_answers.specs.Decisions.{Decides, queries_of}
use Rattle.arithmetic_answers.specs.Texts.{Tells}
use Rattle.beagle_top.specs.Answer.{Checks, Ends, EndsBy, IsDecidable, IsDecided, IsDueFor, IsDueIn, IsProof, IsReading, Limited, Proves, are_all_background, clauses_of, decided, input_limit, read}
use Rattle.beagle_top.specs.Answered.{IsAnswered, IsDecidedBy}
use Rattle.beagle_top.specs.Asking.{MayAsk}

-- ---- clauses
-- well sorted clauses that are background clauses
pub both_tests : (signature : List Symbol) (cs : List Clause) → list_all (λ c. is_well_sorted signature (lits c)) cs ≡ true
    → list_all (λ c. is_background signature (lits c)) cs ≡ true → are_background signature cs ≡ true
both_tests signature [] w b = refl
both_tests signature (c ∷ cs) w b =
    let sorted = and_parts _ _ w in
    let background = and_parts _ _ b in
    and_from _ _ (and_from _ _ sorted.0 background.0) (both_tests signature cs sorted.1 background.1)

-- ---- queries
-- a decision takes at most one query
pub at_most_one : (before after : List ℕ) (d : Decision) → after ≡ before ++ queries_of d → MayAsk before after
at_most_one before after (EmptyClause k) e = inl (e ∙ append-nil before)
at_most_one before after (TooWide at) e = inl (e ∙ append-nil before)
at_most_one before after (Refuted cert) e = inr e
at_most_one before after (Satisfied values) e = inr e
at_most_one before after (Unknown why) e = inr e

-- ---- answers
-- a refusal asks nothing
pub refusal : (Due : List ℕ → ℕ → List ℕ → Type 0) (before after : List ℕ) (status : ℕ) (text : List ℕ) → Due [] status text → after ≡ before
    → IsAnswered Due before after status text
refusal Due before after status text due same = record { asked = []; due = due; grows = same ∙ sym (append-nil before) }

-- what the clauses decide is due for their problem
pub from_decision : (o : Options) (p : Problem) (has_conjecture : Bool) (made : Prepared) (before after : List ℕ) (status : ℕ) (text : List ℕ)
    → count_of p ≤ max_clauses → made ≡ prepared p o.ordinary → are_all_background made ≡ true → has_conjecture ≡ is_some p.conjecture
    → IsDecidedBy o has_conjecture made.clauses before after status text → IsAnswered (IsProof o p) before after status text
from_decision o p has_conjecture made before after status text few is all has by =
    let cs : made.clauses ≡ clauses_of p o.ordinary = ap (λ (m : Prepared). m.clauses) is in
    record {
      asked = queries_of by.decision;
      due = decided by.decision few (subst (λ (m : Prepared). are_all_background m ≡ true) is all)
          (subst (λ (l : List Clause). Decides l o.judge_steps by.decision) cs by.decides) refl by.status_is
          (subst (λ (l : List Clause). Tells o.ordinary (is_some p.conjecture) l by.decision text) cs
          (subst (λ (b : Bool). Tells o.ordinary b made.clauses by.decision text) has by.tells));
      grows = by.grows;
    }

-- what is due for bytes within the limit
pub within : (Due : List ℕ → ℕ → List ℕ → Type 0) (bytes before after : List ℕ) (status : ℕ) (text : List ℕ) → length bytes ≤ input_limit
    → IsAnswered Due before after status text → IsAnswered (Limited bytes Due) before after status text
within Due bytes before after status text le a = record { asked = a.asked; due = inr (le, a.due); grows = a.grows }

-- ---- ends
-- what was answered was written
pub ended : (Due : List ℕ → ℕ → List ℕ → Type 0) (before after : Option (List ℕ)) (m n : List ℕ) (status : ℕ) (text : List ℕ) (result : ℕ)
    → IsAnswered Due m n status text → Ends status text before after result → EndsBy Due before after m n result
ended Due before after m n status text result a e = record {
  asked = a.asked;
  status = status;
  text = text;
  due = a.due;
  ends = e;
  grows = a.grows;
}

-- what is due in another way
pub due_so : (Due Also : List ℕ → ℕ → List ℕ → Type 0) (before after : Option (List ℕ)) (m n : List ℕ) (result : ℕ)
    → ((asked : List ℕ) (status : ℕ) (text : List ℕ) → Due asked status text → Also asked status text)
    → EndsBy Due before after m n result → EndsBy Also before after m n result
due_so Due Also before after m n result f e = record {
  asked = e.asked;
  status = e.status;
  text = e.text;
  due = f e.asked e.status e.text e.due;
  ends = e.ends;
  grows = e.grows;
}

-- the answer of a problem is that of its bytes
pub reads : (Due : Problem → List ℕ → ℕ → List ℕ → Type 0) (bytes : List ℕ) (p : Problem) (before after : List ℕ) (status : ℕ) (text : List ℕ)
    → IsProblem bytes p → IsAnswered (Due p) before after status text → IsAnswered (IsReading Due bytes) before after status text
reads Due bytes p before after status text is a = record { asked = a.asked; due = read p is a.due; grows = a.grows }

-- a run that asks nothing has asked nothing
pub nothing_behind : (xs : List ℕ) → xs ≡ xs ++ []
nothing_behind xs = sym (append-nil xs)

-- what is due for a check is due for options whose job is one
pub checks_so : (o : Options) (bytes : List ℕ) (before after : Option (List ℕ)) (numbers : List ℕ) (result : ℕ) → o.mode ≡ Check
    → EndsBy (Checks bytes) before after [] [] result → EndsBy (IsDueFor o bytes) before after numbers numbers result
checks_so o bytes before after numbers result is e = record {
  asked = e.asked;
  status = e.status;
  text = e.text;
  due = subst (λ (m : Mode). IsDueIn m o bytes e.asked e.status e.text) (sym is) e.due;
  ends = e.ends;
  grows = sym (append-nil numbers) ∙ ap (λ (a : List ℕ). numbers ++ a) e.grows;
}

-- what is due for a proof is due for options whose job is one
pub proves_so : (o : Options) (bytes : List ℕ) (before after : Option (List ℕ)) (m n : List ℕ) (result : ℕ) → o.mode ≡ Prove
    → EndsBy (Proves o bytes) before after m n result → EndsBy (IsDueFor o bytes) before after m n result
proves_so o bytes before after m n result is e = record {
  asked = e.asked;
  status = e.status;
  text = e.text;
  due = subst (λ (a : Mode). IsDueIn a o bytes e.asked e.status e.text) (sym is) e.due;
  ends = e.ends;
  grows = e.grows;
}

-- ---- problems that are decided
abbrev Law : Type 0
Law = (o : Options) (bytes asked : List ℕ) (status : ℕ) (text : List ℕ) → IsDecidable o bytes → Proves o bytes asked status text → IsDecided status

ended_decided : (status : ℕ) (text : List ℕ) (before after : Option (List ℕ)) (result : ℕ) → result ≢ 6 → IsDecided status → Ends status text before after result
    → IsDecided result
ended_decided status text before after result other is (inl whole) = subst IsDecided (sym whole.status_is) is
ended_decided status text before after result other is (inr cut) = absurd (other cut.status_is)

-- a decidable problem ends as decided
pub decided_so : Law → (o : Options) (bytes : List ℕ) (before after : Option (List ℕ)) (m n : List ℕ) (result : ℕ) → result ≢ 6
    → EndsBy (Proves o bytes) before after m n result → IsDecidable o bytes → IsDecided result
decided_so law o bytes before after m n result other e i =
    ended_decided e.status e.text before after result other (law o bytes e.asked e.status e.text i e.due) e.ends

-- also where the options' job is a proof
pub decided_due : Law → (o : Options) (bytes : List ℕ) (before after : Option (List ℕ)) (m n : List ℕ) (result : ℕ) → o.mode ≡ Prove → result ≢ 6
    → EndsBy (IsDueFor o bytes) before after m n result → IsDecidable o bytes → IsDecided result
decided_due law o bytes before after m n result is other e i =
    ended_decided e.status e.text before after result other
    (law o bytes e.asked e.status e.text i (subst (λ (a : Mode). IsDueIn a o bytes e.asked e.status e.text) is e.due)) e.ends
