-- A derivation that is due is verified behind the bytes of its problem.
use Rattle.std.proofs.Common.{◌≡◌, ◌≤◌, ◌∙◌, ℕ, Bool, true, false, List, ◌++◌, length, refl, sym, subst, inl, inr, arith}
use Rattle.std.specs.Prelude.{◌⊎◌, is_some, Option, Some}
use Rattle.term_base.specs.declared.preparation.Prepared.{Prepared}
use Rattle.options.specs.declared.asked.Options.{Options}
use Rattle.options.specs.declared.asked.Mode.{Mode}
use Rattle.options.specs.declared.asked.Mode.TheVariants.{Prove}
use Rattle.cert_tree.specs.declared.certs.Cert.{Cert}
use Rattle.formula_base.specs.declared.problems.Problem.{Problem}
use Rattle.formula_base.specs.Typing.{IsWellTyped}
use Rattle.tff_reader.specs.Answer.{IsProblem}
use Rattle.normal_form.specs.Clauses.{AreWellSorted, count_of, max_clauses, prepared}
use Rattle.normal_form.specs.Known.{HasKnownSymbols}
use Rattle.bg_view.specs.Background.{are_background}
use Rattle.proof_steps.specs.declared.steps.Derivation.{Derivation}
use Rattle.proof_steps.specs.Derivations.{Derives}
use Rattle.proof_text.specs.declared.kinds.Status.{Status}
use Rattle.proof_text.specs.Derivations.{Spells}
use Rattle.arithmetic_answers.specs.declared.deciding.Decision.{Decision}
use Rattle.arithmetic_answers.specs.declared.deciding.Decision.TheVariants.{EmptyClause, TooWide, Refuted, Satisfied, Unknown}
use Rattle.arithmetic_answers.specs.Decisions.{Contradicts, Decides, first_empty}
use Rattle.arithmetic_answers.specs.Derivations.{AreProper, empty_clause_derivation, refutation, szs_status}
use Rattle.arithmetic_answers.specs.Texts.{Tells}
use Rattle.proof_check.specs.Sections.{ends_line, problem_part}
use Rattle.proof_check.specs.Checks.{IsProved, IsStatusOf, is_theorem}
use Rattle.beagle_top.specs.Answer.{Ends, EndsBy, IsDueFor, IsDueIn, Proves, are_all_background, clauses_of, decided, fault, foreground, input_limit, many, read, status_of}
use Rattle.beagle_top.specs.Meaning.{IsCheckable, IsVerified, WrittenChecks}
use Rattle.beagle_top.proofs.Ending.{both_tests}
use Rattle.beagle_top.proofs.Symbols.{of_clauses}

-- ---- the word of the status
status_fits : (has_conjecture : Bool) → is_theorem (szs_status has_conjecture) ≡ has_conjecture
status_fits true = refl
status_fits false = refl

-- ---- what is known of the crates below
abbrev pub Behind : Type 0
Behind = (bytes answer : List ℕ) (p : Problem) (status : Status) (d : Derivation) → problem_part bytes ≡ bytes → ends_line bytes ≡ true
    → IsProblem bytes p → count_of p ≤ max_clauses → Spells (status, d) answer → IsStatusOf p status
    → Derives (prepared p d.ordinary) d.steps → IsProved (bytes ++ answer)

abbrev pub Typed : Type 0
Typed = (bytes : List ℕ) (p : Problem) → IsProblem bytes p → IsWellTyped p

abbrev pub Sorted : Type 0
Sorted = (p : Problem) (ordinary : Bool) → IsWellTyped p → AreWellSorted (prepared p ordinary)

abbrev pub Known : Type 0
Known = (p : Problem) (ordinary : Bool) → IsWellTyped p → HasKnownSymbols (prepared p ordinary)

abbrev pub EmptyDerives : Type 0
EmptyDerives = (p : Prepared) (k : ℕ) → first_empty 0 p.clauses ≡ Some k → (ordinary : Bool)
    → Derives p (empty_clause_derivation ordinary k).steps

abbrev pub RefutationDerives : Type 0
RefutationDerives = (p : Prepared) (cert : Cert) → AreProper p p.clauses → are_background p.symbols p.clauses ≡ true
    → Contradicts p.clauses cert → (ordinary : Bool) → Derives p (refutation ordinary p.clauses cert).steps

module _ (behind : Behind) (typed : Typed) (sorted : Sorted) (known : Known) (by_empty : EmptyDerives) (by_refutation : RefutationDerives) where
  -- ---- one problem
  module _ (o : Options) (bytes text : List ℕ) (p : Problem) (is : IsProblem bytes p) (few : count_of p ≤ max_clauses) (at : IsCheckable bytes) where
    proper : AreProper (prepared p o.ordinary) (clauses_of p o.ordinary)
    proper =
        let types = typed bytes p is in
        (sorted p o.ordinary types, of_clauses (prepared p o.ordinary).symbols (clauses_of p o.ordinary) (known p o.ordinary types))

    derivation_proves : (d : Derivation) → d.ordinary ≡ o.ordinary → Spells (szs_status (is_some p.conjecture), d) text
        → Derives (prepared p o.ordinary) d.steps → IsProved (bytes ++ text)
    derivation_proves d kind spelled derives =
        behind bytes text p (szs_status (is_some p.conjecture)) d at.no_answer at.whole_lines is few spelled (status_fits (is_some p.conjecture))
        (subst (λ (b : Bool). Derives (prepared p b) d.steps) (sym kind) derives)

    decision_proves : (d : Decision) → are_all_background (prepared p o.ordinary) ≡ true → Decides (clauses_of p o.ordinary) o.judge_steps d
        → 0 ≡ status_of d → Tells o.ordinary (is_some p.conjecture) (clauses_of p o.ordinary) d text → IsProved (bytes ++ text)
    decision_proves (EmptyClause k) all h zero t =
        derivation_proves (empty_clause_derivation o.ordinary k) refl t (by_empty (prepared p o.ordinary) k h.first o.ordinary)
    decision_proves (TooWide wide) all h zero t = absurd (omega (arith, zero))
    decision_proves (Refuted cert) all h zero t =
        let background : are_background (prepared p o.ordinary).symbols (clauses_of p o.ordinary) ≡ true =
        both_tests (prepared p o.ordinary).symbols (clauses_of p o.ordinary) proper.0 all in
        derivation_proves (refutation o.ordinary (clauses_of p o.ordinary) cert) refl t
        (by_refutation (prepared p o.ordinary) cert proper background h o.ordinary)
    decision_proves (Satisfied values) all h zero t = absurd (omega (arith, zero))
    decision_proves (Unknown why) all h zero t = absurd (omega (arith, zero))

  -- ---- bytes
  bytes_prove : (o : Options) (bytes asked text : List ℕ) → Proves o bytes asked 0 text → IsCheckable bytes → IsProved (bytes ++ text)
  bytes_prove o bytes asked text (inl long) at = let e = long.1.status_is in absurd (omega (arith, e))
  bytes_prove o bytes asked text (inr (within, fault r is refuses)) at = let e = refuses.status_is in absurd (omega (arith, e))
  bytes_prove o bytes asked text (inr (within, read p is (many over refuses))) at = let e = refuses.status_is in absurd (omega (arith, e))
  bytes_prove o bytes asked text (inr (within, read p is (foreground few other refuses))) at =
      let e = refuses.status_is in absurd (omega (arith, e))
  bytes_prove o bytes asked text (inr (within, read p is (decided d few all h q s t))) at = decision_proves o bytes text p is few at d all h s t

  pub checks : (o : Options) (bytes asked text : List ℕ) → Proves o bytes asked 0 text → IsCheckable bytes
      → length (bytes ++ text) ≤ input_limit → IsVerified (bytes ++ text)
  checks o bytes asked text due at together = record { within = together; proved = bytes_prove o bytes asked text due at }

-- ---- ends
abbrev pub Law : Type 0
Law = (o : Options) (bytes asked text : List ℕ) → Proves o bytes asked 0 text → IsCheckable bytes → length (bytes ++ text) ≤ input_limit
    → IsVerified (bytes ++ text)

taken_checks : Law → (o : Options) (bytes asked : List ℕ) (status : ℕ) (text : List ℕ) (before after : Option (List ℕ)) (result : ℕ) → result ≡ 0
    → Proves o bytes asked status text → Ends status text before after result → IsCheckable bytes → WrittenChecks bytes before after
taken_checks law o bytes asked status text before after result zero due (inl whole) at = record {
  text = text;
  taken = whole.taken;
  verified = law o bytes asked text (subst (λ (s : ℕ). Proves o bytes asked s text) (sym whole.status_is ∙ zero) due) at;
}
taken_checks law o bytes asked status text before after result zero due (inr cut) at =
    let six = cut.status_is in
    absurd (omega (arith, zero, six))

-- what is written with status 0 checks
pub written_checks : Law → (o : Options) (bytes : List ℕ) (before after : Option (List ℕ)) (m n : List ℕ) (result : ℕ) → result ≡ 0
    → EndsBy (Proves o bytes) before after m n result → IsCheckable bytes → WrittenChecks bytes before after
written_checks law o bytes before after m n result zero e at =
    taken_checks law o bytes e.asked e.status e.text before after result zero e.due e.ends at

-- also where the options' job is a proof
pub due_checks : Law → (o : Options) (bytes : List ℕ) (before after : Option (List ℕ)) (m n : List ℕ) (result : ℕ) → o.mode ≡ Prove → result ≡ 0
    → EndsBy (IsDueFor o bytes) before after m n result → IsCheckable bytes → WrittenChecks bytes before after
due_checks law o bytes before after m n result is zero e at =
    taken_checks law o bytes e.asked e.status e.text before after result zero
    (subst (λ (a : Mode). IsDueIn a o bytes e.asked e.status e.text) is e.due) e.ends at

-- a run that ends with status 0 isn't silent
pub zero_is_loud : (result : ℕ) → result ≡ 0 → (result ≡ 5) ⊎ (result ≡ 7) → ⊥
zero_is_loud result zero (inl five) = absurd (omega (arith, zero, five))
zero_is_loud result zero (inr seven) = absurd (omega (arith, zero, seven))
