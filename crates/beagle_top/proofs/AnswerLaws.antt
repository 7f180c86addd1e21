-- What due answers say of the problem that was read.
use Rattle.std.proofs.Common.{◌≡◌, ◌∙◌, ℕ, List, [], ◌∷◌, length, sym, subst, inl, inr, arith}
use Rattle.std.specs.Prelude.{is_some}
use Rattle.std.proofs.lemmas.Bool.{false≢true}
use Rattle.options.specs.declared.asked.Options.{Options}
use Rattle.formula_base.specs.declared.problems.Problem.{Problem}
use Rattle.tff_reader.specs.declared.refusals.Refused.{Refused}
use Rattle.tff_reader.specs.Answer.{IsProblem, IsRefused}
use Rattle.normal_form.specs.Clauses.{count_of, max_clauses}
use Rattle.bg_view.specs.declared.viewing.WideAt.{WideAt}
use Rattle.arithmetic_answers.specs.Decisions.{HasWide}
use Rattle.beagle_top.specs.Answer.{IsDecidable, IsDecided, IsProof, Proves, clauses_of, decided, fault, foreground, input_limit, many, read}
use Rattle.beagle_top.specs.Meaning.{IsArithmetic, IsContradictory, IsPastMeasure, IsPastRange, IsTrueAtValues, IsWideLine}
use Rattle.beagle_top.proofs.Deciding.{measured_decides, not_both, one_is_true, two_is_unknown, two_is_wide, wide_decides, zero_contradicts}

-- ---- from a status
module _ (o : Options) (bytes asked text : List ℕ) where
  pub contradictory : Proves o bytes asked 0 text → IsContradictory o bytes
  contradictory (inl long) = let e = long.1.status_is in absurd (omega (arith, e))
  contradictory (inr (within, fault r is refuses)) = let e = refuses.status_is in absurd (omega (arith, e))
  contradictory (inr (within, read p is (many over refuses))) = let e = refuses.status_is in absurd (omega (arith, e))
  contradictory (inr (within, read p is (foreground few other refuses))) = let e = refuses.status_is in absurd (omega (arith, e))
  contradictory (inr (within, read p is (decided d few all h q s t))) = record {
    problem = p;
    arithmetic = record { within = within; read = is; few = few; background = all };
    contradictory = zero_contradicts (clauses_of p o.ordinary) o.judge_steps d h s;
  }

  pub true_at_values : Proves o bytes asked 1 text → IsTrueAtValues o bytes text
  true_at_values (inl long) = let e = long.1.status_is in absurd (omega (arith, e))
  true_at_values (inr (within, fault r is refuses)) = let e = refuses.status_is in absurd (omega (arith, e))
  true_at_values (inr (within, read p is (many over refuses))) = let e = refuses.status_is in absurd (omega (arith, e))
  true_at_values (inr (within, read p is (foreground few other refuses))) = let e = refuses.status_is in absurd (omega (arith, e))
  true_at_values (inr (within, read p is (decided d few all h q s t))) =
      let v = one_is_true o.ordinary (is_some p.conjecture) (clauses_of p o.ordinary) o.judge_steps d text h s t in record {
        problem = p;
        arithmetic = record { within = within; read = is; few = few; background = all };
        values = v.values;
        printed = v.printed;
        true_there = v.true_there;
      }

module _ (o : Options) (bytes text : List ℕ) where
  pub past_range : Proves o bytes [] 2 text → IsPastRange o bytes text
  past_range (inl long) = let e = long.1.status_is in absurd (omega (arith, e))
  past_range (inr (within, fault r is refuses)) = let e = refuses.status_is in absurd (omega (arith, e))
  past_range (inr (within, read p is (many over refuses))) = let e = refuses.status_is in absurd (omega (arith, e))
  past_range (inr (within, read p is (foreground few other refuses))) = let e = refuses.status_is in absurd (omega (arith, e))
  past_range (inr (within, read p is (decided d few all h q s t))) =
      let w = two_is_wide o.ordinary (is_some p.conjecture) (clauses_of p o.ordinary) o.judge_steps d text h s q t in record {
        problem = p;
        arithmetic = record { within = within; read = is; few = few; background = all };
        at = w.at;
        wide = w.wide;
        printed = w.printed;
      }

  pub past_measure : Proves o bytes (0 ∷ []) 2 text → IsPastMeasure o bytes text
  past_measure (inl long) = let e = long.1.status_is in absurd (omega (arith, e))
  past_measure (inr (within, fault r is refuses)) = let e = refuses.status_is in absurd (omega (arith, e))
  past_measure (inr (within, read p is (many over refuses))) = let e = refuses.status_is in absurd (omega (arith, e))
  past_measure (inr (within, read p is (foreground few other refuses))) = let e = refuses.status_is in absurd (omega (arith, e))
  past_measure (inr (within, read p is (decided d few all h q s t))) =
      let w = two_is_unknown o.ordinary (is_some p.conjecture) (clauses_of p o.ordinary) o.judge_steps d text h s q t in record {
        problem = p;
        arithmetic = record { within = within; read = is; few = few; background = all };
        why = w.why;
        past = w.past;
        printed = w.printed;
      }

-- ---- from a problem
module _ (one : (bytes : List ℕ) (p q : Problem) → IsProblem bytes p → IsProblem bytes q → p ≡ q)
    (apart : (bytes : List ℕ) (p : Problem) (r : Refused) → IsProblem bytes p → IsRefused bytes r → ⊥)
    (o : Options) (bytes asked : List ℕ) (status : ℕ) (text : List ℕ) where
  -- what is due for a problem of arithmetic alone is what its clauses decide
  of_arithmetic : (p : Problem) → IsArithmetic o bytes p → Proves o bytes asked status text → IsProof o p asked status text
  of_arithmetic p a (inl long) = absurd (not_both input_limit (length bytes) long.0 a.within)
  of_arithmetic p a (inr (within, fault r is refuses)) = absurd (apart bytes p r a.read is)
  of_arithmetic p a (inr (within, read q is due)) = subst (λ (z : Problem). IsProof o z asked status text) (one bytes q p is a.read) due

  wide_proof : (p : Problem) (at : WideAt) → IsArithmetic o bytes p → HasWide (clauses_of p o.ordinary) at → IsProof o p asked status text
      → IsWideLine at asked status text
  wide_proof p at a wide (many over refuses) = absurd (not_both max_clauses (count_of p) over a.few)
  wide_proof p at a wide (foreground few other refuses) = absurd (false≢true (sym other ∙ a.background))
  wide_proof p at a wide (decided d few all h q s t) =
      let w = wide_decides o.ordinary (is_some p.conjecture) (clauses_of p o.ordinary) o.judge_steps at d text wide h t in
      record { asked_is = q ∙ w.queries; status_is = s ∙ w.status; text_is = w.printed }

  pub wide_line_comes : (p : Problem) (at : WideAt) → Proves o bytes asked status text → IsArithmetic o bytes p
      → HasWide (clauses_of p o.ordinary) at → IsWideLine at asked status text
  wide_line_comes p at due a wide = wide_proof p at a wide (of_arithmetic p a due)

  decidable_proof : (i : IsDecidable o bytes) → IsProof o i.problem asked status text → IsDecided status
  decidable_proof i (many over refuses) = absurd (not_both max_clauses (count_of i.problem) over i.few)
  decidable_proof i (foreground few other refuses) = absurd (false≢true (sym other ∙ i.background))
  decidable_proof i (decided d few all h q s t) =
      subst IsDecided (sym s) (measured_decides (clauses_of i.problem o.ordinary) o.judge_steps d i.narrow i.bulk_within i.span_within i.depth_within h)

  pub decidable : IsDecidable o bytes → Proves o bytes asked status text → IsDecided status
  decidable i due =
      let a : IsArithmetic o bytes i.problem = record { within = i.within; read = i.read; few = i.few; background = i.background } in
      decidable_proof i (of_arithmetic i.problem a due)
