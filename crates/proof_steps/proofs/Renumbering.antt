-- A step stands on its cited clauses and the number of symbols alone.
use Rattle.std.proofs.Common.{◌≡◌, ℕ, ◌+◌, Bool, false, ◌&&◌, List, [], ◌∷◌, map, length, refl, ap, ◌∙◌}
use Rattle.std.specs.Prelude.{Option}
use Rattle.std.specs.Option.{option_map_or}
use Rattle.term_base.specs.declared.clauses.Clause.{Clause}
use Rattle.term_base.specs.declared.preparation.Prepared.{Prepared}
use Rattle.term_base.specs.Clauses.{is_well_sorted}
use Rattle.term_base.specs.Known.{is_known_clause}
use Rattle.term_base.specs.Lits.{Lit, lits}
use Rattle.proof_steps.specs.declared.steps.Rule.{Rule}
use Rattle.proof_steps.specs.declared.steps.Rule.TheVariants.{Input, Superpose, Resolve, Factor, Abstract, Normal, Pin, Demodulate, Define, Close}
use Rattle.proof_steps.specs.declared.steps.Step.{Step}
use Rattle.proof_steps.specs.Closing.{at_step, and_clause, at_steps, refutes}
use Rattle.proof_steps.specs.Standing.{defined_by, defines, next_symbol, of_one, of_two, is_empty_clause, rule_is_written, rule_gives, rule_stands, stands_at, step_stands}
use Rattle.proof_steps.specs.Renumbered.{cited, renumbered_rule, renumbered, SameClauses}

module _ (prepared : Prepared) (before after : List Step) (new : ℕ → ℕ) where
  one_same : (k : ℕ) (test : Clause → Bool) → at_step after (new k) ≡ at_step before k → of_one after (new k) test ≡ of_one before k test
  one_same k test e = ap (λ o. option_map_or test o false) e

  two_same : (k l : ℕ) (test : Clause → Clause → Bool) → at_step after (new k) ≡ at_step before k → at_step after (new l) ≡ at_step before l → of_two after (new k) (new l) test ≡ of_two before k l test
  two_same k l test e f =
      one_same k (λ c. of_one after (new l) (test c)) e
      ∙ by_clause (at_step before k)
    where
      by_clause : (o : Option Clause) → option_map_or (λ c. of_one after (new l) (test c)) o false ≡ option_map_or (λ c. of_one before l (test c)) o false
      by_clause Rattle.std.specs.Prelude.None = refl
      by_clause (Rattle.std.specs.Prelude.Some c) = one_same l (test c) f

  steps_same : (ks : List ℕ) → SameClauses before after new ks → at_steps after (map new ks) ≡ at_steps before ks
  steps_same [] h = refl
  steps_same (k ∷ ks) h = ap (λ o. and_clause o (at_steps after (map new ks))) h.0 ∙ ap (and_clause (at_step before k)) (steps_same ks h.1)

  gives_same : (n : ℕ) (r : Rule) (c : List Lit) → SameClauses before after new (cited r) → rule_gives prepared after n (renumbered_rule new r) c ≡ rule_gives prepared before n r c
  gives_same n (Input k) c h = refl
  gives_same n (Superpose from literal side into place s1 s2) c h = two_same from into _ h.0 h.1.0
  gives_same n (Resolve of literal s1) c h = one_same of _ h.0
  gives_same n (Factor of first first_side second second_side s1) c h = one_same of _ h.0
  gives_same n (Abstract of) c h = one_same of _ h.0
  gives_same n (Normal of) c h = one_same of _ h.0
  gives_same n (Pin of literal) c h = one_same of _ h.0
  gives_same n (Demodulate of place by side s1) c h = two_same of by _ h.0 h.1.0
  gives_same n (Define t f) c h = refl
  gives_same n (Close of cert) c h = ap (λ o. is_empty_clause c && option_map_or (refutes prepared.symbols cert) o false) (steps_same of h)

  written_same : (n : ℕ) (r : Rule) → rule_is_written prepared.symbols n (renumbered_rule new r) ≡ rule_is_written prepared.symbols n r
  written_same n (Input k) = refl
  written_same n (Superpose from literal side into place s1 s2) = refl
  written_same n (Resolve of literal s1) = refl
  written_same n (Factor of first first_side second second_side s1) = refl
  written_same n (Abstract of) = refl
  written_same n (Normal of) = refl
  written_same n (Pin of literal) = refl
  written_same n (Demodulate of place by side s1) = refl
  written_same n (Define t f) = refl
  written_same n (Close of cert) = refl

  pub defined_same : (r : Rule) → defined_by (renumbered_rule new r) ≡ defined_by r
  defined_same (Input k) = refl
  defined_same (Superpose from literal side into place s1 s2) = refl
  defined_same (Resolve of literal s1) = refl
  defined_same (Factor of first first_side second second_side s1) = refl
  defined_same (Abstract of) = refl
  defined_same (Normal of) = refl
  defined_same (Pin of literal) = refl
  defined_same (Demodulate of place by side s1) = refl
  defined_same (Define t f) = refl
  defined_same (Close of cert) = refl

  stands_same : (n : ℕ) (s : Step) → SameClauses before after new (cited s.rule) → stands_at prepared after n (renumbered new s) ≡ stands_at prepared before n s
  stands_same n s h =
      let c = lits s.clause in
      ap (λ m. is_well_sorted prepared.symbols c && (is_known_clause (n + m) c && rule_stands prepared after n (renumbered_rule new s.rule) c)) (defined_same s.rule)
      ∙ ap (λ b. is_well_sorted prepared.symbols c && (is_known_clause (n + defined_by s.rule) c && (b && rule_gives prepared after n (renumbered_rule new s.rule) c))) (written_same n s.rule)
      ∙ ap (λ b. is_well_sorted prepared.symbols c && (is_known_clause (n + defined_by s.rule) c && (rule_is_written prepared.symbols n s.rule && b))) (gives_same n s.rule c h)

  pub renumbered_stands : (s : Step) → defines after ≡ defines before → SameClauses before after new (cited s.rule) → step_stands prepared after (renumbered new s) ≡ step_stands prepared before s
  renumbered_stands s same h =
      ap (λ m. stands_at prepared after (length prepared.symbols + m) (renumbered new s)) same
      ∙ stands_same (next_symbol prepared before) s h
