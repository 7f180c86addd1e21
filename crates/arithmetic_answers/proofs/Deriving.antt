-- The derivations that answers are given by derive falsehood.
use Rattle.std.proofs.Common.{◌≡◌, ◌<◌, ◌+◌, ◌-◌, ◌∙◌, ℕ, zero, suc, true, false, List, [], ◌∷◌, ◌++◌, length, map, take, Option, Some, refl, sym, ap, ap₂, subst, arith, cond, append_assoc, append-nil}
use Rattle.std.specs.Prelude.{Bool, Option, is_none, option_map, slice_get}
use Rattle.std.proofs.lemmas.List.{length-map, map-append}
use Rattle.std.proofs.lemmas.List.Sums.{sum_by-append}
use Rattle.std.specs.Option.{option_map_or}
use Rattle.std.proofs.Math.Seq.{take-append_seam}
use Rattle.std.proofs.lemmas.Bool.{and_from, and_parts, false≢true}
use Rattle.term_base.specs.declared.clauses.Clause.{Clause}
use Rattle.term_base.specs.declared.preparation.Prepared.{Prepared}
use Rattle.term_base.specs.declared.clauses.Literal.{Literal}
use Rattle.term_base.specs.Lits.{lit, lits}
use Rattle.term_base.specs.Clauses.{is_well_sorted}
use Rattle.term_base.specs.Known.{is_known_clause}
use Rattle.cert_tree.specs.declared.certs.Cert.{Cert}
use Rattle.proof_steps.specs.declared.steps.Step.{Step}
use Rattle.step_rules.specs.Literals.{same_lits}
use Rattle.proof_steps.specs.Closing.{and_clause, at_step, at_steps, clause_of, refutes}
use Rattle.proof_steps.specs.Standing.{defines, step_defines, input_stands, next_symbol, step_stands}
use Rattle.proof_steps.specs.Derivations.{Derives, ends_empty, is_empty_step, stands_on_earlier}
use Rattle.bg_view.specs.Background.{are_background}
use Rattle.arithmetic_answers.specs.Decisions.{Contradicts, first_empty, has_no_literal}
use Rattle.arithmetic_answers.specs.Derivations.{AreProper, close_step, empty_clause, empty_clause_derivation, input_step, input_steps, numbers, refutation, refutation_steps}
use Rattle.arithmetic_answers.proofs.SameLemmas.{lits_refl}

-- ---- lists
got : {A : Type 0} (xs : List A) (y : A) (ys : List A) → slice_get (xs ++ y ∷ ys) (length xs) ≡ Some y
got [] y ys = refl
got (x ∷ xs) y ys = got xs y ys

one_more : {A : Type 0} (xs : List A) (y : A) → length (xs ++ y ∷ []) ≡ suc (length xs)
one_more [] y = refl
one_more (x ∷ xs) y = ap suc (one_more xs y)

moved : {A : Type 0} (xs : List A) (y : A) (ys : List A) → xs ++ y ∷ ys ≡ (xs ++ y ∷ []) ++ ys
moved xs y ys = sym (append_assoc xs (y ∷ []) ys)

module _ (p : Prepared) where
  -- ---- steps that stand one after the other
  abbrev AllStand : List Step → List Step → Type 0
  AllStand done [] = Unit {0}
  AllStand done (s ∷ rest) = (step_stands p done s ≡ true) × AllStand (done ++ s ∷ []) rest

  at_seam : (done : List Step) (s : Step) (rest : List Step) → stands_on_earlier p (done ++ s ∷ rest) (length done) ≡ step_stands p done s
  at_seam done s rest =
      ap (λ (o : Option Step). option_map_or (step_stands p (take (length done) (done ++ s ∷ rest))) o false) (got done s rest)
      ∙ ap (λ (l : List Step). step_stands p l s) (take-append_seam done (s ∷ rest))

  all_stand : (done rest : List Step) → AllStand done rest → (k : ℕ) → k < length rest
      → stands_on_earlier p (done ++ rest) (length done + k) ≡ true
  all_stand done [] h k l = absurd (omega (arith, l))
  all_stand done (s ∷ rest) h zero l =
      let here : length done ≡ length done + 0 = omega arith in
      subst (λ (n : ℕ). stands_on_earlier p (done ++ s ∷ rest) n ≡ true) here (at_seam done s rest ∙ h.0)
  all_stand done (s ∷ rest) h (suc k) l =
      let one : length (done ++ s ∷ []) ≡ suc (length done) = one_more done s in
      let there : length (done ++ s ∷ []) + k ≡ length done + suc k = omega (arith, one) in
      let next = all_stand (done ++ s ∷ []) rest h.1 k (omega (arith, l)) in
      subst (λ (n : ℕ). stands_on_earlier p (done ++ s ∷ rest) n ≡ true) there
      (subst (λ (t : List Step). stands_on_earlier p t (length (done ++ s ∷ []) + k) ≡ true) (sym (moved done s rest)) next)

  -- ---- clauses that are taken
  no_define : (done : List Step) (k : ℕ) (c : Clause) → defines done ≡ 0 → defines (done ++ input_step k c ∷ []) ≡ 0
  no_define done k c none = sum_by-append step_defines done (input_step k c ∷ []) ∙ ap (λ (n : ℕ). n + 0) none

  take_stands : (done : List Step) (c : Clause) → defines done ≡ 0 → slice_get p.clauses (length done) ≡ Some c
      → is_well_sorted p.symbols (lits c) ≡ true → is_known_clause (length p.symbols) (lits c) ≡ true
      → step_stands p done (input_step (length done) c) ≡ true
  take_stands done c none there sorted known =
      let room : next_symbol p done + 0 ≡ length p.symbols = omega (arith, none) in
      let is : input_stands p (length done) (lits c) ≡ true =
      ap (λ (o : Option Clause). option_map_or (λ d. same_lits (lits d) (lits c)) o false) there ∙ lits_refl (lits c) in
      and_from _ _ sorted (and_from _ _ (subst (λ (n : ℕ). is_known_clause n (lits c) ≡ true) (sym room) known) is)

  -- the clauses from one on are taken, behind steps that took those before it
  inputs_stand : (done : List Step) (cs : List Clause) (last : Step) → defines done ≡ 0 → map clause_of done ++ cs ≡ p.clauses → AreProper p cs
      → step_stands p (done ++ input_steps (length done) cs) last ≡ true → AllStand done (input_steps (length done) cs ++ last ∷ [])
  inputs_stand done [] last none all proper h = (subst (λ (l : List Step). step_stands p l last ≡ true) (append-nil done) h, tt)
  inputs_stand done (c ∷ cs) last none all proper h =
      let s : Step = input_step (length done) c in
      let sorted = and_parts _ _ proper.0 in
      let known = and_parts _ _ proper.1 in
      let place : length (map clause_of done) ≡ length done = length-map done clause_of in
      let there : slice_get p.clauses (length done) ≡ Some c =
      subst (λ (l : List Clause). slice_get l (length done) ≡ Some c) all
      (subst (λ (n : ℕ). slice_get (map clause_of done ++ c ∷ cs) n ≡ Some c) place (got (map clause_of done) c cs)) in
      let rest : map clause_of (done ++ s ∷ []) ++ cs ≡ p.clauses =
      ap (λ (l : List Clause). l ++ cs) (map-append clause_of done (s ∷ [])) ∙ (sym (moved (map clause_of done) c cs) ∙ all) in
      let one : length (done ++ s ∷ []) ≡ suc (length done) = one_more done s in
      let last_stands : step_stands p ((done ++ s ∷ []) ++ input_steps (suc (length done)) cs) last ≡ true =
      subst (λ (l : List Step). step_stands p l last ≡ true) (moved done s (input_steps (suc (length done)) cs)) h in
      let next = inputs_stand (done ++ s ∷ []) cs last (no_define done (length done) c none) rest (sorted.1, known.1)
      (subst (λ (n : ℕ). step_stands p ((done ++ s ∷ []) ++ input_steps n cs) last ≡ true) (sym one) last_stands) in (
        take_stands done c none there sorted.0 known.0,
        subst (λ (n : ℕ). AllStand (done ++ s ∷ []) (input_steps n cs ++ last ∷ [])) one next,
      )

-- ---- clauses that are closed
clauses_of_inputs : (k : ℕ) (cs : List Clause) → map clause_of (input_steps k cs) ≡ cs
clauses_of_inputs k [] = refl
clauses_of_inputs k (c ∷ cs) = ap (λ (l : List Clause). c ∷ l) (clauses_of_inputs (suc k) cs)

length_of_inputs : (k : ℕ) (cs : List Clause) → length (input_steps k cs) ≡ length cs
length_of_inputs k [] = refl
length_of_inputs k (c ∷ cs) = ap suc (length_of_inputs (suc k) cs)

all_are_there : (before steps : List Step) → at_steps (before ++ steps) (numbers (length before) (length steps)) ≡ Some (map clause_of steps)
all_are_there before [] = refl
all_are_there before (s ∷ steps) =
    let first : at_step (before ++ s ∷ steps) (length before) ≡ Some (clause_of s) = ap (option_map clause_of) (got before s steps) in
    let one : length (before ++ s ∷ []) ≡ suc (length before) = one_more before s in
    let rest : at_steps (before ++ s ∷ steps) (numbers (suc (length before)) (length steps)) ≡ Some (map clause_of steps) =
    subst (λ (n : ℕ). at_steps (before ++ s ∷ steps) (numbers n (length steps)) ≡ Some (map clause_of steps)) one
    (subst (λ (l : List Step). at_steps l (numbers (length (before ++ s ∷ [])) (length steps)) ≡ Some (map clause_of steps))
    (sym (moved before s steps)) (all_are_there (before ++ s ∷ []) steps)) in
    ap₂ and_clause first rest

close_of : (p : Prepared) (cs : List Clause) (cert : Cert) → refutes p.symbols cert cs ≡ true
    → step_stands p (input_steps 0 cs) (close_step (length cs) cert) ≡ true
close_of p cs cert h =
    let there : at_steps (input_steps 0 cs) (numbers 0 (length cs)) ≡ Some cs =
    subst (λ (n : ℕ). at_steps (input_steps 0 cs) (numbers 0 n) ≡ Some cs) (length_of_inputs 0 cs)
    (all_are_there [] (input_steps 0 cs) ∙ ap Some (clauses_of_inputs 0 cs)) in
    ap (λ (o : Option (List Clause)). option_map_or (refutes p.symbols cert) o false) there ∙ h

ends : (steps : List Step) (cert : Cert) (count : ℕ) → ends_empty (steps ++ close_step count cert ∷ []) ≡ true
ends steps cert count =
    let s : Step = close_step count cert in
    let one : length (steps ++ s ∷ []) ≡ suc (length steps) = one_more steps s in
    let last : length (steps ++ s ∷ []) - 1 ≡ length steps = omega (arith, one) in
    ap (λ (n : ℕ). option_map_or is_empty_step (slice_get (steps ++ s ∷ []) n) false) last
    ∙ ap (λ (o : Option Step). option_map_or is_empty_step o false) (got steps s [])

-- ---- derivations
closing_derives : (p : Prepared) (cert : Cert) → AreProper p p.clauses → refutes p.symbols cert p.clauses ≡ true
    → Derives p (refutation_steps p.clauses cert)
closing_derives p cert proper h = record {
  stand = λ k l.
      let zeros : 0 + k ≡ k = omega arith in
      subst (λ (n : ℕ). stands_on_earlier p (refutation_steps p.clauses cert) n ≡ true) zeros
      (all_stand p [] (refutation_steps p.clauses cert)
      (inputs_stand p [] p.clauses (close_step (length p.clauses) cert) refl refl proper (close_of p p.clauses cert h)) k l);
  empty = ends (input_steps 0 p.clauses) cert (length p.clauses);
}

-- a certificate that contradicts background clauses refutes them
contradicting_refutes : (p : Prepared) (cert : Cert) → are_background p.symbols p.clauses ≡ true → Contradicts p.clauses cert
    → refutes p.symbols cert p.clauses ≡ true
contradicting_refutes p cert background h =
    and_from _ _ background (and_from _ _ (ap is_none h.has_pool.narrow) h.stands)

pub refutation_derives : (p : Prepared) (cert : Cert) → AreProper p p.clauses → are_background p.symbols p.clauses ≡ true
    → Contradicts p.clauses cert → (ordinary : Bool) → Derives p (refutation ordinary p.clauses cert).steps
refutation_derives p cert proper background h ordinary =
    closing_derives p cert proper (contradicting_refutes p cert background h)

-- ---- an empty clause
no_literal : (c : Clause) → has_no_literal c.literals ≡ true → same_lits (lits c) [] ≡ true
no_literal c h = by c.literals h
  where
    by : (ls : List Literal) → has_no_literal ls ≡ true → same_lits (map lit ls) [] ≡ true
    by [] e = refl
    by (l ∷ ls) e = absurd (false≢true e)

abbrev IsEmptyAt : List Clause → ℕ → Type 0
IsEmptyAt cs k = option_map_or (λ d. same_lits (lits d) []) (slice_get cs k) false ≡ true

-- the first empty clause is there, and has no literal
first_is_empty : (n : ℕ) (cs : List Clause) (k : ℕ) → first_empty n cs ≡ Some k → (m : ℕ) × ((k ≡ n + m) × IsEmptyAt cs m)
first_is_empty n [] k e = absurd (cc)
first_is_empty n (c ∷ cs) k e = by (λ i. first_is_empty (suc n) cs k i) (has_no_literal c.literals) refl e
  where
    by : (first_empty (suc n) cs ≡ Some k → (m : ℕ) × ((k ≡ suc n + m) × IsEmptyAt cs m)) → (b : Bool) → has_no_literal c.literals ≡ b
        → cond {A = Option ℕ} b (Some n) (first_empty (suc n) cs) ≡ Some k → (m : ℕ) × ((k ≡ n + m) × IsEmptyAt (c ∷ cs) m)
    by later true h i =
        let here : n ≡ k = cc (i) in
        (0, (omega (arith, here), no_literal c h))
    by later false h i =
        let found = later i in
        let place = found.1.0 in
        (suc found.0, (omega (arith, place), found.1.1))

empty_stands : (p : Prepared) (k : ℕ) → first_empty 0 p.clauses ≡ Some k → step_stands p [] (input_step k empty_clause) ≡ true
empty_stands p k h =
    let found = first_is_empty 0 p.clauses k h in
    let place = found.1.0 in
    let same : found.0 ≡ k = omega (arith, place) in
    subst (IsEmptyAt p.clauses) same found.1.1

pub empty_clause_derives : (p : Prepared) (k : ℕ) → first_empty 0 p.clauses ≡ Some k → (ordinary : Bool)
    → Derives p (empty_clause_derivation ordinary k).steps
empty_clause_derives p k h ordinary = record {
  stand = λ n l.
      let zeros : 0 + n ≡ n = omega arith in
      subst (λ (m : ℕ). stands_on_earlier p (empty_clause_derivation ordinary k).steps m ≡ true) zeros
      (all_stand p [] (empty_clause_derivation ordinary k).steps (empty_stands p k h, tt) n l);
  empty = refl;
}
