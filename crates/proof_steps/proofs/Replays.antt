-- What replay finds is determined: a list that derives the empty clause has no fault, and another list has one first fault.
use Rattle.std.specs.Prelude.{◌≡◌, ◌<◌, ◌↔◌, ◌⊎◌, ◌+◌, ℕ, Bool, true, false, List, take, length, get_or, Option, Some, Result, Ok, Err, IfOk, slice_get}
use Rattle.std.specs.Option.{option_map_or}
use Rattle.std.proofs.Common.{refl, sym, ◌∙◌, ap, arith, subst, inl, inr}
use Rattle.std.proofs.lemmas.Bool.{true≢false, cases_lt}
use Rattle.std.proofs.lemmas.Option.{slice_get_read}
use Rattle.std.proofs.lemmas.List.Sums.{sum_by_more}
use Rattle.term_base.specs.declared.preparation.Prepared.{Prepared}
use Rattle.proof_steps.specs.declared.steps.Step.{Step}
use Rattle.proof_steps.specs.declared.steps.Replay.{Replay}
use Rattle.proof_steps.specs.declared.steps.Replay.TheVariants.{Verified, Refused}
use Rattle.proof_steps.specs.Standing.{defined_by, step_defines, defines, step_stands, stands_at, next_symbol}
use Rattle.proof_steps.specs.Derivations.{stands_on_earlier, StandBelow, Derives, IsFault, IsFirstFault, IsReplay}

module _ (prepared : Prepared) (steps : List Step) where
  no_fault_here : (n : ℕ) → Derives prepared steps → IsFault prepared steps n → ⊥
  no_fault_here n d (inl f) = true≢false (sym (d.stand n f.0) ∙ f.1)
  no_fault_here n d (inr f) = true≢false (sym d.empty ∙ f.1)

  no_fault : (n : ℕ) → Derives prepared steps → IsFirstFault prepared steps n → ⊥
  no_fault n d f = no_fault_here n d f.here

  within : (n : ℕ) → IsFault prepared steps n → n < length steps ⊎ (n ≡ length steps)
  within n (inl f) = inl f.0
  within n (inr f) = inr f.0

  not_below : (n m : ℕ) → StandBelow prepared steps m → IsFault prepared steps n → m < length steps ⊎ (m ≡ length steps) → n < m → ⊥
  not_below n m below (inl f) w h = true≢false (sym (below n h) ∙ f.1)
  not_below n m below (inr f) (inl w) h = absurd (omega (arith, f.0))
  not_below n m below (inr f) (inr w) h = absurd (omega (arith, f.0, w))

  one_fault : (n m : ℕ) → IsFirstFault prepared steps n → IsFirstFault prepared steps m → n ≡ m
  one_fault n m f g =
      let a : n < m → ⊥ = not_below n m g.before f.here (within m g.here) in
      let b : m < n → ⊥ = not_below m n f.before g.here (within n f.here) in
      elim (cases_lt n m) [
        | inl less ↦ absurd (a less)
        | inr past ↦ (elim (cases_lt m n) [
          | inl more ↦ absurd (b more)
          | inr back ↦ omega (arith, past, back)
        ])
      ]

  pub verified-exactly : (r : Replay) → IsReplay prepared steps r → (r ≡ Verified) ↔ Derives prepared steps
  verified-exactly Verified h = (λ e. h, λ d. refl)
  verified-exactly (Refused n) h = (λ e. absurd (cc), λ d. absurd (no_fault n d h))

  pub refused-exactly : (r : Replay) → IsReplay prepared steps r → (n : ℕ) → (r ≡ Refused n) ↔ IsFirstFault prepared steps n
  refused-exactly Verified h n = (λ e. absurd (cc), λ f. absurd (no_fault n h f))
  refused-exactly (Refused m) h n = (λ e. let same : m ≡ n = cc in subst (IsFirstFault prepared steps) same h, λ f. ap Refused (one_fault m n h f))

  pub verified : {E : Type 0} (r : Result Replay E) → IfOk r (IsReplay prepared steps) → IfOk r (λ x. (x ≡ Verified) ↔ Derives prepared steps)
  verified (Ok x) h = verified-exactly x h
  verified (Err e) h = tt

  pub refused : {E : Type 0} (r : Result Replay E) → IfOk r (IsReplay prepared steps) → IfOk r (λ x. (n : ℕ) → (x ≡ Refused n) ↔ IsFirstFault prepared steps n)
  refused (Ok x) h = refused-exactly x h
  refused (Err e) h = tt

  -- a refusal of the first fault
  pub first_fault : {E : Type 0} (r : Result Replay E) (n : ℕ) → IfOk r (λ x. x ≡ Refused n) → IsFirstFault prepared steps n → IfOk r (IsReplay prepared steps)
  first_fault (Ok x) n e f = subst (IsReplay prepared steps) (sym e) f
  first_fault (Err x) n e f = tt

  stands_where : (i n : ℕ) (s : Step) (o : Option Step) → o ≡ Some s → n ≡ next_symbol prepared (take i steps) →
      option_map_or (step_stands prepared (take i steps)) o false ≡ stands_at prepared (take i steps) n s
  stands_where i n s o e is = ap (λ p. option_map_or (step_stands prepared (take i steps)) p false) e ∙ ap (λ m. stands_at prepared (take i steps) m s) (sym is)

  -- the step of a number, with the number of symbols that are there
  pub stands-next : {E : Type 0} (r : Result Bool E) (i n : ℕ) (s : Step) → i < length steps → s ≡ get_or steps i s → n ≡ next_symbol prepared (take i steps) →
      IfOk r (λ yes. yes ≡ stands_at prepared (take i steps) n s) → IfOk r (λ yes. yes ≡ stands_on_earlier prepared steps i)
  stands-next r i n s within is next told =
      let there : slice_get steps i ≡ Some s = slice_get_read steps (length steps) i s refl within is in
      subst (λ b. IfOk r (λ yes. yes ≡ b)) (sym (stands_where i n s (slice_get steps i) there next)) told

  -- one step more stands
  pub stand-more : (i : ℕ) → StandBelow prepared steps i → stands_on_earlier prepared steps i ≡ true → StandBelow prepared steps (i + 1)
  stand-more i below here k h = elim (cases_lt k i) [
    | inl less ↦ below k less
    | inr past ↦ (
        let same : i ≡ k = omega (arith, h, past) in
        subst (λ j. stands_on_earlier prepared steps j ≡ true) same here)
  ]

-- one step more makes the symbols of its rule
pub defines-more : (steps : List Step) (i : ℕ) (s : Step) → i < length steps → s ≡ get_or steps i s → defines (take (i + 1) steps) ≡ defines (take i steps) + defined_by s.rule
defines-more steps i s h is = sum_by_more step_defines steps i s h ∙ ap (λ z. defines (take i steps) + step_defines z) (sym is)
