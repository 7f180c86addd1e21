-- Steps that are kept stand where the steps that they name and all that make symbols are kept.
use Rattle.std.proofs.Common.{◌≡◌, ◌<◌, ◌≤◌, ◌⊎◌, inl, inr, ℕ, zero, suc, ◌+◌, ◌-◌, Bool, true, false, ◌&&◌, List, [], ◌∷◌, ◌++◌, map, take, drop, length, sum_by, append_assoc, refl, ap, sym, ◌∙◌, subst, arith, one-add, add-one}
use Rattle.std.proofs.lemmas.List.{append-nil}
use Rattle.std.proofs.lemmas.List.Sums.{sum_by-cons}
use Rattle.std.specs.Prelude.{Option, Some, None, option_map, slice_get}
use Rattle.std.specs.Option.{option_map_or}
use Rattle.term_base.specs.declared.preparation.Prepared.{Prepared}
use Rattle.term_base.specs.TreeLemmas.{both_ways}
use Rattle.proof_steps.specs.declared.steps.Step.{Step}
use Rattle.proof_steps.specs.Closing.{clause_of, at_step}
use Rattle.proof_steps.specs.Derivations.{stands_on_earlier, is_empty_step, ends_empty, StandBelow, Derives}
use Rattle.proof_steps.specs.Standing.{step_defines, defines, step_stands}
use Rattle.proof_steps.specs.Cut.{one_where, kept_from, new_number, put_where, cut_from, cut, AllKept, KeepsNeeded}
use Rattle.proof_steps.specs.Renumbered.{cited, renumbered, SameClauses}
use Rattle.proof_steps.proofs.Renumbering.{defined_same, renumbered_stands}

-- ---- the steps that stand, one after the other

abbrev pub AllStand : Prepared → List Step → List Step → Type 0
AllStand prepared before [] = Unit {0}
AllStand prepared before (s ∷ ss) = (step_stands prepared before s ≡ true) × AllStand prepared (before ++ s ∷ []) ss

-- what is asked of the steps numbered from n
abbrev pub EachNeeded : (ℕ → Bool) → ℕ → List Step → Type 0
EachNeeded keep n [] = Unit {0}
EachNeeded keep n (s ∷ ss) = KeepsNeeded keep n s × EachNeeded keep (n + 1) ss

module _ (keep : ℕ → Bool) (new : ℕ → ℕ) where
  -- ---- numbers of kept steps

  at_cut : (b : Bool) (s : Step) (ss : List Step) (n : ℕ) → slice_get (put_where b s ss) (one_where b + n) ≡ slice_get ss n
  at_cut true s ss n = ap (slice_get (s ∷ ss)) (one-add n)
  at_cut false s ss n = ap (slice_get ss) (zero_add n)
    where
      zero_add : (k : ℕ) → 0 + k ≡ k
      zero_add k = omega arith

  first_cut : (b : Bool) (s : Step) (ss : List Step) → b ≡ true → slice_get (put_where b s ss) 0 ≡ Some s
  first_cut true s ss h = refl
  first_cut false s ss h = absurd (both_ways false h refl)

  cut_get : (ss : List Step) (n j : ℕ) → keep (n + j) ≡ true → slice_get (cut_from keep new n ss) (kept_from keep n j) ≡ option_map (renumbered new) (slice_get ss j)
  cut_get [] n j h = refl
  cut_get (s ∷ ss) n zero h =
      let same : n + 0 ≡ n = omega arith in
      first_cut (keep n) (renumbered new s) (cut_from keep new (n + 1) ss) (sym (ap keep same) ∙ h)
  cut_get (s ∷ ss) n (suc j) h =
      let same : n + suc j ≡ (n + 1) + j = omega arith in
      at_cut (keep n) (renumbered new s) (cut_from keep new (n + 1) ss) (kept_from keep (n + 1) j)
      ∙ cut_get ss (n + 1) j (sym (ap keep same) ∙ h)

  renumbered_clause : (o : Option Step) → option_map clause_of (option_map (renumbered new) o) ≡ option_map clause_of o
  renumbered_clause None = refl
  renumbered_clause (Some s) = refl

  cut_clause : (ss : List Step) (j : ℕ) → keep j ≡ true → at_step (cut_from keep new 0 ss) (kept_from keep 0 j) ≡ at_step ss j
  cut_clause ss j h =
      let same : 0 + j ≡ j = omega arith in
      ap (option_map clause_of) (cut_get ss 0 j (ap keep same ∙ h)) ∙ renumbered_clause (slice_get ss j)

  -- ---- symbols

  cut_one_defines : (prepared : Prepared) (b : Bool) (s : Step) (ss : List Step) → (b ≡ false → step_defines s ≡ 0) → defines (put_where b (renumbered new s) ss) ≡ step_defines s + defines ss
  cut_one_defines prepared true s ss h =
      sum_by-cons step_defines (renumbered new s) ss ∙ ap (λ n. n + defines ss) (defined_same prepared [] [] new s.rule)
  cut_one_defines prepared false s ss h = let none : step_defines s ≡ 0 = h refl in omega (arith, none)

  cut_defines : (prepared : Prepared) (ss : List Step) (n : ℕ) → EachNeeded keep n ss → defines (cut_from keep new n ss) ≡ defines ss
  cut_defines prepared [] n h = refl
  cut_defines prepared (s ∷ ss) n h =
      cut_one_defines prepared (keep n) s (cut_from keep new (n + 1) ss) h.0.symbols
      ∙ ap (λ m. step_defines s + m) (cut_defines prepared ss (n + 1) h.1)
      ∙ sym (sum_by-cons step_defines s ss)

  -- ---- one list behind another

  put_append : (b : Bool) (s : Step) (xs ys : List Step) → put_where b s (xs ++ ys) ≡ put_where b s xs ++ ys
  put_append true s xs ys = refl
  put_append false s xs ys = refl

  cut_append : (xs ys : List Step) (n : ℕ) → cut_from keep new n (xs ++ ys) ≡ cut_from keep new n xs ++ cut_from keep new (n + length xs) ys
  cut_append [] ys n = let same : n ≡ n + 0 = omega arith in ap (λ k. cut_from keep new k ys) same
  cut_append (x ∷ xs) ys n =
      let same : (n + 1) + length xs ≡ n + suc (length xs) = omega arith in
      ap (put_where (keep n) (renumbered new x)) (cut_append xs ys (n + 1) ∙ ap (λ k. cut_from keep new (n + 1) xs ++ cut_from keep new k ys) same)
      ∙ put_append (keep n) (renumbered new x) (cut_from keep new (n + 1) xs) (cut_from keep new (n + suc (length xs)) ys)

  needed_append : (xs ys : List Step) (n : ℕ) → EachNeeded keep n xs → EachNeeded keep (n + length xs) ys → EachNeeded keep n (xs ++ ys)
  needed_append [] ys n h k = let same : n + 0 ≡ n = omega arith in subst (λ m. EachNeeded keep m ys) same k
  needed_append (x ∷ xs) ys n h k =
      let same : n + suc (length xs) ≡ (n + 1) + length xs = omega arith in
      (h.0, needed_append xs ys (n + 1) h.1 (subst (λ m. EachNeeded keep m ys) same k))

module _ (prepared : Prepared) (keep : ℕ → Bool) where
  abbrev new : ℕ → ℕ
  new = new_number keep

  same_clauses : (before : List Step) (ks : List ℕ) → AllKept keep ks → SameClauses before (cut keep before) new ks
  same_clauses before [] h = tt
  same_clauses before (k ∷ ks) h = (cut_clause keep new before k h.0, same_clauses before ks h.1)

  -- the kept step stands on the kept ones before it
  kept_stands : (before : List Step) (s : Step) → EachNeeded keep 0 before → KeepsNeeded keep (length before) s → keep (length before) ≡ true → step_stands prepared before s ≡ true
      → step_stands prepared (cut keep before) (renumbered new s) ≡ true
  kept_stands before s each h kept stands =
      renumbered_stands prepared before (cut keep before) new s (cut_defines keep new prepared before 0 each) (same_clauses before (cited s.rule) (h.needed kept)) ∙ stands

  one_more : (before : List Step) (s : Step) (b : Bool) → keep (length before) ≡ b → cut keep (before ++ s ∷ []) ≡ cut keep before ++ put_where b (renumbered new s) []
  one_more before s b is =
      let same : 0 + length before ≡ length before = omega arith in
      cut_append keep new before (s ∷ []) 0
      ∙ ap (λ n. cut keep before ++ cut_from keep new n (s ∷ [])) same
      ∙ ap (λ z. cut keep before ++ put_where z (renumbered new s) []) is

  longer : (before : List Step) (s : Step) → length (before ++ s ∷ []) ≡ length before + 1
  longer before s = Rattle.std.proofs.Common.length-append before (s ∷ [])

  abbrev Rest : List Step → Step → List Step → Type 0
  Rest before s ss = AllStand prepared (cut keep (before ++ s ∷ [])) (cut_from keep new (length before + 1) ss)

  by_choice : (before : List Step) (s : Step) (ss : List Step) → EachNeeded keep 0 before → KeepsNeeded keep (length before) s → step_stands prepared before s ≡ true → Rest before s ss
      → (b : Bool) → keep (length before) ≡ b
      → AllStand prepared (cut keep before) (put_where b (renumbered new s) (cut_from keep new (length before + 1) ss))
  by_choice before s ss each h stands rest true is =
      (kept_stands before s each h is stands, subst (λ z. AllStand prepared z (cut_from keep new (length before + 1) ss)) (one_more before s true is) rest)
  by_choice before s ss each h stands rest false is =
      subst (λ z. AllStand prepared z (cut_from keep new (length before + 1) ss)) (one_more before s false is ∙ append-nil (cut keep before)) rest

  one_needed : (before : List Step) (s : Step) → EachNeeded keep 0 before → KeepsNeeded keep (length before) s → EachNeeded keep 0 (before ++ s ∷ [])
  one_needed before s each h =
      let same : 0 + length before ≡ length before = omega arith in
      needed_append keep new before (s ∷ []) 0 each (subst (λ n. EachNeeded keep n (s ∷ [])) (sym same) (h, tt))

  pub all_stand_cut : (before ss : List Step) → EachNeeded keep 0 before → EachNeeded keep (length before) ss → AllStand prepared before ss
      → AllStand prepared (cut keep before) (cut_from keep new (length before) ss)
  all_stand_cut before [] each h stand = tt
  all_stand_cut before (s ∷ ss) each h stand =
      by_choice before s ss each h.0 stand.0
      (subst (λ n. AllStand prepared (cut keep (before ++ s ∷ [])) (cut_from keep new n ss)) (longer before s)
      (all_stand_cut (before ++ s ∷ []) ss (one_needed before s each h.0) (subst (λ n. EachNeeded keep n ss) (sym (longer before s)) h.1) stand.1))
      (keep (length before)) refl

-- ---- steps that stand, by number

split_get : (before : List Step) (s : Step) (ss : List Step) → slice_get (before ++ s ∷ ss) (length before) ≡ Some s
split_get [] s ss = refl
split_get (x ∷ xs) s ss = split_get xs s ss

split_take : (before rest : List Step) → take (length before) (before ++ rest) ≡ before
split_take [] [] = refl
split_take [] (s ∷ ss) = refl
split_take (x ∷ xs) rest = ap (λ zs. x ∷ zs) (split_take xs rest)

module _ (prepared : Prepared) where
  here_stands : (before : List Step) (s : Step) (ss : List Step) → stands_on_earlier prepared (before ++ s ∷ ss) (length before) ≡ step_stands prepared before s
  here_stands before s ss =
      ap (λ o. option_map_or (step_stands prepared (take (length before) (before ++ s ∷ ss))) o false) (split_get before s ss)
      ∙ ap (λ z. step_stands prepared z s) (split_take before (s ∷ ss))

  pub from_numbers : (before ss : List Step) → StandBelow prepared (before ++ ss) (length (before ++ ss)) → AllStand prepared before ss
  from_numbers before [] h = tt
  from_numbers before (s ∷ ss) h =
      let long : length (before ++ s ∷ ss) ≡ length before + suc (length ss) = Rattle.std.proofs.Common.length-append before (s ∷ ss) in (
        sym (here_stands before s ss) ∙ h (length before) (omega (arith, long)),
        from_numbers (before ++ s ∷ []) ss (subst (λ z. StandBelow prepared z (length z)) (sym (append_assoc before (s ∷ []) ss)) h),
      )

  pub to_numbers : (before ss : List Step) → AllStand prepared before ss → (k : ℕ) → length before ≤ k → k < length (before ++ ss) → stands_on_earlier prepared (before ++ ss) k ≡ true
  to_numbers before [] h k low high = let e = ap length (append-nil before) in absurd (omega (arith, e, low, high))
  to_numbers before (s ∷ ss) h k low high = elim (Rattle.std.proofs.lemmas.Bool.cases_lt (length before) k) [
    | inl less ↦ (
        let long : length (before ++ s ∷ []) ≡ length before + 1 = Rattle.std.proofs.Common.length-append before (s ∷ []) in
        let same = append_assoc before (s ∷ []) ss in
        subst (λ z. stands_on_earlier prepared z k ≡ true) same
        (to_numbers (before ++ s ∷ []) ss h.1 k (omega (arith, long, less)) (subst (λ (z : List Step). k < length z) (sym same) high)))
    | inr past ↦ (
        let here : length before ≡ k = omega (arith, low, past) in
        subst (λ n. stands_on_earlier prepared (before ++ s ∷ ss) n ≡ true) here (here_stands before s ss ∙ h.0))
  ]

  by_number : (keep : ℕ → Bool) (ss : List Step) (n : ℕ) → ((j : ℕ) (s : Step) → slice_get ss j ≡ Some s → KeepsNeeded keep (n + j) s) → EachNeeded keep n ss
  by_number keep [] n h = tt
  by_number keep (s ∷ ss) n h =
      let same : n + 0 ≡ n = omega arith in (
        subst (λ k. KeepsNeeded keep k s) same (h 0 s refl),
        by_number keep ss (n + 1) (λ j t e.
            let more : n + suc j ≡ (n + 1) + j = omega arith in subst (λ k. KeepsNeeded keep k t) more (h (suc j) t e)),
      )

  pub cut_stands : (keep : ℕ → Bool) (steps : List Step) → StandBelow prepared steps (length steps)
      → ((n : ℕ) (s : Step) → slice_get steps n ≡ Some s → KeepsNeeded keep n s) → StandBelow prepared (cut keep steps) (length (cut keep steps))
  cut_stands keep steps h needed k below =
      let each = by_number keep steps 0 (λ j s e. let same : j ≡ 0 + j = omega arith in subst (λ n. KeepsNeeded keep n s) same (needed j s e)) in
      to_numbers [] (cut keep steps) (all_stand_cut prepared keep [] steps tt each (from_numbers [] steps h)) k (omega arith) below

  -- ---- the last step

  last_of : (xs : List Step) (s : Step) → ends_empty (xs ++ s ∷ []) ≡ is_empty_step s
  last_of xs s =
      let long : length (xs ++ s ∷ []) ≡ length xs + 1 = Rattle.std.proofs.Common.length-append xs (s ∷ []) in
      let at : length (xs ++ s ∷ []) - 1 ≡ length xs = omega (arith, long) in
      ap (λ n. option_map_or is_empty_step (slice_get (xs ++ s ∷ []) n) false) at
      ∙ ap (λ o. option_map_or is_empty_step o false) (split_get xs s [])

  pub cut_derives : (keep : ℕ → Bool) (before : List Step) (s : Step) → StandBelow prepared (before ++ s ∷ []) (length (before ++ s ∷ []))
      → ((n : ℕ) (t : Step) → slice_get (before ++ s ∷ []) n ≡ Some t → KeepsNeeded keep n t) → keep (length before) ≡ true → is_empty_step s ≡ true
      → Derives prepared (cut keep (before ++ s ∷ []))
  cut_derives keep before s h needed kept empty = record {
    stand = cut_stands keep (before ++ s ∷ []) h needed;
    empty = ap ends_empty (one_more prepared keep before s true kept) ∙ last_of (cut keep before) (renumbered (new_number keep) s) ∙ empty;
  }
