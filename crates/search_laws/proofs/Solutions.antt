-- Values back: facts hold where those of a child hold, at a value for its unknown.
use Rattle.std.specs.Prelude.{◌≡◌, ℕ, zero, suc, ◌||◌, ◌⊎◌, ℤ, pos, negsuc, ◌+ℤ◌, ◌-ℤ◌, ◌*ℤ◌, neg_ℤ, ◌≤ℤ◌, ◌<ℤ◌, Bool, true, false, not, int_lt, IsTrue, List, [], ◌∷◌, ◌++◌, map, Option, Some, None}
use Rattle.std.specs.List.{list_all, filter_map, cons_option, AllByRecursion}
use Rattle.std.specs.Int.{int_min, int_rem_euclid}
use Rattle.std.proofs.Common.{refl, sym, ◌∙◌, ap, subst, arith, inl, inr}
use Rattle.std.proofs.lemmas.Int.{ints}
use Rattle.std.proofs.lemmas.Bool.{cases_Bool, and_parts, true≢false, false≢true}
use Rattle.std.proofs.Math.IntN.{*ℤ_comm}
use Rattle.lin_base.specs.declared.sums.Lin.{Lin}
use Rattle.lin_base.specs.declared.facts.Fact.{Fact}
use Rattle.lin_base.specs.declared.facts.Fact.TheVariants.{AtMostZero, Zero, Divides, NotDivides}
use Rattle.lin_base.specs.Whole.{is_same, divides, div_floor}
use Rattle.lin_base.specs.Sum.{Valuation, assigned, value, coef, occurs, without, number}
use Rattle.lin_base.specs.Fact.{holds, is_fact, is_lin}
use Rattle.lin_base.specs.Change.{replace}
use Rattle.lin_base.proofs.Ring.{divides_in, divides_out, add-mul, one_mul, le_in}
use Rattle.lin_base.proofs.Values.{value-assigned, value-number}
use Rattle.lin_base.proofs.Tightening.{floor_bounds, mul_mono}
use Rattle.lin_base.proofs.Occurring.{coef-occurring}
use Rattle.lin_base.proofs.ReplacedValues.{replace-absent}
use Rattle.cert_tree.specs.Points.{period, divides_part}
use Rattle.cert_tree.specs.Children.{with_value, lower_bound, lower_bounds, below_bound, solved_bound, far_down}
use Rattle.cert_tree.specs.Laws.{AllHold}
use Rattle.cert_tree.specs.Search.{top_of, least_of, far_value}
use Rattle.cert_tree.proofs.RowsSound.{any_replace_at, holds_without, same_out, not_zero}
use Rattle.cert_tree.proofs.Truth.{positive_from}
use Rattle.cert_tree.proofs.Least.{Periodic, still_divides, period_is}
use Rattle.cert_tree.proofs.WellFormed.{facts_proper}
use Rattle.search_laws.proofs.Choices.{option_cases}

-- ---- rounding down
pub floor_below : (z b : ℤ) → pos 0 <ℤ b → ((div_floor z b *ℤ b) ≤ℤ z) × (z <ℤ (div_floor z b *ℤ b +ℤ b))
floor_below z (pos zero) h = absurd (omega (arith, ints, h))
floor_below z (pos (suc n)) h = floor_bounds z n
floor_below z (negsuc n) h = absurd (omega (arith, ints, h))

same_quotient : (k q b : ℤ) → pos 0 <ℤ b → (q *ℤ b) ≤ℤ (k *ℤ b) → (k *ℤ b) <ℤ (q *ℤ b +ℤ b) → q ≡ k
same_quotient k q b h low high = elim (cases_Bool (int_lt q k)) [
  | inl less ↦
      let m = mul_mono (q +ℤ pos 1) k b (omega (arith, ints, h)) (omega (arith, ints, less)) in
      absurd (omega (arith, ints, m, high, add-mul q (pos 1) b, one_mul b))
  | inr le ↦ elim (cases_Bool (int_lt k q)) [
    | inl more ↦
        let m = mul_mono (k +ℤ pos 1) q b (omega (arith, ints, h)) (omega (arith, ints, more)) in
        absurd (omega (arith, ints, m, low, h, add-mul k (pos 1) b, one_mul b))
    | inr ge ↦ omega (arith, ints, le, ge)
  ]
]

-- the quotient of a multiple
floor_exact : (z b k : ℤ) → pos 0 <ℤ b → z ≡ k *ℤ b → div_floor z b ≡ k
floor_exact z b k h e =
    let bounds = floor_below z b h in
    same_quotient k (div_floor z b) b h (omega (arith, ints, bounds, e)) (omega (arith, ints, bounds, e))

-- ---- one fact with a sum put for b*p
or_last : (a b : Bool) → (a || false) ≡ (b || false) → a ≡ b
or_last true true e = refl
or_last false false e = refl
or_last true false e = absurd (true≢false e)
or_last false true e = absurd (false≢true e)

replaced_back : (w : Valuation) (p : ℕ) (b : ℤ) (s : Lin) (q : ℤ) → pos 0 <ℤ b → value w s ≡ b *ℤ q → (f : Fact) → holds w (replace p b s f) ≡ holds (assigned p q w) f
replaced_back w p b s q h e f = or_last (holds w (replace p b s f)) (holds (assigned p q w) f) (any_replace_at w p b s q h e (f ∷ []))

all_back : (w : Valuation) (p : ℕ) (b : ℤ) (s : Lin) (q : ℤ) → pos 0 <ℤ b → value w s ≡ b *ℤ q → (fs : List Fact) → AllHold w (map (replace p b s) fs) → AllHold (assigned p q w) fs
all_back w p b s q h e [] all = tt
all_back w p b s q h e (f ∷ fs) all = (sym (replaced_back w p b s q h e f) ∙ all.0, all_back w p b s q h e fs all.1)

hold_parts : (w : Valuation) (fs gs : List Fact) → AllHold w (fs ++ gs) → AllHold w fs × AllHold w gs
hold_parts w [] gs all = (tt, all)
hold_parts w (f ∷ fs) gs all = let rest = hold_parts w fs gs all.1 in ((all.0, rest.0), rest.1)

divides_value : (w : Valuation) (b : ℤ) (s : Lin) → AllHold w (divides_part b s) → divides b (value w s) ≡ true
divides_value w b s all = elim (cases_Bool (is_same b (pos 1))) [
  | inl one ↦ divides_in b (value w s) (value w s) (sym (*ℤ_comm (value w s) b ∙ ap (λ z. z *ℤ value w s) (same_out b (pos 1) one) ∙ one_mul (value w s)))
  | inr more ↦ let h : AllHold w (Divides b s ∷ []) = rw (more, divides_part) at all in h.0
]

-- the child of Solve, or one at a test point: p gets the exact quotient
pub value_back : (w : Valuation) (p : ℕ) (b : ℤ) (s : Lin) (facts : List Fact) → pos 0 <ℤ b → AllHold w (with_value p b s facts) → AllHold (assigned p (div_floor (value w s) b) w) facts
value_back w p b s facts h all =
    let parts = hold_parts w (map (replace p b s) facts) (divides_part b s) all in
    let d = divides_out b (value w s) (divides_value w b s parts.1) in
    let q : ℤ = div_floor (value w s) b in
    let exact_ : q ≡ d.0 = floor_exact (value w s) b d.0 h d.1 in
    all_back w p b s q h (d.1 ∙ ap (λ k. k *ℤ b) (sym exact_) ∙ *ℤ_comm q b) facts parts.0

-- ---- far down
-- the remainder of a number is what is above its rounded multiple
rem_split : (z : ℤ) (n : ℕ) → z -ℤ int_rem_euclid z (pos (suc n)) ≡ div_floor z (pos (suc n)) *ℤ pos (suc n)
rem_split (pos a) n = omega (arith, ints)
rem_split (negsuc a) n = omega (arith, ints)

rem_natural : (z d : ℤ) → pos 0 ≤ℤ int_rem_euclid z d
rem_natural (pos a) d = omega (arith, ints)
rem_natural (negsuc a) d = omega (arith, ints)

rem_floor : (z d : ℤ) → pos 0 <ℤ d → z -ℤ int_rem_euclid z d ≡ div_floor z d *ℤ d
rem_floor z (pos zero) h = absurd (omega (arith, ints, h))
rem_floor z (pos (suc n)) h = rem_split z n
rem_floor z (negsuc n) h = absurd (omega (arith, ints, h))

-- the least of several numbers is at most each of them
below_all : (y z : ℤ) → y ≤ℤ z → (zs : List ℤ) → AllByRecursion (λ u. z ≤ℤ u) zs → AllByRecursion (λ u. y ≤ℤ u) zs
below_all y z h [] all = tt
below_all y z h (u ∷ us) all = (omega (arith, ints, h, all.0), below_all y z h us all.1)

min_below : (a b : ℤ) → (int_min a b ≤ℤ a) × (int_min a b ≤ℤ b)
min_below a b = elim (cases_Bool (int_lt b a)) [
  | inl less ↦ rw less (omega (arith, ints, less), omega (arith, ints))
  | inr more ↦ rw more (omega (arith, ints), omega (arith, ints, more))
]

least_below : (zs : List ℤ) (y : ℤ) → least_of zs ≡ Some y → AllByRecursion (λ u. y ≤ℤ u) zs
least_below [] y h = tt
least_below (z ∷ zs) y h = elim (option_cases (least_of zs)) [
  | inl none ↦ let is : Some z ≡ Some y = rw (none, least_of) at h in let same : z ≡ y = cc in (omega (arith, ints, same), none_left zs none)
  | inr some ↦
      let is : Some (int_min z some.0) ≡ Some y = rw (some.1, least_of) at h in
      let same : int_min z some.0 ≡ y = cc in
      let m = min_below z some.0 in
      (omega (arith, ints, same, m), below_all y some.0 (omega (arith, ints, same, m)) zs (least_below zs some.0 some.1))
]
  where
    none_left : (us : List ℤ) → least_of us ≡ None → AllByRecursion (λ u. y ≤ℤ u) us
    none_left [] n = tt
    none_left (u ∷ us) n = elim (option_cases (least_of us)) [
      | inl none ↦ let bad : Some u ≡ None = rw (none, least_of) at n in absurd (cc)
      | inr some ↦ let bad : Some (int_min u some.0) ≡ None = rw (some.1, least_of) at n in absurd (cc)
    ]

pub least_none : (zs : List ℤ) → least_of zs ≡ None → zs ≡ []
least_none [] n = refl
least_none (u ∷ us) n = elim (option_cases (least_of us)) [
  | inl none ↦ let bad : Some u ≡ None = rw (none, least_of) at n in absurd (cc)
  | inr some ↦ let bad : Some (int_min u some.0) ≡ None = rw (some.1, least_of) at n in absurd (cc)
]

-- the value far down is j modulo d, and at most each of the tops
abbrev IsFar : ℤ → ℕ → List ℤ → ℤ → Type 0
IsFar d j zs z = ((k : ℤ) × (z ≡ pos j +ℤ k *ℤ d)) × AllByRecursion (λ u. z ≤ℤ u) zs

far_is : (p : ℕ) (facts : List Fact) (j : ℕ) (w : Valuation) → pos 0 <ℤ period p facts → IsFar (period p facts) j (filter_map (top_of p w) facts) (far_value p facts j w)
far_is p facts j w h = by_least (least_of (filter_map (top_of p w) facts)) refl
  where
    by_least : (o : Option ℤ) → least_of (filter_map (top_of p w) facts) ≡ o → IsFar (period p facts) j (filter_map (top_of p w) facts) (elim o [ None ↦ pos j | Some top ↦ top -ℤ int_rem_euclid (top -ℤ pos j) (period p facts) ])
    by_least None e = ((pos 0, omega (arith, ints)), subst (λ zs. AllByRecursion (λ u. pos j ≤ℤ u) zs) (sym (least_none (filter_map (top_of p w) facts) e)) tt)
    by_least (Some top) e =
        let d : ℤ = period p facts in
        let r : ℤ = int_rem_euclid (top -ℤ pos j) d in
        let f = rem_floor (top -ℤ pos j) d h in
        let n = rem_natural (top -ℤ pos j) d in
        ((div_floor (top -ℤ pos j) d, omega (arith, ints, f)), below_all (top -ℤ r) top (omega (arith, ints, n)) (filter_map (top_of p w) facts) (least_below (filter_map (top_of p w) facts) top e))

module _ (p : ℕ) (d : ℤ) (w : Valuation) (j : ℕ) (k z : ℤ) (is : z ≡ pos j +ℤ k *ℤ d) where
  at_top : (t : Lin) → pos 0 <ℤ coef p t → z ≤ℤ div_floor (neg_ℤ (value w (without p t))) (coef p t) → holds (assigned p z w) (AtMostZero t) ≡ true
  at_top t up h =
      let c : ℤ = coef p t in
      let u : ℤ = value w (without p t) in
      let bounds = floor_below (neg_ℤ u) c up in
      let m = mul_mono z (div_floor (neg_ℤ u) c) c (omega (arith, ints, up)) h in
      le_in (value (assigned p z w) t) (pos 0) (omega (arith, ints, value-assigned w p z t, bounds, m, *ℤ_comm z c))

  upper_coefficient : (t : Lin) → lower_bound p d (AtMostZero t) ≡ None → is_lin t ≡ true → occurs p t ≡ true → pos 0 <ℤ coef p t
  upper_coefficient t none lin o = elim (cases_Bool (int_lt (coef p t) (pos 0))) [
    | inl low ↦ let bad : Some (below_bound p d t) ≡ None = rw (low, lower_bound) at none in absurd (cc)
    | inr high ↦ positive_from (coef p t) high (not_zero (coef p t) (coef-occurring p t lin o))
  ]

  zero_absent : (t : Lin) → lower_bound p d (Zero t) ≡ None → is_lin t ≡ true → occurs p t ≡ false
  zero_absent t none lin = elim (cases_Bool (occurs p t)) [
    | inr absent ↦ absent
    | inl o ↦
        let nz = not_zero (coef p t) (coef-occurring p t lin o) in
        let bad : Some (solved_bound p t) ≡ None = rw (nz, lower_bound) at none in absurd (cc)
  ]

  one : pos 0 <ℤ pos 1
  one = omega (arith, ints)

  -- at j as at z
  replaced_at : (f : Fact) → holds w (replace p (pos 1) (number (pos j)) f) ≡ holds (assigned p (pos j) w) f
  replaced_at f = replaced_back w p (pos 1) (number (pos j)) (pos j) one (value-number w (pos j) ∙ sym (one_mul (pos j))) f

  divides_at : (m : ℤ) (t : Lin) → (divides m d ≡ true) ⊎ (coef p t ≡ pos 0) → divides m (value (assigned p z w) t) ≡ divides m (value (assigned p (pos j) w) t)
  divides_at m t periodic = subst (λ y. divides m (value (assigned p y w) t) ≡ divides m (value (assigned p (pos j) w) t)) (sym is) (still_divides w p d (pos j) k m t periodic)

  far_back_at_most : (t : Lin) (zs : List ℤ) → lower_bound p d (AtMostZero t) ≡ None → is_lin t ≡ true → AllByRecursion (λ u. z ≤ℤ u) (cons_option (top_of p w (AtMostZero t)) zs)
      → IsTrue (holds w (far_down p j (AtMostZero t))) → (holds (assigned p z w) (AtMostZero t) ≡ true) × AllByRecursion (λ u. z ≤ℤ u) zs
  far_back_at_most t zs none lin tops h = elim (cases_Bool (occurs p t)) [
    | inl o ↦
        let all : AllByRecursion (λ u. z ≤ℤ u) (div_floor (neg_ℤ (value w (without p t))) (coef p t) ∷ zs) = rw (o, top_of) at tops in
        (at_top t (upper_coefficient t none lin o) all.0, all.1)
    | inr absent ↦
        let all : AllByRecursion (λ u. z ≤ℤ u) zs = rw (absent, top_of) at tops in
        let here : IsTrue (holds w (AtMostZero t)) = rw (absent, far_down) at h in
        (holds_without w p z (AtMostZero t) absent ∙ here, all)
  ]

  far_back_one : (f : Fact) (zs : List ℤ) → Periodic p d f → lower_bound p d f ≡ None → is_fact f ≡ true → AllByRecursion (λ u. z ≤ℤ u) (cons_option (top_of p w f) zs)
      → IsTrue (holds w (far_down p j f)) → (holds (assigned p z w) f ≡ true) × AllByRecursion (λ u. z ≤ℤ u) zs
  far_back_one (AtMostZero t) zs periodic none fact tops h = far_back_at_most t zs none fact tops h
  far_back_one (Zero t) zs periodic none fact tops h =
      let absent = zero_absent t none fact in
      (holds_without w p z (Zero t) absent ∙ ap (holds w) (sym (replace-absent p (pos 1) (number (pos j)) (Zero t) absent)) ∙ h, tops)
  far_back_one (Divides m t) zs periodic none fact tops h = (divides_at m t periodic ∙ sym (replaced_at (Divides m t)) ∙ h, tops)
  far_back_one (NotDivides m t) zs periodic none fact tops h = (ap not (divides_at m t periodic) ∙ sym (replaced_at (NotDivides m t)) ∙ h, tops)

  far_back : (fs : List Fact) → AllByRecursion (Periodic p d) fs → AllByRecursion (λ f. lower_bound p d f ≡ None) fs → list_all is_fact fs ≡ true → AllByRecursion (λ u. z ≤ℤ u) (filter_map (top_of p w) fs)
      → AllHold w (map (far_down p j) fs) → AllHold (assigned p z w) fs
  far_back [] periodic none facts tops all = tt
  far_back (f ∷ fs) periodic none facts tops all =
      let both = and_parts (is_fact f) (list_all is_fact fs) facts in
      let here = far_back_one f (filter_map (top_of p w) fs) periodic.0 none.0 both.0 tops all.0 in
      (here.0, far_back fs periodic.1 none.1 both.1 here.1 all.1)

-- no fact is a bound
no_bound : (p : ℕ) (d : ℤ) (fs : List Fact) → filter_map (lower_bound p d) fs ≡ [] → AllByRecursion (λ f. lower_bound p d f ≡ None) fs
no_bound p d [] h = tt
no_bound p d (f ∷ fs) h = elim (option_cases (lower_bound p d f)) [
  | inl none ↦ (none, no_bound p d fs (rw none at h))
  | inr some ↦ let bad : some.0 ∷ filter_map (lower_bound p d) fs ≡ [] = rw some.1 at h in absurd (cc)
]

-- the child far down, where there is no bound
pub far_value_back : (p : ℕ) (facts : List Fact) (j : ℕ) (w : Valuation) → list_all is_fact facts ≡ true → lower_bounds p facts ≡ [] → AllHold w (map (far_down p j) facts) → AllHold (assigned p (far_value p facts j w) w) facts
far_value_back p facts j w all none holds_ =
    let d : ℤ = period p facts in
    let is = period_is p facts (facts_proper facts all) in
    let far = far_is p facts j w is.0 in
    far_back p d w j far.0.0 (far_value p facts j w) far.0.1 facts is.1 (no_bound p d facts none) all far.1 holds_
