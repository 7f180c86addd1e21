-- Least's children: facts that hold at some whole number for the parameter have a child whose facts hold.
use Rattle.std.specs.Prelude.{◌≡◌, ℕ, zero, suc, cond, ℤ, pos, negsuc, ◌+ℤ◌, ◌*ℤ◌, neg_ℤ, ◌<ℤ◌, Bool, true, false, not, ◌==◌, int_le, int_lt, List, [], ◌∷◌, map, Option, Some, None, ◌⊎◌}
use Rattle.std.specs.List.{list_all, filter_map, flat_map, cons_option, AllByRecursion}
use Rattle.std.proofs.Common.{refl, sym, ◌∙◌, ap, subst, arith, inl, inr}
use Rattle.std.proofs.lemmas.Int.{ints}
use Rattle.std.proofs.lemmas.Bool.{cond_both, cases_Bool, true≢false, eqb-true}
use Rattle.std.proofs.Math.IntN.{zero-*ℤ, *ℤ_comm}
use Rattle.lin_base.specs.declared.sums.Lin.{Lin}
use Rattle.lin_base.specs.declared.facts.Fact.{Fact}
use Rattle.lin_base.specs.declared.facts.Fact.TheVariants.{AtMostZero, Zero, Divides, NotDivides}
use Rattle.lin_base.specs.Whole.{is_zero, divides, lcm}
use Rattle.lin_base.specs.Sum.{Terms, Valuation, assigned, value, coef, occurs, without, add_number, number}
use Rattle.lin_base.specs.Fact.{holds, sum_of}
use Rattle.lin_base.specs.Steps.{multiplies}
use Rattle.lin_base.specs.Change.{replace}
use Rattle.lin_base.proofs.Ring.{is_zero_in, is_zero_out, divides_in, divides_out, neg-mul, mul-neg, mul-add, mul_assoc, one_mul, same_test, mul_cancel_zero}
use Rattle.lin_base.proofs.Values.{value-add_number, value-split, value-assigned, assigned-same, coef-absent, value-number}
use Rattle.lin_base.proofs.Truth.{holds-replace, same_holds}
use Rattle.lin_base.proofs.Divisors.{lcm-divides_left, lcm-divides_right, lcm_positive, divides-add}
use Rattle.lin_base.proofs.Tightening.{divides_trans, residue_of, natural, mul_mono}
use Rattle.cert_tree.specs.Counting.{numbers_below}
use Rattle.cert_tree.specs.Points.{solved, below, period, modulus_at, lcm_onto}
use Rattle.cert_tree.specs.Children.{Bound, with_value, lower_bound, lower_bounds, bound_children, far_down, children_by, least_children}
use Rattle.cert_tree.proofs.Truth.{Good, EachHolds, SomeHolds, is_proper, some_left, some_right, some_below, with_value_holds, solved_solves, proper_replace, positive_out}

-- ---- the period
pub lcm-both : (a b : ℤ) → pos 0 <ℤ a → pos 0 <ℤ b → (pos 0 <ℤ lcm a b) × (divides a (lcm a b) ≡ true) × (divides b (lcm a b) ≡ true)
lcm-both (pos a) (pos b) h k = (lcm_positive a b (omega (arith, ints, h)) (omega (arith, ints, k)), lcm-divides_left a b, lcm-divides_right a b)
lcm-both (negsuc a) b h k = absurd (omega (arith, ints, h))
lcm-both (pos a) (negsuc b) h k = absurd (omega (arith, ints, k))

all_divide : (d e : ℤ) (ms : List ℤ) → AllByRecursion (λ m. divides m d ≡ true) ms → divides d e ≡ true → AllByRecursion (λ m. divides m e ≡ true) ms
all_divide d e [] all h = tt
all_divide d e (m ∷ ms) all h = (divides_trans m d e all.0 h, all_divide d e ms all.1 h)

pub lcm_onto_is : (so_far : ℤ) (ms : List ℤ) → pos 0 <ℤ so_far → AllByRecursion (λ m. pos 0 <ℤ m) ms → (pos 0 <ℤ lcm_onto so_far ms) × (divides so_far (lcm_onto so_far ms) ≡ true) × AllByRecursion (λ m. divides m (lcm_onto so_far ms) ≡ true) ms
lcm_onto_is so_far [] h all = (h, divides_in so_far so_far (pos 1) (sym (one_mul so_far)), tt)
lcm_onto_is so_far (m ∷ ms) h all =
    let here = lcm-both so_far m h all.0 in
    let rest = lcm_onto_is (lcm so_far m) ms here.0 all.1 in
    let l : ℤ = lcm_onto (lcm so_far m) ms in
    (rest.0, divides_trans so_far (lcm so_far m) l here.1 rest.1, (divides_trans m (lcm so_far m) l here.2 rest.1, rest.2))

-- a modulus of a fact with q divides d
abbrev pub Periodic : ℕ → ℤ → Fact → Type 0
Periodic q d (AtMostZero t) = Unit {0}
Periodic q d (Zero t) = Unit {0}
Periodic q d (Divides m t) = (divides m d ≡ true) ⊎ (coef q t ≡ pos 0)
Periodic q d (NotDivides m t) = (divides m d ≡ true) ⊎ (coef q t ≡ pos 0)

abbrev pub EachProper : List Fact → Type 0
EachProper facts = AllByRecursion (λ f. is_proper f ≡ true) facts

pub moduli_positive : (q : ℕ) (facts : List Fact) → EachProper facts → AllByRecursion (λ m. pos 0 <ℤ m) (filter_map (modulus_at q) facts)
moduli_positive q [] all = tt
moduli_positive q (AtMostZero t ∷ fs) all = moduli_positive q fs all.1
moduli_positive q (Zero t ∷ fs) all = moduli_positive q fs all.1
moduli_positive q (Divides m t ∷ fs) all =
    cond_both (occurs q t) (Some m) None (λ o. AllByRecursion (λ n. pos 0 <ℤ n) (cons_option o (filter_map (modulus_at q) fs))) (λ _. (positive_out m all.0, moduli_positive q fs all.1)) (λ _. moduli_positive q fs all.1)
moduli_positive q (NotDivides m t ∷ fs) all =
    cond_both (occurs q t) (Some m) None (λ o. AllByRecursion (λ n. pos 0 <ℤ n) (cons_option o (filter_map (modulus_at q) fs))) (λ _. (positive_out m all.0, moduli_positive q fs all.1)) (λ _. moduli_positive q fs all.1)

each_proper : (v : Valuation) (facts : List Fact) → EachHolds v facts → EachProper facts
each_proper v [] all = tt
each_proper v (f ∷ fs) all = (all.0.1, each_proper v fs all.1)

periodic_by : (q : ℕ) (d m : ℤ) (t : Lin) (c : Bool) (rest : List ℤ) → occurs q t ≡ c → AllByRecursion (λ n. divides n d ≡ true) (cons_option (cond c (Some m) None) rest) → ((divides m d ≡ true) ⊎ (coef q t ≡ pos 0)) × AllByRecursion (λ n. divides n d ≡ true) rest
periodic_by q d m t true rest e all = (inl all.0, all.1)
periodic_by q d m t false rest e all = (inr (coef-absent q t e), all)

pub all_periodic : (q : ℕ) (d : ℤ) (facts : List Fact) → AllByRecursion (λ m. divides m d ≡ true) (filter_map (modulus_at q) facts) → AllByRecursion (Periodic q d) facts
all_periodic q d [] all = tt
all_periodic q d (AtMostZero t ∷ fs) all = (tt, all_periodic q d fs all)
all_periodic q d (Zero t ∷ fs) all = (tt, all_periodic q d fs all)
all_periodic q d (Divides m t ∷ fs) all =
    let both = periodic_by q d m t (occurs q t) (filter_map (modulus_at q) fs) refl all in (both.0, all_periodic q d fs both.1)
all_periodic q d (NotDivides m t ∷ fs) all =
    let both = periodic_by q d m t (occurs q t) (filter_map (modulus_at q) fs) refl all in (both.0, all_periodic q d fs both.1)

-- the period is positive, and each modulus of a fact with q divides it
pub period_is : (q : ℕ) (facts : List Fact) → EachProper facts → (pos 0 <ℤ period q facts) × AllByRecursion (Periodic q (period q facts)) facts
period_is q facts all =
    let is = lcm_onto_is (pos 1) (filter_map (modulus_at q) facts) (omega (arith, ints)) (moduli_positive q facts all) in
    (is.0, all_periodic q (period q facts) facts is.2)

-- ---- one fact, at z and at z + k*d
same_divides : (m x y k : ℤ) → y ≡ x +ℤ k *ℤ m → divides m y ≡ divides m x
same_divides m x y k e = same_test _ _
    (λ h. let back : y +ℤ neg_ℤ k *ℤ m ≡ x = omega (arith, ints, e, neg-mul k m) in subst (λ w. divides m w ≡ true) back (divides-add m y (neg_ℤ k) h))
    (λ h. subst (λ w. divides m w ≡ true) (sym e) (divides-add m x k h))

module _ (v : Valuation) (q : ℕ) (d : ℤ) where
  pub moved_value : (z k : ℤ) (t : Lin) → value (assigned q (z +ℤ k *ℤ d) v) t ≡ value (assigned q z v) t +ℤ coef q t *ℤ (k *ℤ d)
  moved_value z k t = omega (arith, ints, value-assigned v q (z +ℤ k *ℤ d) t, value-assigned v q z t, mul-add (coef q t) z (k *ℤ d))

  pub still_divides : (z k m : ℤ) (t : Lin) → (divides m d ≡ true) ⊎ (coef q t ≡ pos 0) → divides m (value (assigned q (z +ℤ k *ℤ d) v) t) ≡ divides m (value (assigned q z v) t)
  still_divides z k m t (inl h) =
      let e = divides_out m d h in
      let c : ℤ = coef q t in
      same_divides m _ _ (c *ℤ (k *ℤ e.0))
      (moved_value z k t ∙ ap (λ w. value (assigned q z v) t +ℤ w) (ap (λ w. c *ℤ (k *ℤ w)) e.1 ∙ ap (λ w. c *ℤ w) (sym (mul_assoc k e.0 m)) ∙ sym (mul_assoc c (k *ℤ e.0) m)))
  still_divides z k m t (inr h) =
      let same : value (assigned q (z +ℤ k *ℤ d) v) t ≡ value (assigned q z v) t = omega (arith, ints, moved_value z k t, ap (λ w. w *ℤ (k *ℤ d)) h, zero-*ℤ (k *ℤ d)) in
      ap (divides m) same

  pub still_zero : (z k : ℤ) (t : Lin) → coef q t ≡ pos 0 → value (assigned q (z +ℤ k *ℤ d) v) t ≡ value (assigned q z v) t
  still_zero z k t h = omega (arith, ints, moved_value z k t, ap (λ w. w *ℤ (k *ℤ d)) h, zero-*ℤ (k *ℤ d))

-- ---- one fact: a bound with its test point, or true at z - d too
module _ (v : Valuation) (q : ℕ) (d : ℤ) (d_positive : pos 0 <ℤ d) (z : ℤ) where
  abbrev pub at_z : Valuation
  at_z = assigned q z v

  abbrev pub at_lower : Valuation
  at_lower = assigned q (z +ℤ negsuc 0 *ℤ d) v

  -- the fact is a lower bound, and z is at its test point j
  abbrev Hit : Fact → Type 0
  Hit f = (e : Bound) × (lower_bound q d f ≡ Some e) × (j : ℕ) × (pos j <ℤ e.children) × (pos 0 <ℤ e.side.b) × (value at_z (add_number e.side.rest (pos j)) ≡ e.side.b *ℤ at_z q)

  pub moved_down : (t : Lin) → value at_lower t ≡ value at_z t +ℤ neg_ℤ (coef q t *ℤ d)
  moved_down t =
      let minus : negsuc 0 *ℤ d ≡ neg_ℤ d = neg-mul (pos 1) d ∙ ap neg_ℤ (one_mul d) in
      moved_value v q d z (negsuc 0) t ∙ ap (λ w. value at_z t +ℤ w) (ap (λ w. coef q t *ℤ w) minus ∙ mul-neg (coef q t) d)

  at_most_step : (t : Lin) (c r : Bool) → int_lt (coef q t) (pos 0) ≡ c → int_le (value at_lower t) (pos 0) ≡ r → holds at_z (AtMostZero t) ≡ true → Hit (AtMostZero t) ⊎ (holds at_lower (AtMostZero t) ≡ true)
  at_most_step t c true lt r h = inr r
  at_most_step t false false lt r h =
      let m = moved_down t in
      let up_ = mul_mono (pos 0) (coef q t) d (omega (arith, ints, d_positive)) (omega (arith, ints, lt)) in
      absurd (omega (arith, ints, m, h, r, up_, zero-*ℤ d))
  at_most_step t true false lt r h =
      let m = moved_down t in
      let j = natural (neg_ℤ (value at_z t)) (omega (arith, ints, h)) in
      let e : Bound = record { side = below q t; children = neg_ℤ (coef q t) *ℤ d; count_steps = multiplies (neg_ℤ (coef q t)) d ∷ [] } in
      let n = value-add_number at_z (without q t) (pos j.0) in
      let s = value-split at_z q t in
      inl (e, rw lt refl, j.0, omega (arith, ints, m, r, j.1, neg-mul (coef q t) d), omega (arith, ints, lt), omega (arith, ints, n, s, j.1, neg-mul (coef q t) (at_z q)))

  zero_step : (t : Lin) (c : Bool) → is_zero (coef q t) ≡ c → holds at_z (Zero t) ≡ true → Hit (Zero t) ⊎ (holds at_lower (Zero t) ≡ true)
  zero_step t true c h = inr (is_zero_in (value at_lower t) (still_zero v q d z (negsuc 0) t (is_zero_out (coef q t) c) ∙ is_zero_out (value at_z t) h))
  zero_step t false c h =
      let s = solved_solves at_z q t c (is_zero_out (value at_z t) h) in
      let n = value-add_number at_z (solved q t).rest (pos 0) in
      inl (record { side = solved q t; children = pos 1; count_steps = [] }, rw c refl, 0, omega (arith, ints), s.0, omega (arith, ints, n, s.1))

  fact_step : (f : Fact) → Periodic q d f → Good at_z f → Hit f ⊎ Good at_lower f
  fact_step (AtMostZero t) p g = elim (at_most_step t (int_lt (coef q t) (pos 0)) (int_le (value at_lower t) (pos 0)) refl refl g.0) [ inl h ↦ inl h | inr h ↦ inr (h, refl) ]
  fact_step (Zero t) p g = elim (zero_step t (is_zero (coef q t)) refl g.0) [ inl h ↦ inl h | inr h ↦ inr (h, refl) ]
  fact_step (Divides m t) p g = inr (still_divides v q d z (negsuc 0) m t p ∙ g.0, g.1)
  fact_step (NotDivides m t) p g = inr (ap not (still_divides v q d z (negsuc 0) m t p) ∙ g.0, g.1)

  module _ (facts : List Fact) (all_good : EachHolds at_z facts) where
    skip : (o : Option Bound) (es : List Bound) → SomeHolds at_z (flat_map (bound_children q facts) es) → SomeHolds at_z (flat_map (bound_children q facts) (cons_option o es))
    skip None es some = some
    skip (Some e) es some = some_right at_z (bound_children q facts e) (flat_map (bound_children q facts) es) some

    hit : (f : Fact) (es : List Bound) → Hit f → SomeHolds at_z (flat_map (bound_children q facts) (cons_option (lower_bound q d f) es))
    hit f es h =
        let e : Bound = h.0 in
        let child = with_value_holds at_z q e.side.b (add_number e.side.rest (pos h.2)) facts h.4 h.5 all_good in
        rw h.1 (some_left at_z (bound_children q facts e) (flat_map (bound_children q facts) es) (some_below at_z (λ j. with_value q e.side.b (add_number e.side.rest (pos j)) facts) e.children h.2 h.3 child))

    -- some child's facts hold at z, or all facts hold at z - d
    descend : (fs : List Fact) → AllByRecursion (Periodic q d) fs → EachHolds at_z fs → SomeHolds at_z (flat_map (bound_children q facts) (filter_map (lower_bound q d) fs)) ⊎ EachHolds at_lower fs
    descend [] p all = inr tt
    descend (f ∷ fs) p all = elim (fact_step f p.0 all.0) [
      | inl h ↦ inl (hit f (filter_map (lower_bound q d) fs) h)
      | inr good ↦ elim (descend fs p.1 all.1) [
        | inl some ↦ inl (skip (lower_bound q d f) (filter_map (lower_bound q d) fs) some)
        | inr rest ↦ inr (good, rest)
      ]
    ]

-- a Zero fact with q doesn't hold at both
module _ (v : Valuation) (q : ℕ) (d : ℤ) (d_positive : pos 0 <ℤ d) (z : ℤ) where
  both_zero : (t : Lin) → is_zero (coef q t) ≡ false → value (assigned q z v) t ≡ pos 0 → value (at_lower v q d d_positive z) t ≡ pos 0 → ⊥
  both_zero t nz h k =
      let m = moved_down v q d d_positive z t in
      let e : d *ℤ coef q t ≡ pos 0 = omega (arith, ints, m, h, k, *ℤ_comm d (coef q t)) in
      true≢false (sym (is_zero_in (coef q t) (mul_cancel_zero d (coef q t) d_positive e)) ∙ nz)

-- ---- down to a bound
module _ (v : Valuation) (q : ℕ) (facts : List Fact) (d : ℤ) (d_positive : pos 0 <ℤ d) (periodic : AllByRecursion (Periodic q d) facts) where
  -- a lower bound among the facts
  abbrev Witness : List Fact → Type 0
  Witness fs = ((t : Lin) × (int_lt (coef q t) (pos 0) ≡ true) × ((w : Valuation) → EachHolds w fs → holds w (AtMostZero t) ≡ true)) ⊎ ((t : Lin) × (is_zero (coef q t) ≡ false) × ((w : Valuation) → EachHolds w fs → holds w (Zero t) ≡ true))

  later : (f : Fact) (fs : List Fact) → Witness fs → Witness (f ∷ fs)
  later f fs (inl w) = inl (w.0, w.1, λ u all. w.2 u all.1)
  later f fs (inr w) = inr (w.0, w.1, λ u all. w.2 u all.1)

  -- or there is none
  abbrev NoBound : Fact → Type 0
  NoBound f = lower_bound q d f ≡ None

  here_or : (f : Fact) (fs : List Fact) → Witness (f ∷ fs) ⊎ NoBound f
  here_or (AtMostZero t) fs = elim (cases_Bool (int_lt (coef q t) (pos 0))) [
    | inl lt ↦ inl (inl (t, lt, λ u all. all.0.0))
    | inr ge ↦ inr (rw ge refl)
  ]
  here_or (Zero t) fs = elim (cases_Bool (is_zero (coef q t))) [
    | inl zero_coef ↦ inr (rw zero_coef refl)
    | inr nonzero ↦ inl (inr (t, nonzero, λ u all. all.0.0))
  ]
  here_or (Divides m t) fs = inr refl
  here_or (NotDivides m t) fs = inr refl

  witness_or : (fs : List Fact) → Witness fs ⊎ AllByRecursion NoBound fs
  witness_or [] = inr tt
  witness_or (f ∷ fs) = elim (here_or f fs) [
    | inl w ↦ inl w
    | inr none ↦ elim (witness_or fs) [ inl w ↦ inl (later f fs w) | inr rest ↦ inr (none, rest) ]
  ]

  no_bounds : (fs : List Fact) → AllByRecursion NoBound fs → filter_map (lower_bound q d) fs ≡ []
  no_bounds [] all = refl
  no_bounds (f ∷ fs) all = rw (all.0, no_bounds fs all.1) refl

  abbrev by_bounds : List (List Fact)
  by_bounds = flat_map (bound_children q facts) (filter_map (lower_bound q d) facts)

  abbrev Found : Type 0
  Found = (z : ℤ) × SomeHolds (assigned q z v) by_bounds

  descend_from : (t : Lin) → int_lt (coef q t) (pos 0) ≡ true → ((w : Valuation) → EachHolds w facts → holds w (AtMostZero t) ≡ true) → (n : ℕ) (z : ℤ) → EachHolds (assigned q z v) facts → neg_ℤ (value (assigned q z v) t) <ℤ pos n → Found
  descend_from t lt holds_t zero z all h = absurd (omega (arith, ints, h, holds_t (assigned q z v) all))
  descend_from t lt holds_t (suc n) z all h = elim (descend v q d d_positive z facts all facts periodic all) [
    | inl some ↦ (z, some)
    | inr next ↦
        let down_ = moved_down v q d d_positive z t in
        let less = mul_mono (coef q t) (negsuc 0) d (omega (arith, ints, d_positive)) (omega (arith, ints, lt)) in
        let minus : negsuc 0 *ℤ d ≡ neg_ℤ d = neg-mul (pos 1) d ∙ ap neg_ℤ (one_mul d) in
        descend_from t lt holds_t n (z +ℤ negsuc 0 *ℤ d) next (omega (arith, ints, h, down_, less, minus, d_positive))
  ]

  from_witness : Witness facts → (z : ℤ) → EachHolds (assigned q z v) facts → Found
  from_witness (inl w) z all =
      let n = natural (neg_ℤ (value (assigned q z v) w.0)) (omega (arith, ints, w.2 (assigned q z v) all)) in
      descend_from w.0 w.1 w.2 (suc n.0) z all (omega (arith, ints, n.1))
  from_witness (inr w) z all = elim (descend v q d d_positive z facts all facts periodic all) [
    | inl some ↦ (z, some)
    | inr next ↦ absurd (both_zero v q d d_positive z w.0 w.1 (is_zero_out _ (w.2 (assigned q z v) all)) (is_zero_out _ (w.2 (at_lower v q d d_positive z) next)))
  ]

  -- ---- far down, where there is no bound
  number_is : (i : ℕ) → value (assigned q (pos i) v) (number (pos i)) ≡ pos 1 *ℤ assigned q (pos i) v q
  number_is i = value-number (assigned q (pos i) v) (pos i) ∙ sym (one_mul (pos i)) ∙ ap (λ w. pos 1 *ℤ w) (sym (assigned-same v q (pos i)))

  put_number : (i : ℕ) (f : Fact) → holds (assigned q (pos i) v) f ≡ true → is_proper f ≡ true → Good (assigned q (pos i) v) (replace q (pos 1) (number (pos i)) f)
  put_number i f h proper =
      let one : pos 0 <ℤ pos 1 = omega (arith, ints) in
      (holds-replace (assigned q (pos i) v) q (pos 1) (number (pos i)) one (number_is i) f ∙ h, proper_replace q (pos 1) (number (pos i)) one f proper)

  zero_none : (t : Lin) (e : Bound) (c : Bool) → is_zero (coef q t) ≡ c → cond c None (Some e) ≡ None → is_zero (coef q t) ≡ true
  zero_none t e true is none = is
  zero_none t e false is none = absurd (cc)

  far_one : (i : ℕ) (k : ℤ) (f : Fact) → Periodic q d f → NoBound f → Good (assigned q (pos i +ℤ k *ℤ d) v) f → Good (assigned q (pos i) v) (far_down q i f)
  far_one i k (AtMostZero t) p none g =
      cond_both (occurs q t) (AtMostZero (number (pos 0))) (AtMostZero t) (λ u. Good (assigned q (pos i) v) u)
      (λ _. (refl, refl))
      (λ o. (subst (λ w. int_le w (pos 0) ≡ true) (still_zero v q d (pos i) k t (coef-absent q t o)) g.0, refl))
  far_one i k (Zero t) p none g =
      let c = is_zero_out (coef q t) (zero_none t (record { side = solved q t; children = pos 1; count_steps = [] }) (is_zero (coef q t)) refl none) in
      put_number i (Zero t) (subst (λ w. is_zero w ≡ true) (still_zero v q d (pos i) k t c) g.0) refl
  far_one i k (Divides m t) p none g = put_number i (Divides m t) (sym (still_divides v q d (pos i) k m t p) ∙ g.0) g.1
  far_one i k (NotDivides m t) p none g = put_number i (NotDivides m t) (sym (ap not (still_divides v q d (pos i) k m t p)) ∙ g.0) g.1

  far_all : (i : ℕ) (k : ℤ) (fs : List Fact) → AllByRecursion (Periodic q d) fs → AllByRecursion NoBound fs → EachHolds (assigned q (pos i +ℤ k *ℤ d) v) fs → EachHolds (assigned q (pos i) v) (map (far_down q i) fs)
  far_all i k [] p none all = tt
  far_all i k (f ∷ fs) p none all = (far_one i k f p.0 none.0 all.0, far_all i k fs p.1 none.1 all.1)

  far_some : (z : ℤ) → AllByRecursion NoBound facts → EachHolds (assigned q z v) facts → (i : ℕ) × SomeHolds (assigned q (pos i) v) (map (λ j. map (far_down q j) facts) (numbers_below d))
  far_some z none all =
      let r = residue_of z d d_positive in
      let e : z ≡ pos r.0 +ℤ r.1 *ℤ d = omega (arith, ints, r.3) in
      (r.0, some_below (assigned q (pos r.0) v) (λ j. map (far_down q j) facts) d r.0 r.2 (far_all r.0 r.1 facts periodic none (subst (λ y. EachHolds (assigned q y v) facts) e all)))

  -- the children by these bounds
  some_by_bounds : (w : Valuation) (es : List Bound) → SomeHolds w (flat_map (bound_children q facts) es) → SomeHolds w (children_by q facts es)
  some_by_bounds w [] some = absurd some
  some_by_bounds w (e ∷ es) some = some

-- the facts at the value that q has anyway
module _ (v : Valuation) (q : ℕ) where
  itself : (x : ℕ) → true ≡ true → v x ≡ assigned q (v q) v x
  itself x _ = cond_both (x == q) (v q) (v x) (λ z. v x ≡ z) (λ e. ap v (eqb-true x q e)) (λ _. refl)

  all_true : (ts : Terms) → list_all (λ e. true) ts ≡ true
  all_true [] = refl
  all_true (t ∷ ts) = all_true ts

  as_assigned : (facts : List Fact) → EachHolds v facts → EachHolds (assigned q (v q) v) facts
  as_assigned [] all = tt
  as_assigned (f ∷ fs) all = ((sym (same_holds (λ x. true) v (assigned q (v q) v) itself f (all_true (sum_of f).coefs)) ∙ all.0.0, all.0.1), as_assigned fs all.1)

-- facts that hold have a child of Least whose facts hold, at another value for q alone
pub least_some : (v : Valuation) (q : ℕ) (facts : List Fact) → EachHolds v facts → (z : ℤ) × SomeHolds (assigned q z v) (least_children q facts)
least_some v q facts all =
    let d : ℤ = period q facts in
    let is = period_is q facts (each_proper v facts all) in
    let periodic = is.1 in
    let here = as_assigned v q facts all in
    elim (witness_or v q facts d is.0 periodic facts) [
      | inl w ↦
          let found = from_witness v q facts d is.0 periodic w (v q) here in
          (found.0, some_by_bounds v q facts d is.0 periodic (assigned q found.0 v) (lower_bounds q facts) found.1)
      | inr none ↦
          let found = far_some v q facts d is.0 periodic (v q) none here in
          (pos found.0, rw (no_bounds v q facts d is.0 periodic facts none) found.1)
    ]
