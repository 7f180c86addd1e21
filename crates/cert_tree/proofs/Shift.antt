-- The Shift theorem: for all x the clause is true exactly where all clauses of Complete are.
use Rattle.std.specs.Prelude.{◌≡◌, ℕ, zero, suc, ◌+◌, ◌<◌, cond, ℤ, pos, negsuc, ◌+ℤ◌, ◌-ℤ◌, ◌*ℤ◌, neg_ℤ, ◌≤ℤ◌, ◌<ℤ◌, Bool, true, false, not, int_le, int_lt, IsTrue, List, [], ◌∷◌, ◌++◌, map, Some, None, ◌↔◌}
use Rattle.std.specs.List.{list_any, filter_map, flat_map, cons_option, AllByRecursion}
use Rattle.std.proofs.Common.{refl, sym, ◌∙◌, ap, subst, arith, inl, inr, add-zero, zero-add}
use Rattle.std.proofs.lemmas.Int.{ints}
use Rattle.std.proofs.lemmas.Bool.{cond_both, cases_Bool, or_cases, not-true, not-false, both_ways, false≢true}
use Rattle.std.proofs.Math.IntN.{*ℤ_comm, zero-*ℤ}
use Rattle.lin_base.specs.declared.sums.Lin.{Lin}
use Rattle.lin_base.specs.declared.facts.Fact.{Fact}
use Rattle.lin_base.specs.declared.facts.Fact.TheVariants.{AtMostZero, Zero, Divides, NotDivides}
use Rattle.lin_base.specs.Whole.{is_zero, is_positive, is_same, divides}
use Rattle.lin_base.specs.Sum.{Valuation, assigned, value, coef, without, negated, add_number, number, above}
use Rattle.lin_base.specs.Fact.{holds, clause_holds}
use Rattle.lin_base.specs.Change.{replace}
use Rattle.lin_base.specs.Steps.{negated_steps}
use Rattle.lin_base.proofs.Ring.{is_zero_out, divides_in, neg-mul, mul-neg, mul-add, mul_positive, one_mul}
use Rattle.lin_base.proofs.Values.{value-assigned, value-add_number, value-negated, value-number}
use Rattle.lin_base.proofs.Tightening.{mul_mono, natural, residue_of}
use Rattle.cert_tree.specs.declared.certs.Row.{Row}
use Rattle.cert_tree.specs.declared.certs.Row.TheVariants.{Low}
use Rattle.cert_tree.specs.Counting.{count_from, numbers_below}
use Rattle.cert_tree.specs.Points.{Side, period, made_positive, not_divides_part}
use Rattle.cert_tree.specs.Rows.{row_clause, bounds_above, falls_out, stays_in}
use Rattle.cert_tree.specs.Complete.{upper, instance, instances, lows, complete_rows, complete}
use Rattle.cert_tree.proofs.Truth.{positive_out, positive_from}
use Rattle.cert_tree.proofs.Least.{Periodic, EachProper, period_is, still_zero, still_divides, moved_down}
use Rattle.cert_tree.proofs.RowsSound.{proper_inst, proper_low, inst_true, low_true, any_replace_at, or_none}

-- ---- lists of rows
all_append : (P : Row → Type 0) (xs ys : List Row) → AllByRecursion P xs → AllByRecursion P ys → AllByRecursion P (xs ++ ys)
all_append P [] ys all h = h
all_append P (x ∷ xs) ys all h = (all.0, all_append P xs ys all.1 h)

all_left : (P : Row → Type 0) (xs ys : List Row) → AllByRecursion P (xs ++ ys) → AllByRecursion P xs
all_left P [] ys all = tt
all_left P (x ∷ xs) ys all = (all.0, all_left P xs ys all.1)

all_right : (P : Row → Type 0) (xs ys : List Row) → AllByRecursion P (xs ++ ys) → AllByRecursion P ys
all_right P [] ys all = all
all_right P (x ∷ xs) ys all = all_right P xs ys all.1

all_counted : (P : Row → Type 0) (f : ℕ → Row) (i n : ℕ) → ((j : ℕ) → P (f j)) → AllByRecursion P (map f (count_from i n))
all_counted P f i zero h = tt
all_counted P f i (suc n) h = (h i, all_counted P f (suc i) n h)

all_below : (P : Row → Type 0) (f : ℕ → Row) (z : ℤ) → ((j : ℕ) → P (f j)) → AllByRecursion P (map f (numbers_below z))
all_below P f (pos n) h = all_counted P f 0 n h
all_below P f (negsuc n) h = tt

counted_at : (P : Row → Type 0) (f : ℕ → Row) (i n j : ℕ) → j < n → AllByRecursion P (map f (count_from i n)) → P (f (i + j))
counted_at P f i zero j h all = absurd (omega (arith, h))
counted_at P f i (suc n) zero h all = rw add-zero all.0
counted_at P f i (suc n) (suc j) h all =
    let same : suc i + j ≡ i + suc j = omega arith in
    rw same at (counted_at P f (suc i) n j (omega (arith, h)) all.1)

below_at : (P : Row → Type 0) (f : ℕ → Row) (z : ℤ) (j : ℕ) → pos j <ℤ z → AllByRecursion P (map f (numbers_below z)) → P (f j)
below_at P f (pos n) j h all = rw zero-add at (counted_at P f 0 n j (omega (arith, ints, h)) all)
below_at P f (negsuc n) j h all = absurd (omega (arith, ints, h))

-- ---- the literals that bound x from above
abbrev IsUpper : Side → Type 0
IsUpper e = pos 0 <ℤ e.b

-- where the sum is 0, so is b*x + u with b positive
made_by : (v : Valuation) (x : ℕ) (t : Lin) (c : Bool) → int_lt (coef x t) (pos 0) ≡ c → is_zero (coef x t) ≡ false → let e : Side = cond c (record { b = neg_ℤ (coef x t); rest = negated (without x t); steps = negated_steps t }) (record { b = coef x t; rest = without x t; steps = [] }) in (pos 0 <ℤ e.b) × ((z : ℤ) → value (assigned x z v) t ≡ pos 0 → e.b *ℤ z +ℤ value v e.rest ≡ pos 0)
made_by v x t true lt nz = (omega (arith, ints, lt), λ z h. omega (arith, ints, h, value-assigned v x z t, value-negated v (without x t), neg-mul (coef x t) z))
made_by v x t false lt nz = (positive_from (coef x t) lt nz, λ z h. omega (arith, ints, h, value-assigned v x z t))

made_value : (v : Valuation) (x : ℕ) (t : Lin) → is_zero (coef x t) ≡ false → (pos 0 <ℤ (made_positive x t).b) × ((z : ℤ) → value (assigned x z v) t ≡ pos 0 → (made_positive x t).b *ℤ z +ℤ value v (made_positive x t).rest ≡ pos 0)
made_value v x t nz = made_by v x t (int_lt (coef x t) (pos 0)) refl nz

upper_positive : (x : ℕ) (clause : List Fact) → AllByRecursion IsUpper (filter_map (upper x) clause)
upper_positive x [] = tt
upper_positive x (AtMostZero t ∷ fs) =
    cond_both (is_positive (coef x t)) (Some (record { b = coef x t; rest = without x t; steps = [] })) None (λ o. AllByRecursion IsUpper (cons_option o (filter_map (upper x) fs)))
    (λ h. (positive_out (coef x t) h, upper_positive x fs)) (λ _. upper_positive x fs)
upper_positive x (Zero t ∷ fs) =
    cond_both (is_zero (coef x t)) None (Some (made_positive x t)) (λ o. AllByRecursion IsUpper (cons_option o (filter_map (upper x) fs)))
    (λ _. upper_positive x fs) (λ nz. ((made_value (λ y. pos 0) x t nz).0, upper_positive x fs))
upper_positive x (Divides m t ∷ fs) = upper_positive x fs
upper_positive x (NotDivides m t ∷ fs) = upper_positive x fs

-- ---- false at z
AllFalse-from : (w : Valuation) (fs : List Fact) → list_any (holds w) fs ≡ false → AllByRecursion (λ f. holds w f ≡ false) fs
AllFalse-from w [] h = tt
AllFalse-from w (f ∷ fs) h = let both = or_none (holds w f) (list_any (holds w) fs) h in (both.0, AllFalse-from w fs both.1)

-- an instance whose point is z says what the clause says at z
instance_false : (v : Valuation) (x : ℕ) (clause : List Fact) (z b : ℤ) (t : Lin) → pos 0 <ℤ b → value v t ≡ b *ℤ z → list_any (holds (assigned x z v)) clause ≡ false → list_any (holds v) (not_divides_part b t ++ map (replace x b t) clause) ≡ false
instance_false v x clause z b t h e false_ =
    let divided : divides b (value v t) ≡ true = divides_in b (value v t) z (e ∙ *ℤ_comm b z) in
    cond_both (is_same b (pos 1)) [] (NotDivides b t ∷ []) (λ fs. list_any (holds v) (fs ++ map (replace x b t) clause) ≡ false)
    (λ _. any_replace_at v x b t z h e clause ∙ false_)
    (λ _. rw (divided, any_replace_at v x b t z h e clause) false_)

module _ (num : ℕ) (v : Valuation) (x : ℕ) (clause : List Fact) (proper : EachProper clause) where
  abbrev RowTrue : Row → Type 0
  RowTrue row = IsTrue (clause_holds v (row_clause clause row))

  abbrev d : ℤ
  d = period x clause

  instances_true : ((z : ℤ) → IsTrue (clause_holds (assigned x z v) clause)) → (es : List Side) → AllByRecursion IsUpper es → AllByRecursion RowTrue (flat_map (instances num x d) es)
  instances_true ok [] all = tt
  instances_true ok (e ∷ es) all =
      all_append RowTrue (instances num x d e) (flat_map (instances num x d) es)
      (all_below RowTrue (instance num x e) (e.b *ℤ d) (λ j. inst_true v clause x e.b (add_number (above e.rest) (pos j)) all.0 ok))
      (instances_true ok es all.1)

  lows_true : ((z : ℤ) → IsTrue (clause_holds (assigned x z v) clause)) → AllByRecursion RowTrue (lows num x clause)
  lows_true ok =
      cond_both (list_any (bounds_above x) clause) [] (map (λ j. Low num x (pos j)) (numbers_below d)) (AllByRecursion RowTrue) (λ _. tt)
      (λ none. all_below RowTrue (λ j. Low num x (pos j)) d (λ j. low_true v clause x (pos j) none proper ok))

  rows_true : ((z : ℤ) → IsTrue (clause_holds (assigned x z v) clause)) → AllByRecursion RowTrue (complete_rows num x clause)
  rows_true ok =
      all_append RowTrue (flat_map (instances num x d) (filter_map (upper x) clause)) (lows num x clause)
      (instances_true ok (filter_map (upper x) clause) (upper_positive x clause)) (lows_true ok)

  -- ---- and back: down from a z at which the clause is false
  module _ (rows : AllByRecursion RowTrue (complete_rows num x clause)) (d_positive : pos 0 <ℤ d) where
    uppers_true : AllByRecursion RowTrue (flat_map (instances num x d) (filter_map (upper x) clause))
    uppers_true = all_left RowTrue (flat_map (instances num x d) (filter_map (upper x) clause)) (lows num x clause) rows

    -- b*z is 1 - u + j for a j below b*d
    no_point : (z : ℤ) → list_any (holds (assigned x z v)) clause ≡ false → (e : Side) → pos 0 <ℤ e.b → AllByRecursion RowTrue (instances num x d e) → pos 0 <ℤ (e.b *ℤ z +ℤ value v e.rest) → (e.b *ℤ z +ℤ value v e.rest) ≤ℤ (e.b *ℤ d) → ⊥
    no_point z false_ e h all low high =
        let j = natural (e.b *ℤ z +ℤ value v e.rest -ℤ pos 1) (omega (arith, ints, low)) in
        let n = value-add_number v (negated e.rest) (pos 1) in
        let m = value-negated v e.rest in
        let k = value-add_number v (above e.rest) (pos j.0) in
        let is : value v (add_number (above e.rest) (pos j.0)) ≡ e.b *ℤ z = omega (arith, ints, j.1, n, m, k) in
        let row = below_at RowTrue (instance num x e) (e.b *ℤ d) j.0 (omega (arith, ints, j.1, high)) all in
        both_ways _ (instance_false v x clause z e.b (add_number (above e.rest) (pos j.0)) h is false_) row

    abbrev minus_d : ℤ → ℤ
    minus_d z = z +ℤ negsuc 0 *ℤ d

    -- the rows of the first bound, and of the others
    first_rows : (e : Side) (es : List Side) → AllByRecursion RowTrue (flat_map (instances num x d) (e ∷ es)) → AllByRecursion RowTrue (instances num x d e)
    first_rows e es all = all_left RowTrue (instances num x d e) (flat_map (instances num x d) es) all

    other_rows : (e : Side) (es : List Side) → AllByRecursion RowTrue (flat_map (instances num x d) (e ∷ es)) → AllByRecursion RowTrue (flat_map (instances num x d) es)
    other_rows e es all = all_right RowTrue (instances num x d e) (flat_map (instances num x d) es) all

    at_most_down : (z : ℤ) → list_any (holds (assigned x z v)) clause ≡ false → (t : Lin) (es : List Side) (c r : Bool) → is_positive (coef x t) ≡ c → int_le (value (assigned x (minus_d z) v) t) (pos 0) ≡ r → AllByRecursion RowTrue (flat_map (instances num x d) (cons_option (cond c (Some (record { b = coef x t; rest = without x t; steps = [] })) None) es)) → int_le (value (assigned x z v) t) (pos 0) ≡ false → (int_le (value (assigned x (minus_d z) v) t) (pos 0) ≡ false) × AllByRecursion RowTrue (flat_map (instances num x d) es)
    at_most_down z false_ t es true true gt r all h =
        let e : Side = record { b = coef x t; rest = without x t; steps = [] } in
        let s = value-assigned v x z t in
        let m = moved_down v x d d_positive z t in
        absurd (no_point z false_ e (positive_out (coef x t) gt) (first_rows e es all) (omega (arith, ints, h, s)) (omega (arith, ints, r, s, m)))
    at_most_down z false_ t es true false gt r all h = (r, other_rows (record { b = coef x t; rest = without x t; steps = [] }) es all)
    at_most_down z false_ t es false true gt r all h =
        let m = moved_down v x d d_positive z t in
        let less = mul_mono (coef x t) (pos 0) d (omega (arith, ints, d_positive)) (omega (arith, ints, gt)) in
        absurd (omega (arith, ints, m, less, zero-*ℤ d, r, h))
    at_most_down z false_ t es false false gt r all h = (r, all)

    zero_down : (z : ℤ) → list_any (holds (assigned x z v)) clause ≡ false → (t : Lin) (es : List Side) (c r : Bool) → is_zero (coef x t) ≡ c → is_zero (value (assigned x (minus_d z) v) t) ≡ r → AllByRecursion RowTrue (flat_map (instances num x d) (cons_option (cond c None (Some (made_positive x t))) es)) → is_zero (value (assigned x z v) t) ≡ false → (is_zero (value (assigned x (minus_d z) v) t) ≡ false) × AllByRecursion RowTrue (flat_map (instances num x d) es)
    zero_down z false_ t es true r nz e all h = (ap is_zero (still_zero v x d z (negsuc 0) t (is_zero_out (coef x t) nz)) ∙ h, all)
    zero_down z false_ t es false false nz e all h = (e, other_rows (made_positive x t) es all)
    zero_down z false_ t es false true nz e all h =
        let made = made_value v x t nz in
        let b : ℤ = (made_positive x t).b in
        let at_ = made.1 (minus_d z) (is_zero_out (value (assigned x (minus_d z) v) t) e) in
        let minus : negsuc 0 *ℤ d ≡ neg_ℤ d = neg-mul (pos 1) d ∙ ap neg_ℤ (one_mul d) in
        let split_ : b *ℤ minus_d z ≡ b *ℤ z +ℤ neg_ℤ (b *ℤ d) = mul-add b z (negsuc 0 *ℤ d) ∙ ap (λ w. b *ℤ z +ℤ w) (ap (λ w. b *ℤ w) minus ∙ mul-neg b d) in
        let positive = mul_positive b d made.0 d_positive in
        absurd (no_point z false_ (made_positive x t) made.0 (first_rows (made_positive x t) es all) (omega (arith, ints, at_, split_, positive)) (omega (arith, ints, at_, split_)))

    one_down : (z : ℤ) → list_any (holds (assigned x z v)) clause ≡ false → (f : Fact) (es : List Side) → Periodic x d f → AllByRecursion RowTrue (flat_map (instances num x d) (cons_option (upper x f) es)) → holds (assigned x z v) f ≡ false → (holds (assigned x (minus_d z) v) f ≡ false) × AllByRecursion RowTrue (flat_map (instances num x d) es)
    one_down z false_ (AtMostZero t) es p all h = at_most_down z false_ t es (is_positive (coef x t)) (int_le (value (assigned x (minus_d z) v) t) (pos 0)) refl refl all h
    one_down z false_ (Zero t) es p all h = zero_down z false_ t es (is_zero (coef x t)) (is_zero (value (assigned x (minus_d z) v) t)) refl refl all h
    one_down z false_ (Divides m t) es p all h = (still_divides v x d z (negsuc 0) m t p ∙ h, all)
    one_down z false_ (NotDivides m t) es p all h = (ap not (still_divides v x d z (negsuc 0) m t p) ∙ h, all)

    all_down : (z : ℤ) → list_any (holds (assigned x z v)) clause ≡ false → (fs : List Fact) → AllByRecursion (Periodic x d) fs → AllByRecursion RowTrue (flat_map (instances num x d) (filter_map (upper x) fs)) → list_any (holds (assigned x z v)) fs ≡ false → list_any (holds (assigned x (minus_d z) v)) fs ≡ false
    all_down z false_ [] p all h = refl
    all_down z false_ (f ∷ fs) p all h =
        let both = or_none (holds (assigned x z v) f) (list_any (holds (assigned x z v)) fs) h in
        let one = one_down z false_ f (filter_map (upper x) fs) p.0 all both.0 in
        rw (one.0, all_down z false_ fs p.1 one.1 both.1) refl

    -- ---- a literal that bounds x from above ends the way down
    bound_in : (fs : List Fact) → list_any (bounds_above x) fs ≡ true → (t : Lin) × (is_positive (coef x t) ≡ true) × ((w : Valuation) → list_any (holds w) fs ≡ false → holds w (AtMostZero t) ≡ false)
    bound_in [] h = absurd (false≢true h)
    bound_in (f ∷ fs) h = elim (or_cases (bounds_above x f) (list_any (bounds_above x) fs) h) [
      | inl here ↦ bound_here f fs here
      | inr more ↦
          let rest = bound_in fs more in
          (rest.0, rest.1, λ w e. rest.2 w (or_none (holds w f) (list_any (holds w) fs) e).1)
    ]
      where
        bound_here : (f : Fact) (fs : List Fact) → bounds_above x f ≡ true → (t : Lin) × (is_positive (coef x t) ≡ true) × ((w : Valuation) → list_any (holds w) (f ∷ fs) ≡ false → holds w (AtMostZero t) ≡ false)
        bound_here (AtMostZero t) fs h = (t, h, λ w e. (or_none (holds w (AtMostZero t)) (list_any (holds w) fs) e).0)
        bound_here (Zero t) fs h = absurd (false≢true h)
        bound_here (Divides m t) fs h = absurd (false≢true h)
        bound_here (NotDivides m t) fs h = absurd (false≢true h)

    module _ (periodic : AllByRecursion (Periodic x d) clause) where
      never_false : (t : Lin) → is_positive (coef x t) ≡ true → ((w : Valuation) → list_any (holds w) clause ≡ false → holds w (AtMostZero t) ≡ false) → (n : ℕ) (z : ℤ) → list_any (holds (assigned x z v)) clause ≡ false → value (assigned x z v) t ≤ℤ pos n → ⊥
      never_false t gt ends zero z false_ h = omega (arith, ints, h, ends (assigned x z v) false_)
      never_false t gt ends (suc n) z false_ h =
          let m = moved_down v x d d_positive z t in
          let less = mul_mono (pos 1) (coef x t) d (omega (arith, ints, d_positive)) (omega (arith, ints, gt)) in
          never_false t gt ends n (minus_d z) (all_down z false_ clause periodic uppers_true false_) (omega (arith, ints, h, m, less, one_mul d, d_positive))

      -- what stays is as false at j as at j + k*d
      stay_false : (j k : ℤ) (f : Fact) → Periodic x d f → not (falls_out x f) ≡ true → holds (assigned x (j +ℤ k *ℤ d) v) f ≡ false → holds (assigned x j v) f ≡ false
      stay_false j k (AtMostZero t) p s h = ap (λ w. int_le w (pos 0)) (sym (still_zero v x d j k t (is_zero_out (coef x t) (not-false _ (not-true _ s))))) ∙ h
      stay_false j k (Zero t) p s h = ap is_zero (sym (still_zero v x d j k t (is_zero_out (coef x t) (not-false _ (not-true _ s))))) ∙ h
      stay_false j k (Divides m t) p s h = sym (still_divides v x d j k m t p) ∙ h
      stay_false j k (NotDivides m t) p s h = sym (ap not (still_divides v x d j k m t p)) ∙ h

      stays_false : (j k : ℤ) (fs : List Fact) → AllByRecursion (Periodic x d) fs → list_any (holds (assigned x (j +ℤ k *ℤ d) v)) fs ≡ false → list_any (holds (assigned x j v)) (stays_in x fs) ≡ false
      stays_false j k [] p h = refl
      stays_false j k (f ∷ fs) p h =
          let both = or_none (holds (assigned x (j +ℤ k *ℤ d) v) f) (list_any (holds (assigned x (j +ℤ k *ℤ d) v)) fs) h in
          cond_both (not (falls_out x f)) (f ∷ stays_in x fs) (stays_in x fs) (λ gs. list_any (holds (assigned x j v)) gs ≡ false)
          (λ s. rw (stay_false j k f p.0 s both.0, stays_false j k fs p.1 both.1) refl) (λ _. stays_false j k fs p.1 both.1)

      -- without one a Low row has the last word
      low_false : (z : ℤ) → list_any (bounds_above x) clause ≡ false → list_any (holds (assigned x z v)) clause ≡ false → ⊥
      low_false z none false_ =
          let r = residue_of z d d_positive in
          let e : z ≡ pos r.0 +ℤ r.1 *ℤ d = omega (arith, ints, r.3) in
          let all = all_right RowTrue (flat_map (instances num x d) (filter_map (upper x) clause)) (lows num x clause) rows in
          let low = below_at RowTrue (λ j. Low num x (pos j)) d r.0 r.2 (rw none at all) in
          let one : pos 0 <ℤ pos 1 = omega (arith, ints) in
          let same = any_replace_at v x (pos 1) (number (pos r.0)) (pos r.0) one (value-number v (pos r.0) ∙ sym (one_mul (pos r.0))) (stays_in x clause) in
          both_ways _ (stays_false (pos r.0) r.1 clause periodic (subst (λ y. list_any (holds (assigned x y v)) clause ≡ false) e false_)) (sym same ∙ low)

      clause_true : (z : ℤ) → IsTrue (clause_holds (assigned x z v) clause)
      clause_true z = elim (cases_Bool (list_any (holds (assigned x z v)) clause)) [
        | inl h ↦ h
        | inr false_ ↦ absurd (elim (cases_Bool (list_any (bounds_above x) clause)) [
          | inl some ↦
              let b = bound_in clause some in
              let n = natural (value (assigned x z v) b.0) (omega (arith, ints, b.2 (assigned x z v) false_)) in
              never_false b.0 b.1 b.2 n.0 z false_ (omega (arith, ints, n.1))
          | inr none ↦ low_false z none false_
        ])
      ]

-- by the rows on a clause of any number
pub rows_shift : (n : ℕ) (clause : List Fact) (x : ℕ) (v : Valuation) → EachProper clause → ((z : ℤ) → IsTrue (clause_holds (assigned x z v) clause)) ↔ AllByRecursion (λ row. IsTrue (clause_holds v (row_clause clause row))) (complete_rows n x clause)
rows_shift n clause x v proper =
    let is = period_is x clause proper in
    ((λ ok. rows_true n v x clause proper ok), (λ all. clause_true n v x clause proper all is.0 is.1))

all_mapped : (v : Valuation) (clause : List Fact) (rows : List Row) → AllByRecursion (λ c. IsTrue (clause_holds v c)) (map (row_clause clause) rows) ↔ AllByRecursion (λ row. IsTrue (clause_holds v (row_clause clause row))) rows
all_mapped v clause [] = ((λ h. tt), (λ h. tt))
all_mapped v clause (r ∷ rs) = ((λ h. (h.0, (all_mapped v clause rs).0 h.1)), (λ h. (h.0, (all_mapped v clause rs).1 h.1)))

-- **The Shift theorem.** Moduli are at least 1.
pub complete_shift : (clause : List Fact) (x : ℕ) (v : Valuation) → EachProper clause → ((z : ℤ) → IsTrue (clause_holds (assigned x z v) clause)) ↔ AllByRecursion (λ c. IsTrue (clause_holds v c)) (complete x clause)
complete_shift clause x v proper =
    let rows = rows_shift 0 clause x v proper in
    ((λ ok. (all_mapped v clause (complete_rows 0 x clause)).1 (rows.0 ok)), (λ all. rows.1 ((all_mapped v clause (complete_rows 0 x clause)).0 all)))

-- the rows keep the moduli
rows_proper_at : (x : ℕ) (clause : List Fact) → EachProper clause → (d : ℤ) (n : ℕ) (es : List Side) → AllByRecursion IsUpper es → AllByRecursion (λ row. EachProper (row_clause clause row)) (flat_map (instances n x d) es)
rows_proper_at x clause proper d n [] all = tt
rows_proper_at x clause proper d n (e ∷ es) all =
    let P : Row → Type 0 = λ row. EachProper (row_clause clause row) in
    all_append P (instances n x d e) (flat_map (instances n x d) es)
    (all_below P (instance n x e) (e.b *ℤ d) (λ j. proper_inst clause x e.b (add_number (above e.rest) (pos j)) all.0 proper)) (rows_proper_at x clause proper d n es all.1)

pub rows_proper : (n x : ℕ) (clause : List Fact) → EachProper clause → AllByRecursion (λ row. EachProper (row_clause clause row)) (complete_rows n x clause)
rows_proper n x clause proper =
    let P : Row → Type 0 = λ row. EachProper (row_clause clause row) in
    all_append P (flat_map (instances n x (period x clause)) (filter_map (upper x) clause)) (lows n x clause)
    (rows_proper_at x clause proper (period x clause) n (filter_map (upper x) clause) (upper_positive x clause))
    (cond_both (list_any (bounds_above x) clause) [] (map (λ j. Low n x (pos j)) (numbers_below (period x clause))) (AllByRecursion P) (λ _. tt)
    (λ none. all_below P (λ j. Low n x (pos j)) (period x clause) (λ j. proper_low clause x (pos j) proper)))
