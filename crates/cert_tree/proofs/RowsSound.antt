-- A row keeps the truth of its clause.
use Rattle.std.specs.Prelude.{◌≡◌, ℕ, zero, suc, ◌+◌, ◌≤◌, ◌||◌, cond, ℤ, pos, negsuc, ◌+ℤ◌, ◌-ℤ◌, ◌*ℤ◌, neg_ℤ, ◌<ℤ◌, Bool, true, false, not, nat_le, int_le, int_lt, unsigned_abs, List, [], ◌∷◌, ◌++◌, map, Option, Some, None, slice_get}
use Rattle.std.specs.List.{list_all, list_any, AllByRecursion}
use Rattle.lin_base.specs.Whole.{is_same}
use Rattle.std.proofs.Common.{refl, sym, ◌∙◌, ap, subst, arith, inl, inr}
use Rattle.std.proofs.lemmas.Int.{ints}
use Rattle.std.proofs.lemmas.Bool.{and_parts, and_from, cond_both, cases_Bool, or_cases, not-true, both_ways, true≢false, false≢true, leb-true, ne_eqb}
use Rattle.std.proofs.Math.IntN.{*ℤ_comm, neg_ℤ-neg_ℤ}
use Rattle.lin_base.specs.declared.sums.Lin.{Lin}
use Rattle.lin_base.specs.declared.facts.Fact.{Fact}
use Rattle.lin_base.specs.declared.facts.Fact.TheVariants.{AtMostZero, Zero, Divides, NotDivides}
use Rattle.lin_base.specs.Whole.{is_zero, is_positive, divides}
use Rattle.lin_base.specs.Sum.{Valuation, assigned, value, coef, occurs, without, scale, number}
use Rattle.lin_base.specs.Fact.{holds, sum_of, AgreeBelow, ClauseHoldsAt}
use Rattle.lin_base.specs.Change.{replace, replaced, replace_in}
use Rattle.lin_base.proofs.Ring.{is_zero_out, divides_in, divides_out, mul-le_zero, mul-is_zero, replaced_value, neg-mul, mul-neg, one_mul}
use Rattle.lin_base.proofs.Values.{value-add, value-scale, value-assigned, assigned-other, coef-absent, value-number, value-split}
use Rattle.lin_base.proofs.Truth.{mul-divides}
use Rattle.lin_base.proofs.Tightening.{mul_mono}
use Rattle.lin_base.specs.declared.facts.Pool.{Pool}
use Rattle.lin_base.specs.Fact.{Impossible}
use Rattle.cert_tree.specs.declared.certs.Cert.{Cert}
use Rattle.cert_tree.specs.Points.{period}
use Rattle.cert_tree.specs.Rows.{clause_of, extended}
use Rattle.cert_tree.specs.Stands.{Stands, tree_stands}
use Rattle.cert_tree.proofs.Sound.{tree_sound}
use Rattle.cert_tree.proofs.Truth.{some_and_out, option_then_out, all_at, all_snoc, positive_out}
use Rattle.cert_tree.specs.declared.certs.Row.{Row}
use Rattle.cert_tree.specs.declared.certs.Row.TheVariants.{Inst, Low}
use Rattle.cert_tree.specs.Points.{not_divides_part}
use Rattle.cert_tree.specs.Rows.{row_is_allowed, row_clause, row_stands_on, row_on, row_over, stays_in, falls_out, bounds_above}
use Rattle.cert_tree.proofs.Least.{Periodic, EachProper, period_is, still_zero, still_divides}
use Rattle.cert_tree.proofs.Truth.{is_proper, positive_in, proper_replace}

-- ---- Inst: at v the instance says what the literal says at another value of x
module _ (v : Valuation) (x : ℕ) (a : ℤ) (t : Lin) (k : ℤ) (above : pos 0 <ℤ a) (is : value v t ≡ a *ℤ k) where
  value-instance : (s : Lin) → value v (replace_in x a t s) ≡ a *ℤ value (assigned x k v) s
  value-instance s =
      value-add v (scale (coef x s) t) (scale a (without x s))
      ∙ ap (λ z. z +ℤ value v (scale a (without x s))) (value-scale v (coef x s) t ∙ ap (λ z. coef x s *ℤ z) is)
      ∙ ap (λ z. coef x s *ℤ (a *ℤ k) +ℤ z) (value-scale v a (without x s))
      ∙ replaced_value a (coef x s) k (value v (without x s))
      ∙ ap (λ z. a *ℤ z) (sym (value-assigned v x k s))

  holds-instance : (f : Fact) → holds v (replaced x a t f) ≡ holds (assigned x k v) f
  holds-instance (AtMostZero s) = ap (λ z. int_le z (pos 0)) (value-instance s) ∙ mul-le_zero a (value (assigned x k v) s) above
  holds-instance (Zero s) = ap is_zero (value-instance s) ∙ mul-is_zero a (value (assigned x k v) s) above
  holds-instance (Divides m s) = ap (divides (a *ℤ m)) (value-instance s) ∙ mul-divides a m (value (assigned x k v) s) above
  holds-instance (NotDivides m s) = ap (λ z. not (divides (a *ℤ m) z)) (value-instance s) ∙ ap not (mul-divides a m (value (assigned x k v) s) above)

-- a fact without x is as true at any value of x
same_without : (v : Valuation) (x : ℕ) (k : ℤ) (s : Lin) → occurs x s ≡ false → value (assigned x k v) s ≡ value v s
same_without v x k s o =
    let c = coef-absent x s o in
    omega (arith, ints, value-assigned v x k s, value-split v x s, ap (λ z. z *ℤ k) c, ap (λ z. z *ℤ v x) c, *ℤ_comm (pos 0) k, *ℤ_comm (pos 0) (v x))

pub holds_without : (v : Valuation) (x : ℕ) (k : ℤ) (f : Fact) → occurs x (sum_of f) ≡ false → holds (assigned x k v) f ≡ holds v f
holds_without v x k (AtMostZero s) o = ap (λ z. int_le z (pos 0)) (same_without v x k s o)
holds_without v x k (Zero s) o = ap is_zero (same_without v x k s o)
holds_without v x k (Divides m s) o = ap (divides m) (same_without v x k s o)
holds_without v x k (NotDivides m s) o = ap (λ z. not (divides m z)) (same_without v x k s o)

module _ (v : Valuation) (x : ℕ) (a : ℤ) (t : Lin) (k : ℤ) (above : pos 0 <ℤ a) (is : value v t ≡ a *ℤ k) where
  holds-replace_at : (f : Fact) → holds v (replace x a t f) ≡ holds (assigned x k v) f
  holds-replace_at f =
      cond_both (occurs x (sum_of f)) (replaced x a t f) f (λ g. holds v g ≡ holds (assigned x k v) f)
      (λ _. holds-instance v x a t k above is f) (λ o. sym (holds_without v x k f o))

  pub any_replace_at : (clause : List Fact) → list_any (holds v) (map (replace x a t) clause) ≡ list_any (holds (assigned x k v)) clause
  any_replace_at [] = refl
  any_replace_at (f ∷ fs) = rw (holds-replace_at f, any_replace_at fs) refl

-- another value for a variable keeps the parameters
pub agree_assigned : (params x : ℕ) (p v : Valuation) (k : ℤ) → params ≤ x → AgreeBelow params p v → AgreeBelow params p (assigned x k v)
agree_assigned params x p v k h agree y below = assigned-other v x y k (ap not (ne_eqb y x (λ e. omega (arith, ints, e)))) ∙ agree y below

pub any_append_right : (v : Valuation) (xs ys : List Fact) → list_any (holds v) ys ≡ true → list_any (holds v) (xs ++ ys) ≡ true
any_append_right v [] ys h = h
any_append_right v (x ∷ xs) ys h = rw (any_append_right v xs ys h) (or_true (holds v x))
  where
    or_true : (b : Bool) → (b || true) ≡ true
    or_true true = refl
    or_true false = refl

pub same_out : (a b : ℤ) → is_same a b ≡ true → a ≡ b
same_out a b e = omega (arith, ints, is_zero_out (a -ℤ b) e)

not_divides_holds : (v : Valuation) (a : ℤ) (t : Lin) (rest : List Fact) → divides a (value v t) ≡ false → list_any (holds v) (not_divides_part a t ++ rest) ≡ true
not_divides_holds v a t rest e =
    cond_both (is_same a (pos 1)) [] (NotDivides a t ∷ []) (λ fs. list_any (holds v) (fs ++ rest) ≡ true)
    (λ one. let always : divides a (value v t) ≡ true = divides_in a (value v t) (value v t) (sym (*ℤ_comm (value v t) a ∙ ap (λ z. z *ℤ value v t) (same_out a (pos 1) one) ∙ one_mul (value v t))) in absurd (both_ways _ e always))
    (λ _. rw e refl)

-- the instance is true at v where the clause is true at v with any value for x
pub inst_true : (v : Valuation) (clause : List Fact) (x : ℕ) (a : ℤ) (t : Lin) → pos 0 <ℤ a → ((z : ℤ) → list_any (holds (assigned x z v)) clause ≡ true) → list_any (holds v) (not_divides_part a t ++ map (replace x a t) clause) ≡ true
inst_true v clause x a t above ok = elim (cases_Bool (divides a (value v t))) [
  | inl divided ↦
      let d = divides_out a (value v t) divided in
      any_append_right v (not_divides_part a t) (map (replace x a t) clause) (any_replace_at v x a t d.0 above (d.1 ∙ *ℤ_comm d.0 a) clause ∙ ok d.0)
  | inr not_divided ↦ not_divides_holds v a t (map (replace x a t) clause) not_divided
]

inst_sound : (params : ℕ) (p : Valuation) (clause : List Fact) (x : ℕ) (a : ℤ) (t : Lin) → params ≤ x → pos 0 <ℤ a → ClauseHoldsAt params p clause → ClauseHoldsAt params p (not_divides_part a t ++ map (replace x a t) clause)
inst_sound params p clause x a t h above ok v agree =
    inst_true v clause x a t above (λ z. ok (assigned x z v) (agree_assigned params x p v z h agree))

negative_from : (c : ℤ) → is_zero c ≡ false → is_positive c ≡ false → int_lt c (pos 0) ≡ true
negative_from (pos zero) nz np = absurd (true≢false nz)
negative_from (pos (suc n)) nz np = absurd (omega (arith, ints, np))
negative_from (negsuc n) nz np = refl

pub not_zero : (z : ℤ) → (z ≡ pos 0 → ⊥) → is_zero z ≡ false
not_zero z h = elim (cases_Bool (is_zero z)) [ inl e ↦ absurd (h (is_zero_out z e)) | inr e ↦ e ]

pub or_none : (a b : Bool) → (a || b) ≡ false → (a ≡ false) × (b ≡ false)
or_none true b e = absurd (true≢false e)
or_none false b e = (refl, e)

pub not_le : (z : ℤ) → pos 0 <ℤ z → not (int_le z (pos 0)) ≡ true
not_le z h = elim (cases_Bool (int_le z (pos 0))) [ inl e ↦ absurd (omega (arith, ints, e, h)) | inr e ↦ rw e refl ]

-- ---- Low: far down the literals that fall out are false
abbrev reach_of : ℕ → Valuation → Fact → ℕ
reach_of x v f = unsigned_abs (value v (without x (sum_of f)))

abbrev WithinReach : ℕ → Valuation → ℕ → Fact → Type 0
WithinReach x v m f = reach_of x v f ≤ m

abbrev reach : ℕ → Valuation → List Fact → ℕ
reach x v [] = 0
reach x v (f ∷ fs) = reach_of x v f + reach x v fs

reach_more : (x : ℕ) (v : Valuation) (m n : ℕ) (fs : List Fact) → m ≤ n → AllByRecursion (WithinReach x v m) fs → AllByRecursion (WithinReach x v n) fs
reach_more x v m n [] h all = tt
reach_more x v m n (f ∷ fs) h all = (omega (arith, h, all.0), reach_more x v m n fs h all.1)

all_within : (x : ℕ) (v : Valuation) (fs : List Fact) → AllByRecursion (WithinReach x v (reach x v fs)) fs
all_within x v [] = tt
all_within x v (f ∷ fs) = (omega arith, reach_more x v (reach x v fs) (reach x v (f ∷ fs)) fs (omega arith) (all_within x v fs))

-- c*z + r, with c negative, or positive, and z far below 0
falls_up : (c z r : ℤ) (m : ℕ) → int_lt c (pos 0) ≡ true → unsigned_abs r ≤ m → z <ℤ neg_ℤ (pos m) → pos 0 <ℤ (c *ℤ z +ℤ r)
falls_up c z r m lt h far =
    let less = mul_mono c (negsuc 0) (neg_ℤ z) (omega (arith, ints, far)) (omega (arith, ints, lt)) in
    let minus : negsuc 0 *ℤ neg_ℤ z ≡ z = neg-mul (pos 1) (neg_ℤ z) ∙ ap neg_ℤ (one_mul (neg_ℤ z)) ∙ neg_ℤ-neg_ℤ z in
    omega (arith, ints, less, minus, mul-neg c z, far, h)

falls_down : (c z r : ℤ) (m : ℕ) → pos 0 <ℤ c → unsigned_abs r ≤ m → z <ℤ neg_ℤ (pos m) → (c *ℤ z +ℤ r) <ℤ pos 0
falls_down c z r m gt h far =
    let less = mul_mono (pos 1) c (neg_ℤ z) (omega (arith, ints, far)) (omega (arith, ints, gt)) in
    omega (arith, ints, less, one_mul (neg_ℤ z), mul-neg c z, far, h)

module _ (v : Valuation) (x : ℕ) (d : ℤ) (j k : ℤ) (m : ℕ) (far : (j +ℤ k *ℤ d) <ℤ neg_ℤ (pos m)) where
  abbrev far_down_at : Valuation
  far_down_at = assigned x (j +ℤ k *ℤ d) v

  at_most_false : (s : Lin) → is_zero (coef x s) ≡ false → is_positive (coef x s) ≡ false → unsigned_abs (value v (without x s)) ≤ m → holds far_down_at (AtMostZero s) ≡ false
  at_most_false s nz np h =
      let up_ = falls_up (coef x s) (j +ℤ k *ℤ d) (value v (without x s)) m (negative_from (coef x s) nz np) h far in
      not-true _ (not_le (value far_down_at s) (omega (arith, ints, up_, value-assigned v x (j +ℤ k *ℤ d) s)))

  zero_false : (s : Lin) → is_zero (coef x s) ≡ false → unsigned_abs (value v (without x s)) ≤ m → holds far_down_at (Zero s) ≡ false
  zero_false s nz h = elim (cases_Bool (is_positive (coef x s))) [
    | inl gt ↦
        let down_ = falls_down (coef x s) (j +ℤ k *ℤ d) (value v (without x s)) m (positive_out (coef x s) gt) h far in
        not_zero (value far_down_at s) (λ e. omega (arith, ints, down_, e, value-assigned v x (j +ℤ k *ℤ d) s))
    | inr np ↦
        let up_ = falls_up (coef x s) (j +ℤ k *ℤ d) (value v (without x s)) m (negative_from (coef x s) nz np) h far in
        not_zero (value far_down_at s) (λ e. omega (arith, ints, up_, e, value-assigned v x (j +ℤ k *ℤ d) s))
  ]

  -- a literal that is true far down stays, and is true at j
  stays_true : (f : Fact) → Periodic x d f → bounds_above x f ≡ false → WithinReach x v m f → holds far_down_at f ≡ true → (falls_out x f ≡ false) × (holds (assigned x j v) f ≡ true)
  stays_true (AtMostZero s) p b h e = elim (cases_Bool (is_zero (coef x s))) [
    | inl z ↦ (rw z refl, subst (λ w. int_le w (pos 0) ≡ true) (still_zero v x d j k s (is_zero_out _ z)) e)
    | inr nz ↦ absurd (both_ways _ (at_most_false s nz b h) e)
  ]
  stays_true (Zero s) p b h e = elim (cases_Bool (is_zero (coef x s))) [
    | inl z ↦ (rw z refl, subst (λ w. is_zero w ≡ true) (still_zero v x d j k s (is_zero_out _ z)) e)
    | inr nz ↦ absurd (both_ways _ (zero_false s nz h) e)
  ]
  stays_true (Divides n s) p b h e = (refl, sym (still_divides v x d j k n s p) ∙ e)
  stays_true (NotDivides n s) p b h e = (refl, sym (ap not (still_divides v x d j k n s p)) ∙ e)

  some_stays : (fs : List Fact) → AllByRecursion (Periodic x d) fs → list_any (bounds_above x) fs ≡ false → AllByRecursion (WithinReach x v m) fs → list_any (holds far_down_at) fs ≡ true → list_any (holds (assigned x j v)) (stays_in x fs) ≡ true
  some_stays [] p b w e = absurd (false≢true e)
  some_stays (f ∷ fs) p b w e =
      let none = or_none (bounds_above x f) (list_any (bounds_above x) fs) b in
      elim (or_cases (holds far_down_at f) (list_any (holds far_down_at) fs) e) [
        | inl h ↦
            let s = stays_true f p.0 none.0 w.0 h in
            rw (s.0, s.1) refl
        | inr more ↦
            let rest = some_stays fs p.1 none.1 w.1 more in
            cond_both (not (falls_out x f)) (f ∷ stays_in x fs) (stays_in x fs) (λ gs. list_any (holds (assigned x j v)) gs ≡ true)
            (λ _. any_append_right (assigned x j v) (f ∷ []) (stays_in x fs) rest) (λ _. rest)
      ]

pub low_true : (v : Valuation) (clause : List Fact) (x : ℕ) (j : ℤ) → list_any (bounds_above x) clause ≡ false → EachProper clause → ((z : ℤ) → list_any (holds (assigned x z v)) clause ≡ true) → list_any (holds v) (map (replace x (pos 1) (number j)) (stays_in x clause)) ≡ true
low_true v clause x j none proper ok =
    let d : ℤ = period x clause in
    let is = period_is x clause proper in
    let m : ℕ = reach x v clause in
    let n : ℤ = pos (unsigned_abs j + m + 1) in
    let more = mul_mono (pos 1) d n (omega (arith, ints)) (omega (arith, ints, is.0)) in
    let far : (j +ℤ neg_ℤ n *ℤ d) <ℤ neg_ℤ (pos m) = omega (arith, ints, more, one_mul n, neg-mul n d, *ℤ_comm n d) in
    let stays = some_stays v x d j (neg_ℤ n) m far clause is.1 none (all_within x v clause) (ok (j +ℤ neg_ℤ n *ℤ d)) in
    let above : pos 0 <ℤ pos 1 = omega (arith, ints) in
    any_replace_at v x (pos 1) (number j) j above (value-number v j ∙ sym (one_mul j)) (stays_in x clause) ∙ stays

low_sound : (params : ℕ) (p : Valuation) (clause : List Fact) (x : ℕ) (j : ℤ) → params ≤ x → list_any (bounds_above x) clause ≡ false → EachProper clause → ClauseHoldsAt params p clause → ClauseHoldsAt params p (map (replace x (pos 1) (number j)) (stays_in x clause))
low_sound params p clause x j h none proper ok v agree =
    low_true v clause x j none proper (λ z. ok (assigned x z v) (agree_assigned params x p v z h agree))

-- ---- a row
row_sound : (params : ℕ) (p : Valuation) (clause : List Fact) (row : Row) → row_is_allowed params clause row ≡ true → EachProper clause → ClauseHoldsAt params p clause → ClauseHoldsAt params p (row_clause clause row)
row_sound params p clause (Inst n x a t) allowed proper ok =
    let one = and_parts _ _ allowed in
    let two = and_parts _ _ (and_parts _ _ one.0).0 in
    let variable : nat_le params x ≡ true = (and_parts _ _ two.0).0 in
    let least : int_le (pos 1) a ≡ true = two.1 in
    inst_sound params p clause x a t (leb-true params x variable) (omega (arith, ints, least)) ok
row_sound params p clause (Low n x j) allowed proper ok =
    let one = and_parts _ _ allowed in
    let variable : nat_le params x ≡ true = (and_parts _ _ one.0).0 in
    low_sound params p clause x j (leb-true params x variable) (not-true _ one.1) proper ok

pub proper_map : (x : ℕ) (a : ℤ) (t : Lin) → pos 0 <ℤ a → (fs : List Fact) → EachProper fs → EachProper (map (replace x a t) fs)
proper_map x a t h [] all = tt
proper_map x a t h (f ∷ fs) all = (proper_replace x a t h f all.0, proper_map x a t h fs all.1)

proper_stays : (x : ℕ) (fs : List Fact) → EachProper fs → EachProper (stays_in x fs)
proper_stays x [] all = tt
proper_stays x (f ∷ fs) all = cond_both (not (falls_out x f)) (f ∷ stays_in x fs) (stays_in x fs) EachProper (λ _. (all.0, proper_stays x fs all.1)) (λ _. proper_stays x fs all.1)

pub proper_inst : (clause : List Fact) (x : ℕ) (a : ℤ) (t : Lin) → pos 0 <ℤ a → EachProper clause → EachProper (not_divides_part a t ++ map (replace x a t) clause)
proper_inst clause x a t above all =
    cond_both (is_same a (pos 1)) [] (NotDivides a t ∷ []) (λ fs. EachProper (fs ++ map (replace x a t) clause)) (λ _. proper_map x a t above clause all) (λ _. (positive_in a above, proper_map x a t above clause all))

pub proper_low : (clause : List Fact) (x : ℕ) (j : ℤ) → EachProper clause → EachProper (map (replace x (pos 1) (number j)) (stays_in x clause))
proper_low clause x j all = proper_map x (pos 1) (number j) (omega (arith, ints)) (stays_in x clause) (proper_stays x clause all)

row_proper : (params : ℕ) (clause : List Fact) (row : Row) → row_is_allowed params clause row ≡ true → EachProper clause → EachProper (row_clause clause row)
row_proper params clause (Inst n x a t) allowed all =
    let one = and_parts _ _ allowed in
    let least : int_le (pos 1) a ≡ true = (and_parts _ _ (and_parts _ _ one.0).0).1 in
    proper_inst clause x a t (omega (arith, ints, least)) all
row_proper params clause (Low n x j) allowed all = proper_low clause x j all

row_on_out : (params : ℕ) (row : Row) (clause new : List Fact) (b : Bool) → row_stands_on params clause row ≡ b → cond b (Some (row_clause clause row)) None ≡ Some new → (row_is_allowed params clause row ≡ true) × (row_clause clause row ≡ new)
row_on_out params row clause new true e is = ((and_parts _ _ e).0, cc)
row_on_out params row clause new false e is = absurd (cc)

-- ---- the rows, one after the other
module _ (params : ℕ) (p : Valuation) where
  abbrev AllTrue : List (List Fact) → Type 0
  AllTrue clauses = AllByRecursion (ClauseHoldsAt params p) clauses

  abbrev AllProper : List (List Fact) → Type 0
  AllProper clauses = AllByRecursion EachProper clauses

  row_over_out : (row : Row) (clauses : List (List Fact)) (new : List Fact) (c : Option (List Fact)) → slice_get clauses (clause_of row) ≡ c → row_on params row c ≡ Some new → AllTrue clauses → AllProper clauses → ClauseHoldsAt params p new × EachProper new
  row_over_out row clauses new None at_ is holds_ proper = absurd (cc)
  row_over_out row clauses new (Some clause) at_ is holds_ proper =
      let o = row_on_out params row clause new (row_stands_on params clause row) refl is in
      let ok = all_at (ClauseHoldsAt params p) clauses (clause_of row) clause holds_ at_ in
      let pr = all_at EachProper clauses (clause_of row) clause proper at_ in
      (subst (ClauseHoldsAt params p) o.1 (row_sound params p clause row o.0 pr ok), subst EachProper o.1 (row_proper params clause row o.0 pr))

  rows_sound : (rows : List Row) (clauses more : List (List Fact)) → AllTrue clauses → AllProper clauses → extended params rows clauses ≡ Some more → AllTrue more × AllProper more
  rows_sound [] clauses more holds_ proper e = let same : clauses ≡ more = cc in subst (λ cs. AllTrue cs × AllProper cs) same (holds_, proper)
  rows_sound (row ∷ rows) clauses more holds_ proper e =
      let o = option_then_out (row_over params clauses row) (λ clause. extended params rows (clauses ++ clause ∷ [])) more e in
      let s = row_over_out row clauses o.0 (slice_get clauses (clause_of row)) refl o.1 holds_ proper in
      rows_sound rows (clauses ++ o.0 ∷ []) more (all_snoc (ClauseHoldsAt params p) clauses o.0 holds_ s.0) (all_snoc EachProper clauses o.0 proper s.1) o.2

each_list_all : (clause : List Fact) → EachProper clause → list_all is_proper clause ≡ true
each_list_all [] all = refl
each_list_all (f ∷ fs) all = and_from _ _ all.0 (each_list_all fs all.1)

lists_all : (clauses : List (List Fact)) → AllByRecursion EachProper clauses → AllByRecursion (λ c. list_all is_proper c ≡ true) clauses
lists_all [] all = tt
lists_all (c ∷ cs) all = (each_list_all c all.0, lists_all cs all.1)

-- ---- a certificate that stands
-- a pool with a certificate that stands is impossible, where moduli are at least 1
pub stands_impossible : (pool : Pool) (cert : Cert) → AllByRecursion EachProper pool.clauses → Stands pool cert → Impossible pool
stands_impossible pool cert proper e p holds_ =
    let o = some_and_out (extended pool.params cert.rows pool.clauses) (λ clauses. tree_stands pool.params clauses cert.tree [] []) e in
    let s = rows_sound pool.params p cert.rows pool.clauses o.0 holds_ proper o.1 in
    tree_sound pool.params o.0 p s.0 (lists_all o.0 s.1) cert.tree [] [] o.2 p (λ x _. refl) tt
