-- Tight keeps the whole-number solutions of its fact.
use Rattle.std.specs.Prelude.{◌≡◌, ℕ, zero, suc, ◌%◌, ◌==◌, unsigned_abs, ℤ, pos, negsuc, ◌+ℤ◌, ◌*ℤ◌, neg_ℤ, ◌<ℤ◌, ◌≤ℤ◌, int_div, int_le, true, cond, [], ◌∷◌, map}
use Rattle.std.specs.List.{AllByRecursion}
use Rattle.std.proofs.Common.{refl, sym, ◌∙◌, ap, arith, inl, inr}
use Rattle.std.proofs.lemmas.Int.{ints, quot-rem}
use Rattle.std.proofs.lemmas.Bool.{eq-eqb, eqb-true, cases_Bool, cond_both}
use Rattle.std.proofs.lemmas.Nat.Gcd.{mod-eq-zero_of_dvd}
use Rattle.std.proofs.Math.IntN.{*ℤ_comm}
use Rattle.std.proofs.Math.Nat.{mod_self}
use Rattle.lin_base.specs.declared.sums.Lin.{Lin}
use Rattle.lin_base.specs.declared.facts.Fact.{Fact}
use Rattle.lin_base.specs.declared.facts.Fact.TheVariants.{AtMostZero, Zero, Divides, NotDivides}
use Rattle.lin_base.specs.Whole.{divides, div_floor, gcd}
use Rattle.lin_base.specs.Sum.{Terms, Valuation, value, value_of_terms}
use Rattle.lin_base.specs.Fact.{holds}
use Rattle.lin_base.specs.Change.{tight, tight_by, common_divisor}
use Rattle.lin_base.proofs.Ring.{divides_in, divides_out, mul_assoc, mul-add, mul-neg, add-mul, le_zero_up, le_in, same_test, rem_zero, one_mul}
use Rattle.lin_base.proofs.Divisors.{gcd-IsGcd}

pub divides_trans : (a b c : ℤ) → divides a b ≡ true → divides b c ≡ true → divides a c ≡ true
divides_trans a b c p q =
    let d = divides_out a b p in
    let e = divides_out b c q in
    divides_in a c (e.0 *ℤ d.0) (e.1 ∙ ap (λ z. e.0 *ℤ z) d.1 ∙ sym (mul_assoc e.0 d.0 a))

pub all_divided : (g : ℤ) (ts : Terms) → divides g (pos (common_divisor ts)) ≡ true → AllByRecursion (λ e. divides g e.1 ≡ true) ts
all_divided g [] h = tt
all_divided g ((x, k) ∷ ts) h =
    let i = gcd-IsGcd k (pos (common_divisor ts)) in
    let c : ℕ = gcd k (pos (common_divisor ts)) in
    let first : divides (pos c) k ≡ true = eq-eqb _ _ (mod-eq-zero_of_dvd c i.0) in
    let rest : divides (pos c) (pos (common_divisor ts)) ≡ true = eq-eqb _ _ (mod-eq-zero_of_dvd c i.1) in
    (divides_trans g (pos c) k h first, all_divided g ts (divides_trans g (pos c) (pos (common_divisor ts)) h rest))

pub exact : (g k : ℤ) → divides g k ≡ true → k ≡ int_div k g *ℤ g
exact g k e =
    let r : unsigned_abs k % unsigned_abs g ≡ 0 = eqb-true _ 0 e in
    omega (arith, ints, quot-rem k g, rem_zero g k r)

value-divided : (v : Valuation) (g : ℤ) (ts : Terms) → AllByRecursion (λ e. divides g e.1 ≡ true) ts → value_of_terms v ts ≡ g *ℤ value_of_terms v (map (λ e. (e.0, int_div e.1 g)) ts)
value-divided v g [] all = omega (arith, ints, *ℤ_comm g (pos 0))
value-divided v g ((x, k) ∷ ts) all =
    let here : k *ℤ v x ≡ g *ℤ (int_div k g *ℤ v x) = ap (λ z. z *ℤ v x) (exact g k all.0 ∙ *ℤ_comm (int_div k g) g) ∙ mul_assoc g (int_div k g) (v x) in
    omega (arith, ints, here, value-divided v g ts all.1, mul-add g (int_div k g *ℤ v x) (value_of_terms v (map (λ e. (e.0, int_div e.1 g)) ts)))

-- ---- rounding
pub floor_bounds : (z : ℤ) (n : ℕ) → ((div_floor z (pos (suc n)) *ℤ pos (suc n)) ≤ℤ z) × (z <ℤ (div_floor z (pos (suc n)) *ℤ pos (suc n) +ℤ pos (suc n)))
floor_bounds (pos a) n = (omega (arith, ints), omega (arith, ints))
floor_bounds (negsuc a) n = (omega (arith, ints), omega (arith, ints))

pub natural : (z : ℤ) → pos 0 ≤ℤ z → (j : ℕ) × (z ≡ pos j)
natural (pos j) h = (j, refl)
natural (negsuc j) h = absurd (omega (arith, ints, h))

-- z is a multiple of m and a number below m
pub residue_of : (z m : ℤ) → pos 0 <ℤ m → (j : ℕ) × (f : ℤ) × (pos j <ℤ m) × (z ≡ f *ℤ m +ℤ pos j)
residue_of z (pos zero) h = absurd (omega (arith, ints, h))
residue_of z (negsuc n) h = absurd (omega (arith, ints, h))
residue_of z (pos (suc n)) h =
    let bounds = floor_bounds z n in
    let f : ℤ = div_floor z (pos (suc n)) in
    let j = natural (z +ℤ neg_ℤ (f *ℤ pos (suc n))) (omega (arith, ints, bounds)) in
    (j.0, f, omega (arith, ints, bounds, j.1), omega (arith, ints, j.1))

pub mul_mono : (a b g : ℤ) → pos 0 ≤ℤ g → a ≤ℤ b → (a *ℤ g) ≤ℤ (b *ℤ g)
mul_mono a b g h k =
    let e = le_zero_up g (a +ℤ neg_ℤ b) h (le_in (a +ℤ neg_ℤ b) (pos 0) (omega (arith, ints, k))) in
    omega (arith, ints, e, mul-add g a (neg_ℤ b), mul-neg g b, *ℤ_comm a g, *ℤ_comm b g)

-- g*w + c is at most 0 exactly where w + ceil(c/g) is
rounded : (g w c f : ℤ) → pos 0 <ℤ g → (f *ℤ g) ≤ℤ neg_ℤ c → neg_ℤ c <ℤ (f *ℤ g +ℤ g) → int_le (g *ℤ w +ℤ c) (pos 0) ≡ int_le (w +ℤ neg_ℤ f) (pos 0)
rounded g w c f h low high = same_test _ _ down_ up_
  where
    down_ : int_le (g *ℤ w +ℤ c) (pos 0) ≡ true → int_le (w +ℤ neg_ℤ f) (pos 0) ≡ true
    down_ e = elim (cases_Bool (int_le (w +ℤ neg_ℤ f) (pos 0))) [
      | inl within ↦ within
      | inr over ↦
          let m = mul_mono (f +ℤ pos 1) w g (omega (arith, ints)) (omega (arith, ints, over)) in
          absurd (omega (arith, ints, e, m, high, add-mul f (pos 1) g, one_mul g, *ℤ_comm g w))
    ]

    up_ : int_le (w +ℤ neg_ℤ f) (pos 0) ≡ true → int_le (g *ℤ w +ℤ c) (pos 0) ≡ true
    up_ e =
        let m = mul_mono w f g (omega (arith, ints)) (omega (arith, ints, e)) in
        le_in (g *ℤ w +ℤ c) (pos 0) (omega (arith, ints, m, low, *ℤ_comm g w))

tight_sum : (v : Valuation) (t : Lin) (g : ℕ) → common_divisor t.coefs ≡ suc g → int_le (value v t) (pos 0) ≡ int_le (value v (tight_by (pos (suc g)) t)) (pos 0)
tight_sum v t g e =
    let d = value-divided v (pos (suc g)) t.coefs (all_divided (pos (suc g)) t.coefs (rw e (eq-eqb _ 0 (mod_self (suc g))))) in
    let bounds = floor_bounds (neg_ℤ t.constant) g in
    ap (λ z. int_le (z +ℤ t.constant) (pos 0)) d
    ∙ rounded (pos (suc g)) (value_of_terms v (map (λ e. (e.0, int_div e.1 (pos (suc g)))) t.coefs)) t.constant (div_floor (neg_ℤ t.constant) (pos (suc g))) (omega (arith, ints)) bounds.0 bounds.1

tight_by_cases : (v : Valuation) (t : Lin) (g : ℕ) → common_divisor t.coefs ≡ g → holds v (AtMostZero (cond (g == 0) t (tight_by (pos g) t))) ≡ holds v (AtMostZero t)
tight_by_cases v t zero e = refl
tight_by_cases v t (suc g) e =
    cond_both (suc g == 0) t (tight_by (pos (suc g)) t) (λ u. holds v (AtMostZero u) ≡ holds v (AtMostZero t)) (λ _. refl) (λ _. sym (tight_sum v t g e))

-- `tight` keeps the whole-number solutions of its fact
pub tight_keeps : (v : Valuation) (f : Fact) → holds v (tight f) ≡ holds v f
tight_keeps v (AtMostZero t) = tight_by_cases v t (common_divisor t.coefs) refl
tight_keeps v (Zero t) = refl
tight_keeps v (Divides m t) = refl
tight_keeps v (NotDivides m t) = refl
