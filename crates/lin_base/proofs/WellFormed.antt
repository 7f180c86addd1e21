-- Well-formed sums and facts: what is formed of them is well formed.
use Rattle.std.specs.Prelude.{◌≡◌, ℕ, ℤ, pos, negsuc, ◌+ℤ◌, ◌*ℤ◌, ◌≤ℤ◌, int_le, int_div, map, Bool, true, false, not, ◌==◌, nat_lt, [], ◌∷◌, if◌then◌else◌}
use Rattle.std.specs.List.{filter, AllByRecursion}
use Rattle.std.proofs.Common.{refl, sym, ◌∙◌, ap, arith}
use Rattle.std.proofs.lemmas.Bool.{cond_both, and_parts, and_from, eqb-true, true≢false}
use Rattle.std.proofs.lemmas.Int.{ints}
use Rattle.std.proofs.Math.IntN.{zero-*ℤ}
use Rattle.std.proofs.lemmas.Bool.Decides.{nat_tests}
use Rattle.lin_base.specs.declared.sums.Lin.{Lin}
use Rattle.lin_base.specs.declared.facts.Fact.{Fact}
use Rattle.lin_base.specs.declared.facts.Fact.TheVariants.{AtMostZero, Zero, Divides, NotDivides}
use Rattle.lin_base.specs.Whole.{is_zero, divides}
use Rattle.lin_base.specs.Sum.{Terms, is_reduced, with_term, add_term, add_terms, scale_terms, add, scale, number, negated, add_number, above, without, coef, occurs}
use Rattle.lin_base.specs.Combine.{add_scaled}
use Rattle.lin_base.specs.Fact.{sum_of, is_ascending, is_lin, is_fact}
use Rattle.lin_base.specs.Change.{replace_in, replaced, replace, common_divisor, tight_by, tight}
use Rattle.lin_base.proofs.Ring.{le_in, one_mul, divides_in, is_zero_in, is_zero_out}
use Rattle.lin_base.proofs.Tightening.{mul_mono, all_divided, exact}
use Rattle.lin_base.proofs.Merging.{is_below, ascending_parts, lower, add_term-keeps_below}

pub ascending_cons : (e : ℕ × ℤ) (ts : Terms) → is_below e.0 ts ≡ true → is_ascending ts ≡ true → is_ascending (e ∷ ts) ≡ true
ascending_cons e [] h k = refl
ascending_cons e (f ∷ ts) h k = let both = and_parts (nat_lt e.0 f.0) (is_below e.0 ts) h in and_from _ _ both.0 k

-- ---- a term in front
ascending-with_term : (x : ℕ) (k : ℤ) (ts : Terms) → is_below x ts ≡ true → is_ascending ts ≡ true → is_ascending (with_term x k ts) ≡ true
ascending-with_term x k ts h a = cond_both (is_zero k) ts ((x, k) ∷ ts) (λ us. is_ascending us ≡ true) (λ _. a) (λ _. ascending_cons (x, k) ts h a)

below-with_term : (x y : ℕ) (k : ℤ) (ts : Terms) → nat_lt x y ≡ true → is_below x ts ≡ true → is_below x (with_term y k ts) ≡ true
below-with_term x y k ts h a = cond_both (is_zero k) ts ((y, k) ∷ ts) (λ us. is_below x us ≡ true) (λ _. a) (λ _. and_from _ _ h a)

reduced-with_term : (x : ℕ) (k : ℤ) (ts : Terms) → is_reduced ts ≡ true → is_reduced (with_term x k ts) ≡ true
reduced-with_term x k ts a = cond_both (is_zero k) ts ((x, k) ∷ ts) (λ us. is_reduced us ≡ true) (λ _. a) (λ e. and_from _ _ (ap not e) a)

-- ---- sums
ascending-add_term : (x : ℕ) (k : ℤ) (us : Terms) → is_ascending us ≡ true → is_ascending (add_term x k us) ≡ true
ascending-add_term x k [] h = refl
ascending-add_term x k ((y, l) ∷ us) h =
    let parts = ascending_parts (y, l) us h in
    let P : Terms → Type 0 = λ ts. is_ascending ts ≡ true in
    cond_both (nat_lt x y) ((x, k) ∷ (y, l) ∷ us) (if x == y then with_term x (k +ℤ l) us else (y, l) ∷ add_term x k us) P
    (λ e. ascending_cons (x, k) ((y, l) ∷ us) (and_from _ _ e (lower x y us e parts.0)) h)
    (λ d. cond_both (x == y) (with_term x (k +ℤ l) us) ((y, l) ∷ add_term x k us) P
    (λ e. ascending-with_term x (k +ℤ l) us (ap (λ z. is_below z us) (eqb-true x y e) ∙ parts.0) parts.1)
    (λ e.
    let above : nat_lt y x ≡ true = grind (arith, nat_tests) in
    ascending_cons (y, l) (add_term x k us) (add_term-keeps_below y x k us above parts.0) (ascending-add_term x k us parts.1)))

ascending-add_terms : (ts us : Terms) → is_ascending us ≡ true → is_ascending (add_terms ts us) ≡ true
ascending-add_terms [] us h = h
ascending-add_terms ((x, k) ∷ ts) us h = ascending-add_term x k (add_terms ts us) (ascending-add_terms ts us h)

reduced-add_term : (x : ℕ) (k : ℤ) (us : Terms) → not (is_zero k) ≡ true → is_reduced us ≡ true → is_reduced (add_term x k us) ≡ true
reduced-add_term x k [] n h = and_from _ _ n refl
reduced-add_term x k ((y, l) ∷ us) n h =
    let both = and_parts (not (is_zero l)) (is_reduced us) h in
    let P : Terms → Type 0 = λ ts. is_reduced ts ≡ true in
    cond_both (nat_lt x y) ((x, k) ∷ (y, l) ∷ us) (if x == y then with_term x (k +ℤ l) us else (y, l) ∷ add_term x k us) P
    (λ _. and_from _ _ n h)
    (λ _. cond_both (x == y) (with_term x (k +ℤ l) us) ((y, l) ∷ add_term x k us) P
    (λ _. reduced-with_term x (k +ℤ l) us both.1)
    (λ _. and_from _ _ both.0 (reduced-add_term x k us n both.1)))

reduced-add_terms : (ts us : Terms) → is_reduced ts ≡ true → is_reduced us ≡ true → is_reduced (add_terms ts us) ≡ true
reduced-add_terms [] us h k = k
reduced-add_terms ((x, l) ∷ ts) us h k =
    let both = and_parts (not (is_zero l)) (is_reduced ts) h in
    reduced-add_term x l (add_terms ts us) both.0 (reduced-add_terms ts us both.1 k)

pub is_lin-add : (t u : Lin) → is_lin t ≡ true → is_lin u ≡ true → is_lin (add t u) ≡ true
is_lin-add t u h k =
    let first = and_parts (is_ascending t.coefs) (is_reduced t.coefs) h in
    let second = and_parts (is_ascending u.coefs) (is_reduced u.coefs) k in
    and_from _ _ (ascending-add_terms t.coefs u.coefs second.0) (reduced-add_terms t.coefs u.coefs first.1 second.1)

-- ---- multiples
below-scale_terms : (x : ℕ) (k : ℤ) (ts : Terms) → is_below x ts ≡ true → is_below x (scale_terms k ts) ≡ true
below-scale_terms x k [] h = refl
below-scale_terms x k ((y, l) ∷ ts) h =
    let both = and_parts (nat_lt x y) (is_below x ts) h in
    below-with_term x y (k *ℤ l) (scale_terms k ts) both.0 (below-scale_terms x k ts both.1)

ascending-scale_terms : (k : ℤ) (ts : Terms) → is_ascending ts ≡ true → is_ascending (scale_terms k ts) ≡ true
ascending-scale_terms k [] h = refl
ascending-scale_terms k ((x, l) ∷ ts) h =
    let parts = ascending_parts (x, l) ts h in
    ascending-with_term x (k *ℤ l) (scale_terms k ts) (below-scale_terms x k ts parts.0) (ascending-scale_terms k ts parts.1)

reduced-scale_terms : (k : ℤ) (ts : Terms) → is_reduced (scale_terms k ts) ≡ true
reduced-scale_terms k [] = refl
reduced-scale_terms k ((x, l) ∷ ts) = reduced-with_term x (k *ℤ l) (scale_terms k ts) (reduced-scale_terms k ts)

pub is_lin-scale : (k : ℤ) (t : Lin) → is_lin t ≡ true → is_lin (scale k t) ≡ true
is_lin-scale k t h =
    let parts = and_parts (is_ascending t.coefs) (is_reduced t.coefs) h in
    and_from _ _ (ascending-scale_terms k t.coefs parts.0) (reduced-scale_terms k t.coefs)

pub is_lin-add_scaled : (so_far : Lin) (k : ℤ) (t : Lin) → is_lin so_far ≡ true → is_lin t ≡ true → is_lin (add_scaled so_far k t) ≡ true
is_lin-add_scaled so_far k t h g = is_lin-add so_far (scale k t) h (is_lin-scale k t g)

pub is_lin-add_number : (t : Lin) (c : ℤ) → is_lin t ≡ true → is_lin (add_number t c) ≡ true
is_lin-add_number t c h = is_lin-add t (number c) h refl

pub is_lin-above : (t : Lin) → is_lin t ≡ true → is_lin (above t) ≡ true
is_lin-above t h = is_lin-add_number (negated t) (pos 1) (is_lin-scale (negsuc 0) t h)

-- ---- a sum without a term
below-filter : (p : ℕ × ℤ → Bool) (x : ℕ) (ts : Terms) → is_below x ts ≡ true → is_below x (filter p ts) ≡ true
below-filter p x [] h = refl
below-filter p x (e ∷ ts) h =
    let both = and_parts (nat_lt x e.0) (is_below x ts) h in
    cond_both (p e) (e ∷ filter p ts) (filter p ts) (λ us. is_below x us ≡ true) (λ _. and_from _ _ both.0 (below-filter p x ts both.1)) (λ _. below-filter p x ts both.1)

ascending-filter : (p : ℕ × ℤ → Bool) (ts : Terms) → is_ascending ts ≡ true → is_ascending (filter p ts) ≡ true
ascending-filter p [] h = refl
ascending-filter p (e ∷ ts) h =
    let parts = ascending_parts e ts h in
    cond_both (p e) (e ∷ filter p ts) (filter p ts) (λ us. is_ascending us ≡ true)
    (λ _. ascending_cons e (filter p ts) (below-filter p e.0 ts parts.0) (ascending-filter p ts parts.1)) (λ _. ascending-filter p ts parts.1)

reduced-filter : (p : ℕ × ℤ → Bool) (ts : Terms) → is_reduced ts ≡ true → is_reduced (filter p ts) ≡ true
reduced-filter p [] h = refl
reduced-filter p (e ∷ ts) h =
    let both = and_parts (not (is_zero e.1)) (is_reduced ts) h in
    cond_both (p e) (e ∷ filter p ts) (filter p ts) (λ us. is_reduced us ≡ true) (λ _. and_from _ _ both.0 (reduced-filter p ts both.1)) (λ _. reduced-filter p ts both.1)

pub is_lin-without : (x : ℕ) (t : Lin) → is_lin t ≡ true → is_lin (without x t) ≡ true
is_lin-without x t h =
    let parts = and_parts (is_ascending t.coefs) (is_reduced t.coefs) h in
    and_from _ _ (ascending-filter (λ e. not (e.0 == x)) t.coefs parts.0) (reduced-filter (λ e. not (e.0 == x)) t.coefs parts.1)

-- ---- replaced
pub is_lin-replace_in : (x : ℕ) (a : ℤ) (t s : Lin) → is_lin t ≡ true → is_lin s ≡ true → is_lin (replace_in x a t s) ≡ true
is_lin-replace_in x a t s h k = is_lin-add (scale (coef x s) t) (scale a (without x s)) (is_lin-scale (coef x s) t h) (is_lin-scale a (without x s) (is_lin-without x s k))

-- a modulus at least 2, multiplied
modulus_up : (a m : ℤ) → pos 1 ≤ℤ a → int_le (pos 2) m ≡ true → int_le (pos 2) (a *ℤ m) ≡ true
modulus_up a m h k = le_in (pos 2) (a *ℤ m) (omega (arith, ints, mul_mono (pos 1) a m (omega (arith, ints, k)) h, one_mul m, k))

pub is_fact-replaced : (x : ℕ) (a : ℤ) (t : Lin) (f : Fact) → pos 1 ≤ℤ a → is_lin t ≡ true → is_fact f ≡ true → is_fact (replaced x a t f) ≡ true
is_fact-replaced x a t (AtMostZero s) h l f = is_lin-replace_in x a t s l f
is_fact-replaced x a t (Zero s) h l f = is_lin-replace_in x a t s l f
is_fact-replaced x a t (Divides m s) h l f =
    let both = and_parts (int_le (pos 2) m) (is_lin s) f in
    and_from _ _ (modulus_up a m h both.0) (is_lin-replace_in x a t s l both.1)
is_fact-replaced x a t (NotDivides m s) h l f =
    let both = and_parts (int_le (pos 2) m) (is_lin s) f in
    and_from _ _ (modulus_up a m h both.0) (is_lin-replace_in x a t s l both.1)

pub is_fact-replace : (x : ℕ) (a : ℤ) (t : Lin) (f : Fact) → pos 1 ≤ℤ a → is_lin t ≡ true → is_fact f ≡ true → is_fact (replace x a t f) ≡ true
is_fact-replace x a t f h l k =
    cond_both (occurs x (sum_of f)) (replaced x a t f) f (λ g. is_fact g ≡ true) (λ _. is_fact-replaced x a t f h l k) (λ _. k)

-- ---- tight
below-map : (x : ℕ) (g : ℤ) (ts : Terms) → is_below x ts ≡ true → is_below x (map (λ e. (e.0, int_div e.1 g)) ts) ≡ true
below-map x g [] h = refl
below-map x g ((y, k) ∷ ts) h = let both = and_parts (nat_lt x y) (is_below x ts) h in and_from _ _ both.0 (below-map x g ts both.1)

ascending-map : (g : ℤ) (ts : Terms) → is_ascending ts ≡ true → is_ascending (map (λ e. (e.0, int_div e.1 g)) ts) ≡ true
ascending-map g [] h = refl
ascending-map g ((x, k) ∷ ts) h =
    let parts = ascending_parts (x, k) ts h in
    ascending_cons (x, int_div k g) (map (λ e. (e.0, int_div e.1 g)) ts) (below-map x g ts parts.0) (ascending-map g ts parts.1)

-- what a divisor leaves of a number other than 0
quotient_kept : (g k : ℤ) → divides g k ≡ true → not (is_zero k) ≡ true → not (is_zero (int_div k g)) ≡ true
quotient_kept g k d n = at (is_zero (int_div k g)) refl
  where
    at : (b : Bool) → is_zero (int_div k g) ≡ b → not b ≡ true
    at false e = refl
    at true e =
        let z : k ≡ pos 0 = exact g k d ∙ ap (λ q. q *ℤ g) (is_zero_out (int_div k g) e) ∙ zero-*ℤ g in
        let t : is_zero k ≡ true = is_zero_in k z in
        absurd (true≢false (sym n ∙ ap not t))

reduced-map : (g : ℤ) (ts : Terms) → AllByRecursion (λ e. divides g e.1 ≡ true) ts → is_reduced ts ≡ true → is_reduced (map (λ e. (e.0, int_div e.1 g)) ts) ≡ true
reduced-map g [] all h = refl
reduced-map g ((x, k) ∷ ts) all h =
    let both = and_parts (not (is_zero k)) (is_reduced ts) h in
    and_from _ _ (quotient_kept g k all.0 both.0) (reduced-map g ts all.1 both.1)

is_lin-tight_by : (t : Lin) → is_lin t ≡ true → is_lin (tight_by (pos (common_divisor t.coefs)) t) ≡ true
is_lin-tight_by t h =
    let parts = and_parts (is_ascending t.coefs) (is_reduced t.coefs) h in
    let g : ℤ = pos (common_divisor t.coefs) in
    let all = all_divided g t.coefs (divides_in g g (pos 1) (sym (one_mul g))) in
    and_from _ _ (ascending-map g t.coefs parts.0) (reduced-map g t.coefs all parts.1)

pub is_fact-tight : (f : Fact) → is_fact f ≡ true → is_fact (tight f) ≡ true
is_fact-tight (AtMostZero t) h =
    cond_both (common_divisor t.coefs == 0) t (tight_by (pos (common_divisor t.coefs)) t) (λ u. is_lin u ≡ true) (λ _. h) (λ _. is_lin-tight_by t h)
is_fact-tight (Zero t) h = h
is_fact-tight (Divides m t) h = h
is_fact-tight (NotDivides m t) h = h
