-- The truth of lists of facts, and what the nodes keep of it.
use Rattle.std.specs.Prelude.{◌≡◌, ℕ, zero, suc, ◌+◌, ◌<◌, ◌||◌, ◌&&◌, cond, ℤ, pos, negsuc, ◌*ℤ◌, neg_ℤ, ◌<ℤ◌, Bool, true, false, not, int_le, int_lt, List, [], ◌∷◌, ◌++◌, map, Option, Some, None, slice_get, ◌⊎◌}
use Rattle.std.specs.List.{list_all, list_any, AllByRecursion}
use Rattle.std.proofs.Common.{refl, sym, ◌∙◌, ap, subst, arith, inl, inr}
use Rattle.std.proofs.lemmas.Int.{ints}
use Rattle.std.proofs.lemmas.Bool.{and_parts, cond_both, or_cases, not-true, both_ways, true≢false, false≢true}
use Rattle.lin_base.specs.declared.sums.Lin.{Lin}
use Rattle.lin_base.specs.declared.facts.Fact.{Fact}
use Rattle.lin_base.specs.declared.facts.Fact.TheVariants.{AtMostZero, Zero, Divides, NotDivides}
use Rattle.lin_base.specs.Sum.{Terms, Valuation, value, coef, occurs, without, negated, add_number, above}
use Rattle.lin_base.specs.Fact.{holds, sum_of, is_false, is_lin}
use Rattle.cert_tree.specs.Counting.{count_from, numbers_below, is_over_free}
use Rattle.lin_base.specs.Whole.{is_same}
use Rattle.std.proofs.Common.{add-zero, zero-add}
use Rattle.std.proofs.Math.IntN.{*ℤ-zero, *ℤ_comm}
use Rattle.lin_base.specs.Whole.{is_zero, is_positive, divides}
use Rattle.lin_base.specs.declared.wides.Wide.{Wide}
use Rattle.lin_base.specs.Change.{replace, replaced, tight}
use Rattle.lin_base.specs.Combine.{combined, combined_steps}
use Rattle.lin_base.specs.Steps.{is_narrow, negated_steps, above_steps}
use Rattle.lin_base.proofs.Ring.{le_in, lt_in, mul_positive, le_zero_up, is_zero_out, divides_in, neg-mul}
use Rattle.lin_base.proofs.Values.{value-add_number, value-negated, value-split}
use Rattle.lin_base.proofs.Tightening.{residue_of, tight_keeps}
use Rattle.lin_base.proofs.Truth.{same_holds, holds-replace}
use Rattle.lin_base.proofs.Combine.{IsSmall, small_combined}
use Rattle.cert_tree.specs.Children.{with_each, part_of, and_part, parts_at, combination, cut_of, branch_facts, residue, residue_children, zero_with, with_value, solve_steps, solve_child}
use Rattle.cert_tree.specs.Points.{Side, solved, moved, divides_part}
use Rattle.cert_tree.specs.Narrow.{some_and, option_then, if_narrow}

-- a modulus is at least 1
abbrev pub is_proper : Fact → Bool
is_proper (AtMostZero t) = true
is_proper (Zero t) = true
is_proper (Divides m t) = is_positive m
is_proper (NotDivides m t) = is_positive m

-- the fact is true, and its modulus is at least 1
abbrev pub Good : Valuation → Fact → Type 0
Good v f = (holds v f ≡ true) × (is_proper f ≡ true)

abbrev pub EachHolds : Valuation → List Fact → Type 0
EachHolds v facts = AllByRecursion (Good v) facts

-- the facts of some list are true
abbrev pub SomeHolds : Valuation → List (List Fact) → Type 0
SomeHolds v [] = ⊥
SomeHolds v (facts ∷ more) = EachHolds v facts ⊎ SomeHolds v more

-- ---- lists
pub some_and_out : {A : Type 0} (o : Option A) (test : A → Bool) → some_and o test ≡ true → (a : A) × (o ≡ Some a) × (test a ≡ true)
some_and_out None test e = absurd (false≢true e)
some_and_out (Some a) test e = (a, refl, e)

pub option_then_out : {A B : Type 0} (o : Option A) (f : A → Option B) (b : B) → option_then o f ≡ Some b → (a : A) × (o ≡ Some a) × (f a ≡ Some b)
option_then_out None f b e = absurd (cc)
option_then_out (Some a) f b e = (a, refl, e)

pub if_by : {A : Type 0} (b : Bool) (a c : A) → cond b (Some a) None ≡ Some c → (b ≡ true) × (a ≡ c)
if_by true a c e = (refl, cc)
if_by false a c e = absurd (cc)

pub if_narrow_out : {A : Type 0} (steps : List Wide) (a c : A) → if_narrow steps a ≡ Some c → (is_narrow steps ≡ true) × (a ≡ c)
if_narrow_out steps a c e = if_by (is_narrow steps) a c e

pub all_at : {A : Type 0} (P : A → Type 0) (xs : List A) (n : ℕ) (a : A) → AllByRecursion P xs → slice_get xs n ≡ Some a → P a
all_at P [] n a all e = absurd (cc)
all_at P (x ∷ xs) zero a all e = let s : x ≡ a = cc in subst P s all.0
all_at P (x ∷ xs) (suc n) a all e = all_at P xs n a all.1 e

pub all_snoc : {A : Type 0} (P : A → Type 0) (xs : List A) (a : A) → AllByRecursion P xs → P a → AllByRecursion P (xs ++ a ∷ [])
all_snoc P [] a all h = (h, tt)
all_snoc P (x ∷ xs) a all h = (all.0, all_snoc P xs a all.1 h)

pub all_append : {A : Type 0} (P : A → Type 0) (xs ys : List A) → AllByRecursion P xs → AllByRecursion P ys → AllByRecursion P (xs ++ ys)
all_append P [] ys all h = h
all_append P (x ∷ xs) ys all h = (all.0, all_append P xs ys all.1 h)

pub all_map : {A : Type 0} (P Q : A → Type 0) (f : A → A) (xs : List A) → ((a : A) → P a → Q (f a)) → AllByRecursion P xs → AllByRecursion Q (map f xs)
all_map P Q f [] h all = tt
all_map P Q f (x ∷ xs) h all = (h x all.0, all_map P Q f xs h all.1)

pub some_left : (v : Valuation) (xs ys : List (List Fact)) → SomeHolds v xs → SomeHolds v (xs ++ ys)
some_left v [] ys some = absurd some
some_left v (x ∷ xs) ys some = elim some [ inl h ↦ inl h | inr more ↦ inr (some_left v xs ys more) ]

pub some_right : (v : Valuation) (xs ys : List (List Fact)) → SomeHolds v ys → SomeHolds v (xs ++ ys)
some_right v [] ys some = some
some_right v (x ∷ xs) ys some = inr (some_right v xs ys some)

pub some_count : (v : Valuation) (f : ℕ → List Fact) (i n j : ℕ) → j < n → EachHolds v (f (i + j)) → SomeHolds v (map f (count_from i n))
some_count v f i zero j h all = absurd (omega (arith, h))
some_count v f i (suc n) zero h all = inl (rw add-zero at all)
some_count v f i (suc n) (suc j) h all =
    let same : suc i + j ≡ i + suc j = omega arith in
    inr (some_count v f (suc i) n j (omega (arith, h)) (rw same all))

pub some_below : (v : Valuation) (f : ℕ → List Fact) (z : ℤ) (j : ℕ) → pos j <ℤ z → EachHolds v (f j) → SomeHolds v (map f (numbers_below z))
some_below v f (pos n) j h all = some_count v f 0 n j (omega (arith, ints, h)) (rw zero-add all)
some_below v f (negsuc n) j h all = absurd (omega (arith, ints, h))

-- ---- Clash
pub no_unknown : (ts : Terms) → list_any (λ e. true) ts ≡ false → list_all (λ e. false) ts ≡ true
no_unknown [] e = refl
no_unknown (t ∷ ts) e = absurd (true≢false e)

pub clash_false : (v : Valuation) (f : Fact) → is_false f ≡ true → holds v f ≡ true → ⊥
clash_false v f e h =
    let both = and_parts _ _ e in
    let none = no_unknown (sum_of f).coefs (not-true _ both.0) in
    let same = same_holds (λ x. false) v (λ x. pos 0) (λ x n. absurd (false≢true n)) f none in
    both_ways _ (not-true _ both.1) (sym same ∙ h)

-- ---- Case
pub each_with : (v : Valuation) (facts clause : List Fact) → EachHolds v facts → list_any (holds v) clause ≡ true → list_all is_proper clause ≡ true → SomeHolds v (with_each facts clause)
each_with v facts [] all e proper = absurd (false≢true e)
each_with v facts (f ∷ fs) all e proper =
    let both = and_parts _ _ proper in
    elim (or_cases (holds v f) (list_any (holds v) fs) e) [
      | inl h ↦ inl (all_snoc (Good v) facts f all (h, both.0))
      | inr h ↦ inr (each_with v facts fs all h both.1)
    ]

-- ---- Combine
at_most_small : (v : Valuation) (t : Lin) (k : ℤ) (e : Lin × ℤ) (b : Bool) → int_le (pos 0) k ≡ b → cond b (Some (t, k)) None ≡ Some e → holds v (AtMostZero t) ≡ true → IsSmall v e
at_most_small v t k e true b is h =
    let s : (t, k) ≡ e = cc in
    let small = le_zero_up k (value v t) (omega (arith, ints, b)) h in
    subst (IsSmall v) s (omega (arith, ints, small))
at_most_small v t k e false b is h = absurd (cc)

part_small : (v : Valuation) (f : Fact) (k : ℤ) (e : Lin × ℤ) → part_of f k ≡ Some e → holds v f ≡ true → IsSmall v e
part_small v (AtMostZero t) k e is h = at_most_small v t k e (int_le (pos 0) k) refl is h
part_small v (Zero t) k e is h =
    let s : (t, k) ≡ e = cc in
    let z = ap (λ w. k *ℤ w) (is_zero_out (value v t) h) ∙ *ℤ-zero k in
    subst (IsSmall v) s (omega (arith, ints, z))
part_small v (Divides m t) k e is h = absurd (cc)
part_small v (NotDivides m t) k e is h = absurd (cc)

part_at_small : (v : Valuation) (facts : List Fact) (n : ℕ) (k : ℤ) (o : Option Fact) (e : Lin × ℤ) → slice_get facts n ≡ o → (elim o [ None ↦ None | Some f ↦ part_of f k ]) ≡ Some e → EachHolds v facts → IsSmall v e
part_at_small v facts n k None e s is all = absurd (cc)
part_at_small v facts n k (Some f) e s is all = part_small v f k e is (all_at (Good v) facts n f all s).0

and_part_out : (o : Option (Lin × ℤ)) (r : Option (List (Lin × ℤ))) (parts : List (Lin × ℤ)) → and_part o r ≡ Some parts → (e : Lin × ℤ) × (es : List (Lin × ℤ)) × (o ≡ Some e) × (r ≡ Some es) × (e ∷ es ≡ parts)
and_part_out None None parts is = absurd (cc)
and_part_out None (Some es) parts is = absurd (cc)
and_part_out (Some e) None parts is = absurd (cc)
and_part_out (Some e) (Some es) parts is = (e, es, refl, refl, cc)

pub parts_small : (v : Valuation) (facts : List Fact) (list : List (ℕ × ℤ)) (parts : List (Lin × ℤ)) → parts_at facts list ≡ Some parts → EachHolds v facts → AllByRecursion (IsSmall v) parts
parts_small v facts [] parts is all = let s : [] ≡ parts = cc in subst (AllByRecursion (IsSmall v)) s tt
parts_small v facts ((n, k) ∷ list) parts is all =
    let o = and_part_out _ _ parts is in
    subst (AllByRecursion (IsSmall v)) o.4 (part_at_small v facts n k (slice_get facts n) o.0 refl o.2 all, parts_small v facts list o.1 o.3 all)

pub combination_holds : (v : Valuation) (facts : List Fact) (list : List (ℕ × ℤ)) (t : Lin) → combination facts list ≡ Some t → EachHolds v facts → holds v (AtMostZero t) ≡ true
combination_holds v facts list t e all =
    let o = option_then_out (parts_at facts list) (λ parts. if_narrow (combined_steps parts) (combined parts)) t e in
    let is = if_narrow_out (combined_steps o.0) (combined o.0) t o.2 in
    let small = small_combined v o.0 (parts_small v facts list o.0 o.1 all) in
    subst (λ u. holds v (AtMostZero u) ≡ true) is.1 (le_in (value v (combined o.0)) (pos 0) small)

-- ---- Branch
pub above_holds : (v : Valuation) (t : Lin) → holds v (AtMostZero t) ≡ false → holds v (AtMostZero (above t)) ≡ true
above_holds v t e =
    let n = value-add_number v (negated t) (pos 1) in
    let m = value-negated v t in
    le_in (value v (above t)) (pos 0) (omega (arith, ints, e))

pub branch_facts_out : (params : ℕ) (used : List ℕ) (t : Lin) (both : Fact × Fact) → branch_facts params used t ≡ Some both → (both.0 ≡ AtMostZero t) × (both.1 ≡ AtMostZero (above t))
branch_facts_out params used t both e =
    let made : Fact × Fact = (AtMostZero t, AtMostZero (above t)) in
    let is : made ≡ both = (if_by {A = Fact × Fact} (is_lin t && is_over_free params used t && is_narrow (above_steps t)) made both e).1 in
    (ap (λ (w : Fact × Fact). w.0) (sym is), ap (λ (w : Fact × Fact). w.1) (sym is))

-- ---- Solve
pub positive_from : (z : ℤ) → int_lt z (pos 0) ≡ false → is_zero z ≡ false → pos 0 <ℤ z
positive_from (pos zero) lt nz = absurd (true≢false nz)
positive_from (pos (suc n)) lt nz = omega (arith, ints)
positive_from (negsuc n) lt nz = absurd (true≢false lt)

pub positive_in : (b : ℤ) → pos 0 <ℤ b → is_positive b ≡ true
positive_in b h = lt_in (pos 0) b h

pub positive_out : (b : ℤ) → is_positive b ≡ true → pos 0 <ℤ b
positive_out b h = omega (arith, ints, h)

positive_mul : (a b : ℤ) → pos 0 <ℤ a → is_positive b ≡ true → is_positive (a *ℤ b) ≡ true
positive_mul a b h e = positive_in (a *ℤ b) (mul_positive a b h (positive_out b e))

proper_replaced : (q : ℕ) (b : ℤ) (s : Lin) → pos 0 <ℤ b → (f : Fact) → is_proper f ≡ true → is_proper (replaced q b s f) ≡ true
proper_replaced q b s h (AtMostZero t) e = refl
proper_replaced q b s h (Zero t) e = refl
proper_replaced q b s h (Divides m t) e = positive_mul b m h e
proper_replaced q b s h (NotDivides m t) e = positive_mul b m h e

pub proper_replace : (q : ℕ) (b : ℤ) (s : Lin) → pos 0 <ℤ b → (f : Fact) → is_proper f ≡ true → is_proper (replace q b s f) ≡ true
proper_replace q b s h f e =
    cond_both (occurs q (sum_of f)) (replaced q b s f) f (λ g. is_proper g ≡ true) (λ _. proper_replaced q b s h f e) (λ _. e)

pub not_or_right : (a b : Bool) → not (a || b) ≡ true → not b ≡ true
not_or_right true b e = absurd (false≢true e)
not_or_right false b e = e

pub not_or_left : (a b : Bool) → not (a || b) ≡ true → a ≡ false
not_or_left true b e = absurd (false≢true e)
not_or_left false b e = refl

-- b is positive and b*q is s
abbrev pub Solves : Valuation → ℕ → Side → Type 0
Solves v q e = (pos 0 <ℤ e.b) × (value v e.rest ≡ e.b *ℤ v q)

solved_by : (v : Valuation) (q : ℕ) (t : Lin) (c : Bool) → int_lt (coef q t) (pos 0) ≡ c → is_zero (coef q t) ≡ false → value v t ≡ pos 0 → Solves v q (moved (cond c (record { b = neg_ℤ (coef q t); rest = negated (without q t); steps = negated_steps t }) (record { b = coef q t; rest = without q t; steps = [] })))
solved_by v q t true lt nz z =
    let s = value-split v q t in
    let m = value-negated v (negated (without q t)) in
    let n = value-negated v (without q t) in
    let d = neg-mul (coef q t) (v q) in
    (omega (arith, ints, lt), omega (arith, ints))
solved_by v q t false lt nz z =
    let s = value-split v q t in
    let n = value-negated v (without q t) in
    let p = positive_from (coef q t) lt nz in
    (p, omega (arith, ints))

pub solved_solves : (v : Valuation) (q : ℕ) (t : Lin) → is_zero (coef q t) ≡ false → value v t ≡ pos 0 → Solves v q (solved q t)
solved_solves v q t nz z = solved_by v q t (int_lt (coef q t) (pos 0)) refl nz z

zero_with_by : (q : ℕ) (t u : Lin) (c : Bool) → is_zero (coef q t) ≡ c → cond c None (Some t) ≡ Some u → (is_zero (coef q u) ≡ false) × (t ≡ u)
zero_with_by q t u true e is = absurd (cc)
zero_with_by q t u false e is = let s : t ≡ u = cc in (rw (← s) e, s)

pub zero_with_out : (q : ℕ) (f : Fact) (u : Lin) → zero_with q f ≡ Some u → (v : Valuation) → holds v f ≡ true → Solves v q (solved q u)
zero_with_out q (Zero t) u is v h =
    let o = zero_with_by q t u (is_zero (coef q t)) refl is in
    solved_solves v q u o.0 (rw (← o.1) (is_zero_out (value v t) h))
zero_with_out q (AtMostZero t) u is v h = absurd (cc)
zero_with_out q (Divides m t) u is v h = absurd (cc)
zero_with_out q (NotDivides m t) u is v h = absurd (cc)

-- where b*q is s: the facts with s put for b*q
pub with_value_holds : (v : Valuation) (q : ℕ) (b : ℤ) (s : Lin) (facts : List Fact) → pos 0 <ℤ b → value v s ≡ b *ℤ v q → EachHolds v facts → EachHolds v (with_value q b s facts)
with_value_holds v q b s facts h e all =
    all_append (Good v) (map (replace q b s) facts) (divides_part b s)
    (all_map (Good v) (Good v) (replace q b s) facts (λ f g. (holds-replace v q b s h e f ∙ g.0, proper_replace q b s h f g.1)) all)
    (cond_both (is_same b (pos 1)) [] (Divides b s ∷ []) (EachHolds v) (λ _. tt) (λ _. ((divides_in b (value v s) (v q) (e ∙ *ℤ_comm b (v q)), positive_in b h), tt)))

pub solve_child_holds : (v : Valuation) (facts : List Fact) (n q : ℕ) (made : List Fact) → solve_child facts n q ≡ Some made → EachHolds v facts → EachHolds v made
solve_child_holds v facts n q made e all =
    let o = option_then_out (option_then (slice_get facts n) (zero_with q)) (λ t. if_narrow (solve_steps q facts t) (with_value q (solved q t).b (solved q t).rest facts)) made e in
    let f = option_then_out (slice_get facts n) (zero_with q) o.0 o.1 in
    let is = zero_with_out q f.0 o.0 f.2 v (all_at (Good v) facts n f.0 all f.1).0 in
    let value_is = if_narrow_out (solve_steps q facts o.0) (with_value q (solved q o.0).b (solved q o.0).rest facts) made o.2 in
    subst (EachHolds v) value_is.1 (with_value_holds v q (solved q o.0).b (solved q o.0).rest facts is.0 is.1 all)

-- ---- Cut
pub cut_holds : (v : Valuation) (f g : Fact) → cut_of f ≡ Some g → Good v f → Good v g
cut_holds v (AtMostZero s) g e h = let is : tight (AtMostZero s) ≡ g = cc in subst (Good v) is (tight_keeps v (AtMostZero s) ∙ h.0, refl)
cut_holds v (Zero s) g e h = absurd (cc)
cut_holds v (Divides m s) g e h = absurd (cc)
cut_holds v (NotDivides m s) g e h = absurd (cc)

-- ---- Residues
pub some_residue : (v : Valuation) (facts : List Fact) (m : ℤ) (t : Lin) → pos 0 <ℤ m → EachHolds v facts → SomeHolds v (residue_children facts m t)
some_residue v facts m t h all =
    let r = residue_of (value v t) m h in
    let n = value-add_number v t (neg_ℤ (pos r.0)) in
    let here : divides m (value v (add_number t (neg_ℤ (pos r.0)))) ≡ true = divides_in m (value v (add_number t (neg_ℤ (pos r.0)))) r.1 (omega (arith, ints, n, r.3)) in
    some_below v (λ i. facts ++ residue m t i ∷ []) m r.0 r.2 (all_snoc (Good v) facts (residue m t r.0) all (here, positive_in m h))
