-- What the search chooses: the fact that closes, the Zero fact that is solved, the parameter that is split.
use Rattle.std.specs.Prelude.{◌≡◌, ℕ, zero, suc, ◌+◌, ◌==◌, ◌||◌, nat_lt, ℤ, pos, Bool, true, false, cond, ◌⊎◌, unsigned_abs, get_or, List, [], ◌∷◌, Option, Some, None, slice_get, if◌then◌else◌}
use Rattle.std.specs.List.{list_all, list_any, position}
use Rattle.std.proofs.Common.{refl, ◌∙◌, ap, subst, arith, inl, inr}
use Rattle.std.proofs.lemmas.Bool.{cond_both, and_parts, and_from, eq-eqb}
use Rattle.std.proofs.lemmas.List.Quantifiers.{position-Some}
use Rattle.std.proofs.lemmas.Option.{slice_get-get_or}
use Rattle.lin_base.specs.declared.sums.Lin.{Lin}
use Rattle.lin_base.specs.declared.facts.Fact.{Fact}
use Rattle.lin_base.specs.declared.facts.Fact.TheVariants.{AtMostZero, Zero, Divides, NotDivides}
use Rattle.lin_base.specs.Sum.{Terms, number, occurs, each_unknown}
use Rattle.lin_base.specs.Unknowns.{put_in, put_terms_in}
use Rattle.lin_base.specs.Fact.{sum_of, is_false}
use Rattle.cert_tree.specs.Ground.{unknowns}
use Rattle.cert_tree.specs.Search.{least_coef, Choice, choice_in, choice_from}
use Rattle.search_laws.proofs.Occurring.{Over}

pub option_cases : {A : Type 0} (o : Option A) → (o ≡ None) ⊎ ((a : A) × (o ≡ Some a))
option_cases None = inl refl
option_cases (Some a) = inr (a, refl)

-- ---- the fact that closes
pub closing_fact : (facts : List Fact) (n : ℕ) → position is_false facts ≡ Some n → (f : Fact) × (slice_get facts n ≡ Some f) × (is_false f ≡ true)
closing_fact facts n h =
    let nought : Fact = AtMostZero (number (pos 0)) in
    let found = position-Some is_false facts n nought h in
    (get_or facts n nought, slice_get-get_or facts n nought found.0, found.1)

-- ---- the unknown with the least coefficient occurs
pub or_left : (a b : Bool) → a ≡ true → (a || b) ≡ true
or_left true b h = refl
or_left false b h = absurd (cc)

pub or_right : (a b : Bool) → b ≡ true → (a || b) ≡ true
or_right true b h = refl
or_right false b h = h

first_occurs : (x : ℕ) (k : ℤ) (ts : Terms) (e : ℕ × ℤ) → (x, k) ≡ e → list_any (λ u. u.0 == e.0) ((x, k) ∷ ts) ≡ true
first_occurs x k ts e h = subst (λ (d : ℕ × ℤ). list_any (λ u. u.0 == d.0) ((x, k) ∷ ts) ≡ true) h (or_left (x == x) (list_any (λ u. u.0 == x) ts) (eq-eqb x x refl))

least_of_two : (b : Bool) (x : ℕ) (k : ℤ) (ts : Terms) (d e : ℕ × ℤ) → list_any (λ u. u.0 == d.0) ts ≡ true → Some (if b then d else (x, k)) ≡ Some e → list_any (λ u. u.0 == e.0) ((x, k) ∷ ts) ≡ true
least_of_two true x k ts d e h is =
    let same : d ≡ e = cc in
    subst (λ (c : ℕ × ℤ). list_any (λ u. u.0 == c.0) ((x, k) ∷ ts) ≡ true) same (or_right (x == d.0) (list_any (λ u. u.0 == d.0) ts) h)
least_of_two false x k ts d e h is = let same : (x, k) ≡ e = cc in first_occurs x k ts e same

least_coef-occurs : (ts : Terms) (e : ℕ × ℤ) → least_coef ts ≡ Some e → list_any (λ u. u.0 == e.0) ts ≡ true
least_coef-occurs [] e h = absurd (cc)
least_coef-occurs ((x, k) ∷ ts) e h = elim (option_cases (least_coef ts)) [
  | inl none ↦ let is : Some (x, k) ≡ Some e = rw none at h in let same : (x, k) ≡ e = cc in first_occurs x k ts e same
  | inr some ↦
      let d : ℕ × ℤ = some.0 in
      least_of_two (nat_lt (unsigned_abs d.1) (unsigned_abs k)) x k ts d e (least_coef-occurs ts d some.1) (rw some.1 at h)
]

-- ---- the Zero fact
abbrev pub Chosen : List Fact → ℕ → Choice → Type 0
Chosen facts n c = (slice_get facts n ≡ Some (Zero c.sum)) × (occurs c.p c.sum ≡ true)

choice_of : (n : ℕ) (t : Lin) (o : Option (ℕ × ℤ)) (c : Choice) → least_coef t.coefs ≡ o → (let r : Option Choice = elim o [ None ↦ None | Some e ↦ Some (record { fact = n; p = e.0; sum = t }) ] in r) ≡ Some c → (c.fact ≡ n) × (Zero t ≡ Zero c.sum) × (occurs c.p c.sum ≡ true)
choice_of n t None c h is = absurd (cc)
choice_of n t (Some e) c h is =
    let made : Choice = record { fact = n; p = e.0; sum = t } in
    let same : made ≡ c = cc in
    subst (λ (d : Choice). (d.fact ≡ n) × (Zero t ≡ Zero d.sum) × (occurs d.p d.sum ≡ true)) same (refl, refl, least_coef-occurs t.coefs e h)

choice_here : (n : ℕ) (f : Fact) (c : Choice) → choice_in n f ≡ Some c → (c.fact ≡ n) × (f ≡ Zero c.sum) × (occurs c.p c.sum ≡ true)
choice_here n (Zero t) c is = choice_of n t (least_coef t.coefs) c refl is
choice_here n (AtMostZero t) c is = absurd (cc)
choice_here n (Divides m t) c is = absurd (cc)
choice_here n (NotDivides m t) c is = absurd (cc)

choice_at : (i : ℕ) (facts : List Fact) (c : Choice) → choice_from i facts ≡ Some c → (n : ℕ) × (c.fact ≡ i + n) × Chosen facts n c
choice_at i [] c h = absurd (cc)
choice_at i (f ∷ fs) c h = elim (option_cases (choice_in i f)) [
  | inl none ↦
      let rest = choice_at (suc i) fs c (rw (none, choice_from) at h) in
      (suc rest.0, omega (arith, rest.1), rest.2)
  | inr some ↦
      let is : Some some.0 ≡ Some c = rw (some.1, choice_from) at h in
      let same : some.0 ≡ c = cc in
      let here = choice_here i f c (some.1 ∙ ap Some same) in
      (zero, omega (arith, here.0), (ap Some here.1, here.2))
]

pub choice_is : (facts : List Fact) (c : Choice) → choice_from 0 facts ≡ Some c → Chosen facts c.fact c
choice_is facts c h =
    let at_ = choice_at 0 facts c h in
    let same : at_.0 ≡ c.fact = omega (arith, at_.1) in
    subst (λ n. Chosen facts n c) same at_.2

-- ---- the unknowns of facts
module _ (test : ℕ → Bool) where
  put_in_passes : (x : ℕ) (xs : List ℕ) → test x ≡ true → list_all test xs ≡ true → list_all test (put_in x xs) ≡ true
  put_in_passes x [] h all = and_from _ _ h refl
  put_in_passes x (y ∷ ys) h all =
      let both = and_parts (test y) (list_all test ys) all in
      cond_both (nat_lt x y) (x ∷ y ∷ ys) (cond (x == y) (y ∷ ys) (y ∷ put_in x ys)) (λ zs. list_all test zs ≡ true)
      (λ _. and_from _ _ h all)
      (λ _. cond_both (x == y) (y ∷ ys) (y ∷ put_in x ys) (λ zs. list_all test zs ≡ true)
      (λ _. all)
      (λ _. and_from _ _ both.0 (put_in_passes x ys h both.1)))

  put_terms_pass : (ts : Terms) (xs : List ℕ) → list_all (λ e. test e.0) ts ≡ true → list_all test xs ≡ true → list_all test (put_terms_in ts xs) ≡ true
  put_terms_pass [] xs h all = all
  put_terms_pass ((x, k) ∷ ts) xs h all =
      let both = and_parts (test x) (list_all (λ e. test e.0) ts) h in
      put_in_passes x (put_terms_in ts xs) both.0 (put_terms_pass ts xs both.1 all)

  pub unknowns_pass : (facts : List Fact) → Over test facts → list_all test (unknowns facts) ≡ true
  unknowns_pass [] h = refl
  unknowns_pass (f ∷ fs) h =
      let both = and_parts (each_unknown test (sum_of f)) (list_all (λ f. each_unknown test (sum_of f)) fs) h in
      put_terms_pass (sum_of f).coefs (unknowns fs) both.0 (unknowns_pass fs both.1)

  -- the first unknown of the facts passes
  pub first_unknown : (facts : List Fact) (p : ℕ) (ps : List ℕ) → unknowns facts ≡ p ∷ ps → Over test facts → test p ≡ true
  first_unknown facts p ps e h =
      let all : list_all test (p ∷ ps) ≡ true = subst (λ xs. list_all test xs ≡ true) e (unknowns_pass facts h) in
      (and_parts (test p) (list_all test ps) all).0
