-- What a sum has at an unknown.
use Rattle.std.specs.Prelude.{◌≡◌, ℕ, ◌<◌, ◌+◌, ℤ, pos, ◌+ℤ◌, true, false, cond, ◌==◌, nat_lt, [], ◌∷◌, IsTrue}
use Rattle.std.specs.List.{list_any}
use Rattle.std.proofs.Common.{refl, sym, ◌∙◌, ap, arith, length, get_or, drop}
use Rattle.std.proofs.lemmas.Int.{ints}
use Rattle.std.proofs.lemmas.List.{at_drop_more}
use Rattle.std.proofs.lemmas.Bool.{and_parts}
use Rattle.std.proofs.lemmas.Bool.Decides.{nat_tests}
use Rattle.lin_base.specs.declared.sums.Lin.{Lin}
use Rattle.lin_base.specs.declared.facts.Fact.{Fact}
use Rattle.lin_base.specs.declared.facts.Fact.TheVariants.{AtMostZero, Zero, Divides, NotDivides}
use Rattle.lin_base.specs.Sum.{Terms, Valuation, value, value_of_terms, coef_in, has_unknown, scale, scale_terms}
use Rattle.lin_base.specs.Fact.{is_ascending, holds, holds_at, sum_of}
use Rattle.lin_base.proofs.Merging.{is_below, ascending_parts}

pub coef_in-below : (x : ℕ) (ts : Terms) → is_below x ts ≡ true → coef_in x ts ≡ pos 0
coef_in-below x [] h = refl
coef_in-below x ((y, k) ∷ ts) h =
    let both = and_parts (nat_lt x y) (is_below x ts) h in
    let other : (y == x) ≡ false = grind (arith, nat_tests) in
    ap (λ b. cond b (k +ℤ coef_in x ts) (coef_in x ts)) other ∙ coef_in-below x ts both.1

pub coef_in-first : (e : ℕ × ℤ) (ts : Terms) → is_ascending (e ∷ ts) ≡ true → coef_in e.0 (e ∷ ts) ≡ e.1
coef_in-first e ts h =
    let same : (e.0 == e.0) ≡ true = grind (arith, nat_tests) in
    ap (λ b. cond b (e.1 +ℤ coef_in e.0 ts) (coef_in e.0 ts)) same ∙ omega (arith, ints, coef_in-below e.0 ts (ascending_parts e ts h).0)

-- the coefficient at the first unknown of what is left
pub coef_in-drop : (ts : Terms) (i : ℕ) → IsTrue (is_ascending (drop i ts)) → i < length ts → coef_in (get_or ts i (0, pos 0)).0 (drop i ts) ≡ (get_or ts i (0, pos 0)).1
coef_in-drop ts i ascending h =
    let e = get_or ts i (0, pos 0) in
    at_drop_more (coef_in e.0) ts i (0, pos 0) h ∙ coef_in-first e (drop (i + 1) ts) (sym (at_drop_more is_ascending ts i (0, pos 0) h) ∙ ascending)

-- a sum without unknown has no term, and nor has its multiple
pub no_terms : (t : Lin) → has_unknown t ≡ false → t.coefs ≡ []
no_terms t h = at_terms t.coefs h
  where
    at_terms : (ts : Terms) → list_any (λ e. true) ts ≡ false → ts ≡ []
    at_terms [] c = refl
    at_terms (e ∷ ts) c = cc

pub has_unknown-scale : (k : ℤ) (t : Lin) → has_unknown t ≡ false → has_unknown (scale k t) ≡ false
has_unknown-scale k t h = ap (λ ts. list_any (λ e. true) (scale_terms k ts)) (no_terms t h)

-- a sum without unknown is its constant
pub value-constant : (v : Valuation) (t : Lin) → has_unknown t ≡ false → value v t ≡ t.constant
value-constant v t h = at_terms t.coefs t.constant h
  where
    at_terms : (ts : Terms) (c : ℤ) → list_any (λ e. true) ts ≡ false → value_of_terms v ts +ℤ c ≡ c
    at_terms [] c h = omega (arith, ints)
    at_terms (e ∷ ts) c h = cc

pub holds-at : (v : Valuation) (f : Fact) → holds v f ≡ holds_at (value v (sum_of f)) f
holds-at v (AtMostZero t) = refl
holds-at v (Zero t) = refl
holds-at v (Divides m t) = refl
holds-at v (NotDivides m t) = refl

-- the truth of a fact without unknown
pub holds-constant : (v : Valuation) (f : Fact) → has_unknown (sum_of f) ≡ false → holds v f ≡ holds_at (sum_of f).constant f
holds-constant v f h = holds-at v f ∙ ap (λ z. holds_at z f) (value-constant v (sum_of f) h)
