-- Unknowns that occur have a coefficient other than 0.
use Rattle.std.specs.Prelude.{◌≡◌, ℕ, ℤ, pos, negsuc, Bool, true, false, ◌==◌, ◌||◌, nat_lt, unsigned_abs, [], ◌∷◌, Option, Some, None, if◌then◌else◌}
use Rattle.std.specs.List.{list_any}
use Rattle.std.proofs.Common.{refl, ◌∙◌, ap, subst, arith, eq-eqb}
use Rattle.lin_base.specs.declared.sums.Lin.{Lin}
use Rattle.lin_base.specs.Whole.{is_zero}
use Rattle.lin_base.specs.Fact.{is_lin}
use Rattle.lin_base.specs.Sum.{Terms, coef, occurs}
use Rattle.lin_base.proofs.Occurring.{coef-occurring}
use Rattle.cert_tree.specs.Search.{least_coef}
use Rattle.cooper.proofs.Places.{placing}

zero_is : (z : ℤ) → is_zero z ≡ true → z ≡ pos 0
zero_is (pos n) h = grind (arith, h)
zero_is (negsuc n) h = grind (arith, h)

pub nonzero-occurring : (x : ℕ) (t : Lin) → is_lin t ≡ true → occurs x t ≡ true → is_zero (coef x t) ≡ false
nonzero-occurring x t lin has = by_cases (is_zero (coef x t)) refl
  where
    by_cases : (b : Bool) → is_zero (coef x t) ≡ b → b ≡ false
    by_cases false h = refl
    by_cases true h = absurd (coef-occurring x t lin has (zero_is (coef x t) h))

or_true : (b : Bool) → (b || true) ≡ true
or_true true = refl
or_true false = refl

-- the term that is chosen is one of the terms
abbrev Occurs : Terms → ℕ × ℤ → Type 0
Occurs ts e = list_any (λ u. u.0 == e.0) ts ≡ true

here : (u f : ℕ × ℤ) (ts : Terms) → u ≡ f → Occurs (u ∷ ts) f
here u f ts is = ap (λ b. b || list_any (λ w. w.0 == f.0) ts) (eq-eqb u.0 f.0 (ap (λ p. p.0) is))

there : (u f : ℕ × ℤ) (ts : Terms) → Occurs ts f → Occurs (u ∷ ts) f
there u f ts h = ap (λ b. (u.0 == f.0) || b) h ∙ or_true (u.0 == f.0)

one_of : (b : Bool) (u f g : ℕ × ℤ) (ts : Terms) → Occurs ts f → Some (if b then f else u) ≡ Some g → Occurs (u ∷ ts) g
one_of true u f g ts h is = let same : f ≡ g = cc in there u g ts (subst (Occurs ts) same h)
one_of false u f g ts h is = here u g ts (cc)

by_least : (u e : ℕ × ℤ) (ts : Terms) (o : Option (ℕ × ℤ)) → ((f : ℕ × ℤ) → o ≡ Some f → Occurs ts f)
    → (let a : Option (ℕ × ℤ) = elim o [ None ↦ Some u | Some f ↦ Some (if nat_lt (unsigned_abs f.1) (unsigned_abs u.1) then f else u) ] in a) ≡ Some e → Occurs (u ∷ ts) e
by_least u e ts None found is = here u e ts (cc)
by_least u e ts (Some f) found is = one_of (nat_lt (unsigned_abs f.1) (unsigned_abs u.1)) u f e ts (found f refl) is

least_occurs : (ts : Terms) (e : ℕ × ℤ) → least_coef ts ≡ Some e → Occurs ts e
least_occurs [] e h = absurd (cc)
least_occurs (u ∷ ts) e h = by_least u e ts (least_coef ts) (least_occurs ts) h

pub nonzero-least : (t : Lin) (e : ℕ × ℤ) → is_lin t ≡ true → least_coef t.coefs ≡ Some e → is_zero (coef e.0 t) ≡ false
nonzero-least t e lin h = nonzero-occurring e.0 t lin (least_occurs t.coefs e h)

pub ruleset choices = (placing, nonzero-occurring)
