-- The value of a fact's sum after a replacement.
use Rattle.std.specs.Prelude.{◌≡◌, ℕ, ℤ, ◌+ℤ◌, ◌*ℤ◌, true, false, if◌then◌else◌}
use Rattle.std.proofs.Common.{refl, ◌∙◌, ap}
use Rattle.lin_base.specs.declared.sums.Lin.{Lin}
use Rattle.lin_base.specs.declared.facts.Fact.{Fact}
use Rattle.lin_base.specs.declared.facts.Fact.TheVariants.{AtMostZero, Zero, Divides, NotDivides}
use Rattle.lin_base.specs.Sum.{Valuation, value, coef, occurs, without, scale}
use Rattle.lin_base.specs.Fact.{sum_of}
use Rattle.lin_base.specs.Change.{replace_in, replaced, replace}
use Rattle.lin_base.proofs.Values.{value-add, value-scale, value-replace_in}

module _ (x : ℕ) (a : ℤ) (t : Lin) where
  replaced_sum : (f : Fact) → sum_of (replaced x a t f) ≡ replace_in x a t (sum_of f)
  replaced_sum (AtMostZero s) = refl
  replaced_sum (Zero s) = refl
  replaced_sum (Divides m s) = refl
  replaced_sum (NotDivides m s) = refl

  pub replace-absent : (f : Fact) → occurs x (sum_of f) ≡ false → replace x a t f ≡ f
  replace-absent f h = ap (λ b. if b then replaced x a t f else f) h

  sum-replace : (f : Fact) → occurs x (sum_of f) ≡ true → sum_of (replace x a t f) ≡ replace_in x a t (sum_of f)
  sum-replace f h = ap (λ b. sum_of (if b then replaced x a t f else f)) h ∙ replaced_sum f

  -- b*T + a*u
  pub value-replace : (v : Valuation) (f : Fact) → occurs x (sum_of f) ≡ true → value v (sum_of (replace x a t f)) ≡ coef x (sum_of f) *ℤ value v t +ℤ a *ℤ value v (without x (sum_of f))
  value-replace v f h =
      let s = sum_of f in
      ap (value v) (sum-replace f h)
      ∙ value-add v (scale (coef x s) t) (scale a (without x s))
      ∙ ap (λ z. z +ℤ value v (scale a (without x s))) (value-scale v (coef x s) t)
      ∙ ap (λ z. coef x s *ℤ value v t +ℤ z) (value-scale v a (without x s))

  -- where T is a*x
  pub value-replace_same : (v : Valuation) (f : Fact) → occurs x (sum_of f) ≡ true → value v t ≡ a *ℤ v x → value v (sum_of (replace x a t f)) ≡ a *ℤ value v (sum_of f)
  value-replace_same v f h e = ap (value v) (sum-replace f h) ∙ value-replace_in v x a t (sum_of f) e
