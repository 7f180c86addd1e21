-- The truth of facts that are made of facts.
use Rattle.std.specs.Prelude.{◌≡◌, ℕ, ℤ, pos, ◌*ℤ◌, ◌<ℤ◌, int_le, Bool, true, not}
use Rattle.std.proofs.Common.{refl, ◌∙◌, ap}
use Rattle.std.proofs.lemmas.Bool.{cond_both}
use Rattle.lin_base.specs.declared.sums.Lin.{Lin}
use Rattle.lin_base.specs.declared.facts.Fact.{Fact}
use Rattle.lin_base.specs.declared.facts.Fact.TheVariants.{AtMostZero, Zero, Divides, NotDivides}
use Rattle.lin_base.specs.Whole.{is_zero, divides}
use Rattle.lin_base.specs.Sum.{Valuation, value, occurs, each_unknown}
use Rattle.lin_base.specs.Fact.{holds, sum_of}
use Rattle.lin_base.specs.Change.{replace, replaced}
use Rattle.lin_base.proofs.Ring.{mul-le_zero, mul-is_zero, same_test, divides_in, divides_out, mul_left_comm, mul_cancel}
use Rattle.lin_base.proofs.Values.{value-replace_in, same_value}

pub mul-divides : (a m z : ℤ) → pos 0 <ℤ a → divides (a *ℤ m) (a *ℤ z) ≡ divides m z
mul-divides a m z h = same_test _ _
    (λ e. let d = divides_out (a *ℤ m) (a *ℤ z) e in divides_in m z d.0 (mul_cancel a z (d.0 *ℤ m) h (d.1 ∙ mul_left_comm d.0 a m)))
    (λ e. let d = divides_out m z e in divides_in (a *ℤ m) (a *ℤ z) d.0 (ap (λ w. a *ℤ w) d.1 ∙ mul_left_comm a d.0 m))

module _ (v : Valuation) (x : ℕ) (a : ℤ) (t : Lin) (above : pos 0 <ℤ a) (is : value v t ≡ a *ℤ v x) where
  -- t for a*x changes no truth where t is a*x
  pub holds-replaced : (f : Fact) → holds v (replaced x a t f) ≡ holds v f
  holds-replaced (AtMostZero s) = ap (λ z. int_le z (pos 0)) (value-replace_in v x a t s is) ∙ mul-le_zero a (value v s) above
  holds-replaced (Zero s) = ap is_zero (value-replace_in v x a t s is) ∙ mul-is_zero a (value v s) above
  holds-replaced (Divides m s) = ap (divides (a *ℤ m)) (value-replace_in v x a t s is) ∙ mul-divides a m (value v s) above
  holds-replaced (NotDivides m s) = ap (λ z. not (divides (a *ℤ m) z)) (value-replace_in v x a t s is) ∙ ap not (mul-divides a m (value v s) above)

  pub holds-replace : (f : Fact) → holds v (replace x a t f) ≡ holds v f
  holds-replace f = cond_both (occurs x (sum_of f)) (replaced x a t f) f (λ g. holds v g ≡ holds v f) (λ e. holds-replaced f) (λ e. refl)

-- the same truth at two valuations
module _ (test : ℕ → Bool) (v w : Valuation) (agree : (x : ℕ) → test x ≡ true → v x ≡ w x) where
  pub same_holds : (f : Fact) → each_unknown test (sum_of f) ≡ true → holds v f ≡ holds w f
  same_holds (AtMostZero s) h = ap (λ z. int_le z (pos 0)) (same_value test v w agree s h)
  same_holds (Zero s) h = ap is_zero (same_value test v w agree s h)
  same_holds (Divides m s) h = ap (divides m) (same_value test v w agree s h)
  same_holds (NotDivides m s) h = ap (λ z. not (divides m z)) (same_value test v w agree s h)
