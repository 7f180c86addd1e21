-- Terms without variable and symbol give sums without unknown, and take no memory.
use Rattle.std.specs.Prelude.{◌≡◌, ◌≢◌, ℤ, negsuc, Bool, true, false, ◌||◌, Result, Ok, Err}
use Rattle.std.specs.List.{list_any}
use Rattle.std.proofs.Common.{refl, sym, ◌∙◌, ap}
use Rattle.term_base.specs.declared.terms.Term.{Term}
use Rattle.term_base.specs.declared.terms.Term.TheVariants.{Sum, Scale}
use Rattle.term_base.specs.TermFolds.{fold-Var, fold-Num, fold-True, fold-Sum, fold-Scale, fold-App}
use Rattle.term_base.specs.TermInduction.{term_induction}
use Rattle.lin_base.specs.declared.sums.Lin.{Lin}
use Rattle.lin_base.specs.declared.wides.ArithmeticError.{ArithmeticError}
use Rattle.lin_base.specs.declared.wides.ArithmeticError.TheVariants.{Memory}
use Rattle.lin_base.specs.Sum.{add, add_terms, negated, has_unknown as sum_has_unknown}
use Rattle.lin_base.specs.Steps.{WantsNoMemory}
use Rattle.lin_base.proofs.Lookup.{no_terms, has_unknown-scale}
use Rattle.bg_view.specs.Unknowns.{Numbering}
use Rattle.bg_view.specs.Linear.{Formed, linear_step, linear, unknown_step, has_unknown}

or_parts : (a b : Bool) → (a || b) ≡ false → (a ≡ false) × (b ≡ false)
or_parts true b h = absurd (cc)
or_parts false b h = (refl, h)

has_unknown-add : (t u : Lin) → sum_has_unknown t ≡ false → sum_has_unknown u ≡ false → sum_has_unknown (add t u) ≡ false
has_unknown-add t u h g =
    ap (λ ts. list_any (λ e. true) (add_terms ts u.coefs)) (no_terms t h) ∙ ap (list_any (λ e. true)) (no_terms u g)

-- -1 times a sum
pub has_unknown-negated : (t : Lin) → sum_has_unknown t ≡ false → sum_has_unknown (negated t) ≡ false
has_unknown-negated t h = has_unknown-scale (negsuc 0) t h

-- the parts of a sum, and that of a multiple
sum_parts : (a b : Term) → has_unknown (Sum a b) ≡ false → (has_unknown a ≡ false) × (has_unknown b ≡ false)
sum_parts a b h = or_parts (has_unknown a) (has_unknown b) (sym (fold-Sum Bool unknown_step a b) ∙ h)

scale_part : (k : ℤ) (a : Term) → has_unknown (Scale k a) ≡ false → has_unknown a ≡ false
scale_part k a h = sym (fold-Scale Bool unknown_step k a) ∙ h

-- the sum of a term
pub has_unknown-linear : (n : Numbering) (t : Term) → has_unknown t ≡ false → sum_has_unknown (linear n t).sum ≡ false
has_unknown-linear n = term_induction (λ t. has_unknown t ≡ false → sum_has_unknown (linear n t).sum ≡ false)
    (λ x h. let no : true ≡ false = sym (fold-Var Bool unknown_step x) ∙ h in absurd (cc))
    (λ k h. ap (λ f. sum_has_unknown f.sum) (fold-Num Formed (linear_step n) k))
    (λ h. ap (λ f. sum_has_unknown f.sum) (fold-True Formed (linear_step n)))
    (λ a b at_a at_b h. let parts = sum_parts a b h in ap (λ f. sum_has_unknown f.sum) (fold-Sum Formed (linear_step n) a b) ∙ has_unknown-add (linear n a).sum (linear n b).sum (at_a parts.0) (at_b parts.1))
    (λ k a at_a h. ap (λ f. sum_has_unknown f.sum) (fold-Scale Formed (linear_step n) k a) ∙ has_unknown-scale k (linear n a).sum (at_a (scale_part k a h)))
    (λ f ts _ h. let no : true ≡ false = sym (fold-App Bool unknown_step f ts) ∙ h in absurd (cc))

-- a term and its parts, x and y being a and b
module _ (t : Term) where
  module _ (a b x y : Term) (is : t ≡ Sum a b) (left : x ≡ a) (right : y ≡ b) where
    pub left_part : has_unknown t ≡ false → has_unknown x ≡ false
    left_part h = ap has_unknown left ∙ (sum_parts a b (sym (ap has_unknown is) ∙ h)).0

    pub right_part : has_unknown t ≡ false → has_unknown y ≡ false
    right_part h = ap has_unknown right ∙ (sum_parts a b (sym (ap has_unknown is) ∙ h)).1

  pub multiple_part : (k : ℤ) (a x : Term) → t ≡ Scale k a → x ≡ a → has_unknown t ≡ false → has_unknown x ≡ false
  multiple_part k a x is same h = ap has_unknown same ∙ scale_part k a (sym (ap has_unknown is) ∙ h)

-- a call that ends in this error
pub other_error : {A : Type 0} (r : Result A ArithmeticError) (e : ArithmeticError) → r ≡ Err e → e ≢ Memory → WantsNoMemory r
other_error (Ok v) e is h = tt
other_error (Err d) e is h = let same : d ≡ e = cc in λ m. h (sym same ∙ m)
