-- The counts of an implication and an equivalence from those of their parts.
use Rattle.std.proofs.Common.{◌≡◌, ℕ, ◌+◌, ◌*◌, true, false, [], ◌∷◌, sum, ap, ◌∙◌, arith}
use Rattle.formula_base.specs.declared.formulas.Formula.{Formula}
use Rattle.formula_base.specs.declared.formulas.Formula.TheVariants.{Implies, Iff}
use Rattle.formula_base.specs.FormulaFolds.{fold-Implies, fold-Iff}
use Rattle.normal_form.specs.Count.{Number, number, number_step, product, saturated}
use Rattle.normal_form.proofs.Saturation.{saturated_product, equivalence_sum, equivalence_product}

pub two_sum : (a b : ℕ) → sum (a ∷ b ∷ []) ≡ a + b
two_sum a b = omega arith

pub two_product : (a b : ℕ) → product (a ∷ b ∷ []) ≡ a * b
two_product a b = grind arith

pub implies_plus : (f g : Formula) → number (Implies f g) true ≡ number f false * number g true
implies_plus f g = ap (λ (m : Number). m true) (fold-Implies Number number_step f g) ∙ two_product (number f false) (number g true)

pub iff_plus : (f g : Formula) → number (Iff f g) true ≡ number f false * number g true + number g false * number f true
iff_plus f g = ap (λ (m : Number). m true) (fold-Iff Number number_step f g)
    ∙ two_sum (product (number f false ∷ number g true ∷ [])) (product (number g false ∷ number f true ∷ []))
    ∙ ap (λ (n : ℕ). n + product (number g false ∷ number f true ∷ [])) (two_product (number f false) (number g true))
    ∙ ap (λ (n : ℕ). number f false * number g true + n) (two_product (number g false) (number f true))

pub iff_minus : (f g : Formula) → number (Iff f g) false ≡ (number f true + number g false) * (number g true + number f false)
iff_minus f g = ap (λ (m : Number). m false) (fold-Iff Number number_step f g)
    ∙ two_product (sum (number f true ∷ number g false ∷ [])) (sum (number g true ∷ number f false ∷ []))
    ∙ ap (λ (n : ℕ). n * sum (number g true ∷ number f false ∷ [])) (two_sum (number f true) (number g false))
    ∙ ap (λ (n : ℕ). (number f true + number g false) * n) (two_sum (number g true) (number f false))

pub counted_iff_plus : (f g : Formula) → saturated (saturated (saturated (number f false) * saturated (number g true)) + saturated (saturated (number g false) * saturated (number f true))) ≡ saturated (number (Iff f g) true)
counted_iff_plus f g = rw (iff_plus f g) (equivalence_sum (number f true) (number f false) (number g true) (number g false))

pub counted_iff_minus : (f g : Formula) → saturated (saturated (saturated (number f true) + saturated (number g false)) * saturated (saturated (number g true) + saturated (number f false))) ≡ saturated (number (Iff f g) false)
counted_iff_minus f g = rw (iff_minus f g) (equivalence_product (number f true) (number f false) (number g true) (number g false))

pub counted_implies_plus : (f g : Formula) → saturated (saturated (number f false) * saturated (number g true)) ≡ saturated (number (Implies f g) true)
counted_implies_plus f g = rw (implies_plus f g) (saturated_product (number f false) (number g true))
