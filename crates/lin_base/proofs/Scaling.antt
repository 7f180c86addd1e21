-- One term more of a sum that is multiplied.
use Rattle.std.proofs.Common.{◌≡◌, ℕ, ℤ, pos, ◌<◌, ◌+◌, ◌*ℤ◌, length, get_or, drop, ◌∷◌, ◌++◌, [], refl, cond}
use Rattle.std.proofs.lemmas.List.{at_drop_more}
use Rattle.std.proofs.lemmas.Bool.{cond_both}
use Rattle.lin_base.specs.Whole.{is_zero}
use Rattle.lin_base.specs.Sum.{Terms, scale_terms, with_term}
use Rattle.lin_base.specs.Steps.{scale_terms_steps, multiplies}

pub scale_terms_steps-drop : (k : ℤ) (ts : Terms) (i : ℕ) → i < length ts → scale_terms_steps k (drop i ts) ≡ multiplies k (get_or ts i (0, pos 0)).1 ∷ scale_terms_steps k (drop (i + 1) ts)
scale_terms_steps-drop k ts i h = at_drop_more (scale_terms_steps k) ts i (0, pos 0) h

pub scale_terms-drop : (k : ℤ) (ts : Terms) (i : ℕ) → i < length ts → scale_terms k (drop i ts) ≡ with_term (get_or ts i (0, pos 0)).0 (k *ℤ (get_or ts i (0, pos 0)).1) (scale_terms k (drop (i + 1) ts))
scale_terms-drop k ts i h = at_drop_more (scale_terms k) ts i (0, pos 0) h

pub with_term-append : (x : ℕ) (k : ℤ) (ts : Terms) → with_term x k ts ≡ with_term x k [] ++ ts
with_term-append x k ts = cond_both (is_zero k) [] ((x, k) ∷ []) (λ us. cond (is_zero k) ts ((x, k) ∷ ts) ≡ us ++ ts) (λ e. rw e refl) (λ e. rw e refl)
