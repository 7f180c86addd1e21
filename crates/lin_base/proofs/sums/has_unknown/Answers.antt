use Rattle.std.proofs.Common.{◌≡◌, ap, refl, Bool, true, false, not, [], ◌∷◌, IsTrue}
use Rattle.std.specs.List.{list_any}
use Rattle.lin_base.specs.Sum.{Terms}
use Rattle.lin_base.proofs.sums.has_unknown.Goals as goal

by_cases : (b : Bool) (ts : Terms) → (IsTrue b → ts ≡ []) → (ts ≡ [] → IsTrue b) → not b ≡ list_any (λ e. true) ts
by_cases b [] f g = ap not (g refl)
by_cases true (e ∷ ts) f g = absurd (let h = f refl in cc)
by_cases false (e ∷ ts) f g = refl

pub returns : goal.returns
returns c = by_cases c.is_empty.result c.args.t.now.coefs c.is_empty.ensures.0 c.is_empty.ensures.1
