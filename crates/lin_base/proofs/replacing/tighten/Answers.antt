use Rattle.std.proofs.Common.{◌≡◌, ◌∙◌, ap, sym, [], arith}
use Rattle.std.proofs.lemmas.Grind.{common_steps}
use Rattle.lin_base.specs.Fact.{sum_of}
use Rattle.lin_base.specs.Sum.{has_unknown}
use Rattle.lin_base.specs.Change.{common_divisor}
use Rattle.lin_base.proofs.Lookup.{no_terms}
use Rattle.lin_base.proofs.replacing.tighten.Goals as goal

-- without an unknown the divisor is 0
pub returns-in_err-tight_by-in_default-divisor_of-clause-memory :
    goal.returns-in_err-tight_by-in_default-divisor_of-clause-memory
returns-in_err-tight_by-in_default-divisor_of-clause-memory c = λ h.
    let none : c.in-AtMostZero.t.coefs ≡ [] = no_terms c.in-AtMostZero.t (sym (ap (λ f. has_unknown (sum_of f)) c.in-AtMostZero.is) ∙ h) in
    let zero : c.divisor_of.result ≡ 0 = c.divisor_of.ensures ∙ ap common_divisor (c.as_slice.ensures ∙ none) in
    absurd (grind (arith, common_steps))
