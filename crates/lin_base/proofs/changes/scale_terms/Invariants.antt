use Rattle.std.proofs.Common.{◌≡◌, ◌≤◌, ◌+◌, ◌++◌, length, drop, vec_len, vec_capacity}
use Rattle.lin_base.specs.Sum.{scale_terms}
use Rattle.lin_base.specs.Steps.{first_wide, scale_terms_steps}
use Rattle.lin_base.proofs.changes.scale_terms.Given as goal

-- what is scaled so far, and what is left
abbrev pub invariant-loop-term : goal.invariant-loop-term
invariant-loop-term l =
    (first_wide (scale_terms_steps l.k l.terms) ≡ first_wide (scale_terms_steps l.k (drop l.term-index l.terms)))
    × (scale_terms l.k l.terms ≡ l.scaled.items ++ scale_terms l.k (drop l.term-index l.terms))
    × (vec_len l.scaled + length (drop l.term-index l.terms) ≤ vec_capacity l.scaled)
