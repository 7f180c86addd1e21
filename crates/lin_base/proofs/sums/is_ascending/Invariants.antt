use Rattle.std.proofs.Common.{◌≡◌, ◌∷◌, drop, pos}
use Rattle.lin_base.specs.Fact.{is_ascending}
use Rattle.lin_base.proofs.sums.is_ascending.Given as goal

-- what is left ascends from the last unknown
abbrev pub invariant-loop-term : goal.invariant-loop-term
invariant-loop-term l = is_ascending l.fn.terms ≡ is_ascending ((l.last, pos 0) ∷ drop l.term-index l.rest)
