use Rattle.std.proofs.Common.{◌≡◌, map, take, pos}
use Rattle.std.specs.Prelude.{int_div}
use Rattle.lin_base.proofs.replacing.tight_by.Given as goal

abbrev pub invariant-loop-term : goal.invariant-loop-term
invariant-loop-term l = l.coefs.items ≡ map (λ e. (e.0, int_div e.1 (pos l.divisor))) (take l.term-index l.term-items)
