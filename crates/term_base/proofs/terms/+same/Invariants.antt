use Rattle.std.proofs.Common.{◌≡◌, ◌↔◌, drop}
use Rattle.term_base.proofs.terms.+same.Given as goal

abbrev pub invariant-same_all-loop-x : goal.invariant-same_all-loop-x
invariant-same_all-loop-x l = (l.xs ≡ l.ys) ↔ (drop l.x-index l.xs ≡ l.rest)
