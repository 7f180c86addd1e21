use Rattle.std.proofs.Common.{◌≡◌, drop}
use Rattle.std.specs.Cmp.Lexicographic.{pointwise}
use Rattle.tff_signature.specs.Declarations.{same_sort}
use Rattle.tff_signature.proofs.declarations.are_same_sorts.Given as goal

abbrev pub invariant-loop-a : goal.invariant-loop-a
invariant-loop-a l = pointwise (same_sort l.text) l.these l.those ≡ pointwise (same_sort l.text) (drop l.a-index l.these) l.rest
