use Rattle.std.proofs.Common.{◌≡◌, ◌++◌, map}
use Rattle.normal_form.proofs.joins.copies_before.Given as goal

abbrev pub invariant-loop-more : goal.invariant-loop-more
invariant-loop-more l = l.all.items ≡ map (λ more. l.clause ++ more) l.yielded
