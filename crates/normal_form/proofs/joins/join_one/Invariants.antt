use Rattle.std.proofs.Common.{◌≡◌, ◌++◌, map, take}
use Rattle.normal_form.proofs.joins.join_one.Given as goal

abbrev pub invariant-loop-more : goal.invariant-loop-more
invariant-loop-more l = l.all.items ≡ l.initial.all.items ++ map (λ more. l.fn.clause ++ more) (take l.more-index l.others)
