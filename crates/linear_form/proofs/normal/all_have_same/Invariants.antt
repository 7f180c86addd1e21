use Rattle.std.proofs.Common.{◌≡◌, map, drop}
use Rattle.std.specs.List.{list_all}
use Rattle.linear_form.specs.FormOf.{known}
use Rattle.linear_form.specs.Normal.{has_same}
use Rattle.linear_form.proofs.normal.all_have_same.Given as goal

abbrev pub invariant-loop-k : goal.invariant-loop-k
invariant-loop-k l =
    let test = has_same (map known l.others) in
    list_all test (map known l.ks) ≡ list_all test (map known (drop l.k-index l.ks))
