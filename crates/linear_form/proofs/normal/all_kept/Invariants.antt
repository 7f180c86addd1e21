use Rattle.std.proofs.Common.{◌≡◌, map, drop}
use Rattle.std.specs.List.{list_all}
use Rattle.linear_form.specs.FormOf.{known}
use Rattle.linear_form.specs.Normal.{is_kept}
use Rattle.linear_form.proofs.normal.all_kept.Given as goal

abbrev pub invariant-loop-k : goal.invariant-loop-k
invariant-loop-k l =
    let test = is_kept (map known l.others) in
    list_all test (map known l.ks) ≡ list_all test (map known (drop l.k-index l.ks))
