use Rattle.std.proofs.Common.{◌≡◌, map, drop}
use Rattle.std.specs.List.{list_all}
use Rattle.term_base.specs.CoverTest.{is_covered}
use Rattle.term_base.specs.Lits.{lit}
use Rattle.term_base.proofs.covering.are_covered.Given as goal

abbrev pub invariant-loop-l : goal.invariant-loop-l
invariant-loop-l l =
    let test = is_covered (map lit l.k) in
    list_all test (map lit l.ls) ≡ list_all test (map lit (drop l.l-index l.ls))
