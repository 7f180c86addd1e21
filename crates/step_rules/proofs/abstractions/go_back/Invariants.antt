use Rattle.std.proofs.Common.{◌≡◌, map, drop}
use Rattle.std.specs.List.{list_all}
use Rattle.term_base.specs.Lits.{lit}
use Rattle.step_rules.specs.Abstraction.{goes_back}
use Rattle.step_rules.proofs.abstractions.go_back.Given as goal

abbrev pub invariant-loop-d : goal.invariant-loop-d
invariant-loop-d l =
    let test = goes_back (map lit l.definitions) in
    list_all test (map lit l.some) ≡ list_all test (map lit (drop l.d-index l.some))
