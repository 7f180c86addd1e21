use Rattle.beagle_top.proofs.Printed.{checks}
use Rattle.beagle_top.proofs.laws.printed_checks.Goals as goal

pub returns : goal.returns
returns c =
    checks c.proof_behind.ensures c.problems_are_well_typed.ensures c.clauses_are_well_sorted.ensures c.clauses_have_known_symbols.ensures
    c.empty_clause_derives.ensures c.refutation_derives.ensures
