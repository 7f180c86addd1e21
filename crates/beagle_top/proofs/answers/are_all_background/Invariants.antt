use Rattle.std.proofs.Common.{◌≡◌, drop}
use Rattle.std.specs.List.{list_all}
use Rattle.term_base.specs.Lits.{lits}
use Rattle.term_base.specs.Clauses.{is_background}
use Rattle.beagle_top.proofs.answers.are_all_background.Given as goal

abbrev pub invariant-loop-clause : goal.invariant-loop-clause
invariant-loop-clause l =
    list_all (λ c. is_background l.prepared.symbols (lits c)) l.prepared.clauses ≡ list_all (λ c. is_background l.prepared.symbols (lits c)) (drop l.clause-index l.prepared.clauses)
