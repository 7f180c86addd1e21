use Rattle.std.proofs.Common.{◌≡◌, ◌++◌, drop}
use Rattle.bg_view.specs.Unknowns.{symbols_in_clauses}
use Rattle.bg_view.proofs.unknowns.append_clauses_symbols.Given as goal

abbrev pub invariant-loop-clause : goal.invariant-loop-clause
invariant-loop-clause l = l.initial.symbols.items ++ symbols_in_clauses l.clauses ≡ l.symbols.items ++ symbols_in_clauses (drop l.clause-index l.clauses)
