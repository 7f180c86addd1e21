use Rattle.std.proofs.Common.{◌≡◌, ◌++◌, drop}
use Rattle.bg_view.specs.Unknowns.{symbols_in_literals}
use Rattle.bg_view.proofs.unknowns.append_clause_symbols.Given as goal

abbrev pub invariant-loop-literal : goal.invariant-loop-literal
invariant-loop-literal l = l.initial.symbols.items ++ symbols_in_literals l.literal-items ≡ l.symbols.items ++ symbols_in_literals (drop l.literal-index l.literal-items)
