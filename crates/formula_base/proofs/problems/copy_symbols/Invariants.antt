use Rattle.std.proofs.Common.{◌≡◌, take}
use Rattle.formula_base.proofs.problems.copy_symbols.Given as goal

abbrev pub invariant-loop-symbol : goal.invariant-loop-symbol
invariant-loop-symbol l = l.all ≡ take l.symbol-index l.symbols
