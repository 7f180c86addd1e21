use Rattle.std.proofs.Common.{◌≡◌, ◌++◌, map, take}
use Rattle.normal_form.specs.Cnf.{skolem}
use Rattle.normal_form.proofs.conversion.add_skolem_symbols.Given as goal

abbrev pub invariant-loop-v : goal.invariant-loop-v
invariant-loop-v l = l.symbols ≡ l.initial.symbols ++ map (skolem l.scope.universal) (take l.v-index l.variables)
