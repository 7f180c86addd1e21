use Rattle.std.proofs.Common.{drop}
use Rattle.tff_reader.specs.Scopes.{Scope}
use Rattle.tff_reader.specs.Bindings.{Binds}
use Rattle.tff_reader.proofs.scopes.Scope.leave.Given as goal

abbrev pub invariant-loop : goal.invariant-loop
invariant-loop l = (scope : Scope) → Binds l.fn.self scope → Binds l.self (drop l.counter scope)
