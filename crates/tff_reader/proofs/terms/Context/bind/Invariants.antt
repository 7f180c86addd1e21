use Rattle.std.proofs.Common.{◌≡◌, ◌+◌, ◌++◌, drop, length}
use Rattle.tff_reader.specs.Scopes.{Scope, variables_from}
use Rattle.tff_reader.specs.Bindings.{Binds}
use Rattle.tff_reader.specs.Contexts.{BindsOnWay}
use Rattle.tff_reader.proofs.terms.Context.bind.Given as goal

abbrev pub invariant-loop-written : goal.invariant-loop-written
invariant-loop-written l = record {
  bound : variables_from l.self.text.now l.self.sorts.now l.fn.next l.variables ≡ l.bound ++ variables_from l.self.text.now l.self.sorts.now l.number (drop l.written-index l.variables);
  number : l.fn.next + length l.variables ≡ l.number + length (drop l.written-index l.variables);
  scope : (sc : Scope) → Binds l.fn.scope sc
      → BindsOnWay l.self.text.now l.self.sorts.now l.fn.next l.variables sc l.scope l.number (drop l.written-index l.variables);
}
