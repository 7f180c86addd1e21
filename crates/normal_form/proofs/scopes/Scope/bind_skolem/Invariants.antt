use Rattle.std.proofs.Common.{◌≡◌, ◌++◌, drop}
use Rattle.normal_form.specs.Cnf.{skolem_terms}
use Rattle.normal_form.proofs.scopes.Scope.bind_skolem.Given as goal

abbrev pub invariant-loop-v : goal.invariant-loop-v
invariant-loop-v l = record {
  universal : l.self.universal ≡ l.initial.self.universal;
  terms : l.self.terms ++ skolem_terms l.number l.initial.self.universal (drop l.v-index l.variables)
      ≡ l.initial.self.terms ++ skolem_terms l.next l.initial.self.universal l.variables;
}
