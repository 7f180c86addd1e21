use Rattle.std.proofs.Common.{◌≡◌, ◌++◌, map, take}
use Rattle.term_base.specs.declared.terms.Term.TheVariants.{Var}
use Rattle.normal_form.proofs.scopes.Scope.bind_universal.Given as goal

abbrev pub invariant-loop-v : goal.invariant-loop-v
invariant-loop-v l = record {
  universal : l.self.universal ≡ l.initial.self.universal ++ take l.v-index l.variables;
  terms : l.self.terms ≡ l.initial.self.terms ++ map (λ v. (v.id, Var v)) (take l.v-index l.variables);
}
