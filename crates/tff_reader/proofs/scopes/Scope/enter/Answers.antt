use Rattle.std.proofs.Common.{rules}
use Rattle.tff_reader.proofs.BindingLemmas.{enter_kept, hidden_kept}
use Rattle.tff_reader.proofs.scopes.Scope.enter.Goals as goal

pub returns : goal.returns
returns c = λ scope h. record {
  variables = enter_kept (λ v. v.items) c.args.self.now.variables.entries c.insert.new.self.entries c.in_ok-from_slice.field-0 c.args.variable c.args.name.now scope
      c.in_ok-from_slice.ensures.items c.in_ok-insert.ensures.entries h.variables;
  hidden = hidden_kept c.args.self.now.bindings.items c.push.new.self.items (record { name = c.in_ok-from_slice-2.field-0; hidden = c.variable-hidden.result })
      (record { name = c.args.name.now; variable = c.args.variable }) scope c.in_ok-push.ensures.items h.hidden c.in_ok-from_slice-2.ensures.items (c.variable-hidden.ensures scope h);
}
