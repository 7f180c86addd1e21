use Rattle.std.proofs.Common.{refl}
use Rattle.tff_reader.proofs.BindingLemmas.{innermost, leave_kept, left_hidden}
use Rattle.tff_reader.proofs.scopes.Scope.leave_one.Goals as goal

pub returns-in_ok-insert-in-Some : goal.returns-in_ok-insert-in-Some
returns-in_ok-insert-in-Some c = λ scope h.
    let b = c.in-Some.binding in
    let bs = c.pop.new.self.items in
    let i = innermost c.args.self.now.bindings.items bs b scope c.in-Some.ensures.items h.hidden in
    record {
      variables = leave_kept (λ v. v.items) c.args.self.now.variables.entries c.insert.new.self.entries b.name b.hidden bs b scope i refl refl c.in_ok-insert-in-Some.ensures.entries h.variables;
      hidden = left_hidden bs b scope i;
    }
