use Rattle.std.proofs.Common.{drop, subst}
use Rattle.tff_reader.specs.Scopes.{Scope}
use Rattle.tff_reader.specs.Bindings.{Binds}
use Rattle.tff_reader.proofs.BindingLemmas.{leave_more}
use Rattle.tff_reader.proofs.scopes.Scope.leave.Goals as goal

pub loop-preserved : goal.loop-preserved
loop-preserved c = λ scope h.
    subst (λ (sc : Scope). Binds c.leave_one.new.self sc) (leave_more c.loop.counter scope) (c.in_ok-leave_one.ensures (drop c.loop.counter scope) (c.loop.invariant scope h))
