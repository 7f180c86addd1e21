use Rattle.std.proofs.Common.{rules, ◌≡◌, min, take, arith}
use Rattle.std.proofs.lemmas.Grind.{common_steps}
use Rattle.normal_form.proofs.Innermost.{ascends_shorter}
use Rattle.normal_form.proofs.binders.Binders.leave_to.Goals as goal

pub invariant_of-self : goal.invariant_of-self
invariant_of-self c =
    let n = c.self.inside.ascending in
    let d = c.args.depth.terms in
    let terms = c.self.inside.scope.terms in
    let shorter : c.leave_to.new.self.terms ≡ take d terms = first_of (cc, search rules, grind (arith, common_steps)) in
    let least : c.min-self-inside.result ≡ min n d = first_of (search rules, omega arith, grind (arith, common_steps)) in
    rw (shorter, least) (ascends_shorter n d terms c.self.invariant)
