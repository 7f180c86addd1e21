use Rattle.std.proofs.Common.{◌≡◌, map, drop}
use Rattle.tff_reader.specs.Scopes.{Scope}
use Rattle.tff_reader.specs.Bindings.{Binds}
use Rattle.tff_reader.specs.Meaning.{meaning}
use Rattle.tff_reader.specs.Contexts.{signature, IsOnWay}
use Rattle.tff_reader.proofs.terms.Context.+formula.Given as goal

abbrev pub invariant-members-loop-member : goal.invariant-members-loop-member
invariant-members-loop-member l = (sc : Scope) → Binds l.fn.scope sc
    → IsOnWay l.all l.number l.scope sc (map (meaning l.self.text.now (signature l.self)) l.members) l.fn.next
    (map (meaning l.self.text.now (signature l.self)) (drop l.member-index l.members))
