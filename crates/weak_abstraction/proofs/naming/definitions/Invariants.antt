use Rattle.std.proofs.Common.{◌≡◌, ◌++◌, map, drop}
use Rattle.term_base.specs.Lits.{lit}
use Rattle.weak_abstraction.specs.Abstraction.{definition}
use Rattle.weak_abstraction.specs.Abstracted.{numbered}
use Rattle.weak_abstraction.specs.Keys.{terms}
use Rattle.weak_abstraction.proofs.naming.definitions.Given as goal

abbrev pub invariant-loop-key : goal.invariant-loop-key
invariant-loop-key l =
    map lit l.all ++ map definition (numbered l.signature l.number (terms (drop l.key-index l.key-items)))
    ≡ map definition (numbered l.signature l.names.first (terms l.key-items))
