use Rattle.std.proofs.Common.{◌≡◌, map, drop, fold}
use Rattle.term_base.specs.Lits.{lit, put_lit}
use Rattle.define_rule.specs.Pins.{pin}
use Rattle.define_rule.specs.Found.{add_remaining, remaining}
use Rattle.define_rule.proofs.filling.remaining.Given as goal

abbrev pub invariant-loop-l : goal.invariant-loop-l
invariant-loop-l l =
    let c = map lit l.literals in
    fold add_remaining (map lit l.all) (map (put_lit (pin l.signature c)) (map lit (drop l.l-index l.literals))) ≡ remaining l.signature c
