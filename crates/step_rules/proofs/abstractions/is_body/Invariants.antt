use Rattle.std.proofs.Common.{◌≡◌, map, drop}
use Rattle.term_base.specs.Lits.{lit, put_clause}
use Rattle.step_rules.specs.Literals.{same_lits}
use Rattle.step_rules.specs.Abstraction.{put_back}
use Rattle.step_rules.proofs.abstractions.is_body.Given as goal

abbrev pub invariant-loop-l : goal.invariant-loop-l
invariant-loop-l l =
    let back = put_back (map lit l.definitions) in
    same_lits (put_clause back (map lit l.body)) (map lit l.c)
    ≡ same_lits (put_clause back (map lit (drop l.l-index l.body))) (map lit l.rest)
