use Rattle.std.proofs.Common.{◌≡◌, map, drop}
use Rattle.term_base.specs.Trees.{tree, same_tree}
use Rattle.term_base.specs.Lits.{lit}
use Rattle.step_rules.specs.Abstraction.{put_back}
use Rattle.step_rules.proofs.abstractions.is_term_of.Given as goal

abbrev pub invariant-loop-d : goal.invariant-loop-d
invariant-loop-d l =
    same_tree (put_back (map lit l.definitions) l.v) (tree l.u) ≡ same_tree (put_back (map lit (drop l.d-index l.definitions)) l.v) (tree l.u)
