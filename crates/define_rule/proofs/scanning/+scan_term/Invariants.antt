use Rattle.std.proofs.Common.{◌≡◌, map, drop}
use Rattle.term_base.specs.Trees.{symbol, tree, trees}
use Rattle.term_base.specs.Lits.{lit}
use Rattle.define_rule.specs.Scan.{scan, scan_each, at_head, then_scan, unfound}
use Rattle.define_rule.proofs.scanning.+scan_term.Given as goal

abbrev pub invariant-loop-arg : goal.invariant-loop-arg
invariant-loop-arg l =
    let c = map lit l.literals in
    scan l.signature c (tree l.t)
    ≡ at_head l.signature (symbol l.f) (tree l.t) (then_scan (unfound l.all_pinned) (scan_each l.signature c (trees (map tree (drop l.arg-index l.arg-items)))))
