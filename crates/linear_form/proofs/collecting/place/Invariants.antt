use Rattle.std.proofs.Common.{◌≡◌, ◌+◌, map, drop}
use Rattle.term_base.specs.Trees.{tree}
use Rattle.linear_form.specs.Summands.{place}
use Rattle.linear_form.proofs.collecting.place.Given as goal

abbrev pub invariant-loop-i : goal.invariant-loop-i
invariant-loop-i l = place (tree l.t) (map tree l.terms) ≡ l.i + place (tree l.t) (map tree (drop l.i l.terms))
