use Rattle.std.proofs.Common.{◌≡◌, map, drop}
use Rattle.term_base.specs.Trees.{tree}
use Rattle.linear_form.specs.Summands.{is_among}
use Rattle.linear_form.proofs.collecting.contains.Given as goal

abbrev pub invariant-loop-u : goal.invariant-loop-u
invariant-loop-u l = is_among (tree l.t) (map tree l.terms) ≡ is_among (tree l.t) (map tree (drop l.u-index l.terms))
