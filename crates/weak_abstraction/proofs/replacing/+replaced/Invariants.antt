use Rattle.std.proofs.Common.{◌≡◌, ◌+◌, ◌*◌, map, take}
use Rattle.term_base.specs.declared.terms.Term.{size-Term}
use Rattle.term_base.specs.Trees.{tree}
use Rattle.weak_abstraction.specs.Abstracted.{named, replaced_in}
use Rattle.weak_abstraction.specs.Keys.{terms}
use Rattle.weak_abstraction.proofs.replacing.+replaced.Given as goal

abbrev pub decreases-replaced : goal.decreases-replaced
decreases-replaced l = 2 * size-Term l.t.now + 1

abbrev pub decreases-replaced_below : goal.decreases-replaced_below
decreases-replaced_below l = 2 * size-Term l.t.now

abbrev pub invariant-replaced_below-loop-arg : goal.invariant-replaced_below-loop-arg
invariant-replaced_below-loop-arg l =
    let g = named l.signature l.names.first (terms l.names.found.keys) in
    map tree l.all ≡ map (λ t. replaced_in l.signature g (tree t) l.counts) (take l.arg-index l.arg-items)
