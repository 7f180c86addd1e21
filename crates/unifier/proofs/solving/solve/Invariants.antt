use Rattle.std.proofs.Common.{length}
use Rattle.term_base.specs.Trees.{tree}
use Rattle.unifier.proofs.SearchLemmas.{Stands}
use Rattle.unifier.proofs.solving.solve.Given as goal

abbrev pub invariant-loop-search : goal.invariant-loop-search
invariant-loop-search l = Stands l.signature (tree l.fn.l) (tree l.fn.u) l.search.pairs l.search.l l.search.u l.search.pool.items

abbrev pub decreases-loop-search : goal.decreases-loop-search
decreases-loop-search l = length l.search.pool.items
