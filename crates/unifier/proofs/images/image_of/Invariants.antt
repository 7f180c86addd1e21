use Rattle.std.proofs.Common.{◌≡◌, drop}
use Rattle.term_base.specs.Substitution.{image}
use Rattle.unifier.proofs.images.image_of.Given as goal

abbrev pub invariant-loop-pair : goal.invariant-loop-pair
invariant-loop-pair l = image l.found l.v ≡ image (drop l.pair-index l.found) l.v
