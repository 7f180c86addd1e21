use Rattle.std.proofs.Common.{◌∙◌, ap}
use Rattle.term_base.specs.Substitution.{image}
use Rattle.unifier.proofs.ImageLemmas.{moving_is, moving_images}
use Rattle.unifier.proofs.images.substitution_of.Goals as goal

pub from_pairs-requires : goal.from_pairs-requires
from_pairs-requires c = moving_is c.args.pairs.now c.in_ok-all.all c.requires c.in_ok-all.ensures

pub returns : goal.returns
returns c = λ v. ap (λ l. image l v) c.from_pairs.ensures ∙ moving_images c.args.pairs.now c.in_ok-all.all c.requires c.in_ok-all.ensures v
