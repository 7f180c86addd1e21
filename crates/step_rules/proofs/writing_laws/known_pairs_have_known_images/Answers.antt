use Rattle.step_rules.proofs.WrittenImages.{known_pairs}
use Rattle.step_rules.proofs.writing_laws.known_pairs_have_known_images.Goals as goal

pub returns : goal.returns
returns c = known_pairs
