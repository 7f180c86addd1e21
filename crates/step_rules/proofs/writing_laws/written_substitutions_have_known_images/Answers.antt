use Rattle.step_rules.proofs.WrittenImages.{written_images}
use Rattle.step_rules.proofs.writing_laws.written_substitutions_have_known_images.Goals as goal

pub returns : goal.returns
returns c = written_images
