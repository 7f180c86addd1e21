use Rattle.term_base.specs.SubstLemmas.{put_in-put_in}
use Rattle.term_base.proofs.laws.substitutions_compose.Goals as goal

pub returns : goal.returns
returns c = put_in-put_in
