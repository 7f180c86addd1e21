use Rattle.term_base.proofs.BackgroundLemmas.{int-background}
use Rattle.term_base.proofs.laws.integers_without_foreground_are_background.Goals as goal

pub returns : goal.returns
returns c = int-background
