use Rattle.term_base.specs.SimpleSubst.{pure-put_in}
use Rattle.term_base.proofs.laws.pure_stays_pure.Goals as goal

pub returns : goal.returns
returns c = pure-put_in
