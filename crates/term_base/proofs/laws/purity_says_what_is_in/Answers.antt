use Rattle.term_base.proofs.PurityLemmas.{purity-pure, purity-impure, purity-foreground}
use Rattle.term_base.proofs.laws.purity_says_what_is_in.Goals as goal

pub returns : goal.returns
returns c = record { pure = purity-pure; impure = purity-impure; foreground = purity-foreground }
