use Rattle.cert_text.proofs.Ones.{one_text}
use Rattle.cert_text.proofs.laws.one_spelling.Goals as goal

pub returns : goal.returns
returns c = one_text
