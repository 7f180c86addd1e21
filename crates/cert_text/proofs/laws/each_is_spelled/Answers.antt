use Rattle.cert_text.proofs.Existing.{has-cert}
use Rattle.cert_text.proofs.laws.each_is_spelled.Goals as goal

pub returns : goal.returns
returns c = has-cert
