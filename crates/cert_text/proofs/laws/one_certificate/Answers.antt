use Rattle.cert_text.proofs.Wholes.{same_cert}
use Rattle.cert_text.proofs.laws.one_certificate.Goals as goal

pub returns : goal.returns
returns c = same_cert
