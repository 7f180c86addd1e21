use Rattle.cert_text.proofs.Conditions.{cert_spelled}
use Rattle.cert_text.proofs.Fitting.{spelled_fits}
use Rattle.cert_text.proofs.laws.no_other_is_spelled.Goals as goal

pub returns : goal.returns
returns c = record { condition = cert_spelled; ranges = spelled_fits }
