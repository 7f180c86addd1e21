use Rattle.cert_text.proofs.Wholes.{digit_behind}
use Rattle.cert_text.proofs.laws.a_digit_follows.Goals as goal

pub returns : goal.returns
returns c = digit_behind
