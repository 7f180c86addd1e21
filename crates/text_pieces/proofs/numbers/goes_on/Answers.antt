use Rattle.std.proofs.Common.{arith}
use Rattle.text_pieces.specs.Numbers.{Within}
use Rattle.text_pieces.proofs.Reaching.{goes_on_by}
use Rattle.text_pieces.proofs.numbers.goes_on.Goals as goal

pub returns-then-value-gt0-clause-yes : goal.returns-then-value-gt0-clause-yes
returns-then-value-gt0-clause-yes c = λ h. goes_on_by (Within c.args.low c.args.high) c.args.value (omega arith) (c.reaches.ensures.yes h)
