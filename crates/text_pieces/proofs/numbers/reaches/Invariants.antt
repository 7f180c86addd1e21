use Rattle.std.proofs.Common.{◌-◌}
use Rattle.text_pieces.proofs.Windows.{Widened}
use Rattle.text_pieces.proofs.numbers.reaches.Given as goal

abbrev pub invariant-loop-most : goal.invariant-loop-most
invariant-loop-most l = Widened l.value l.low l.least l.most

abbrev pub decreases-loop-most : goal.decreases-loop-most
decreases-loop-most l = l.low - l.most
