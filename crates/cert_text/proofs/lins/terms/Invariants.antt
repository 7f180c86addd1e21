use Rattle.cert_text.proofs.Rooms.{TermsSo}
use Rattle.cert_text.proofs.lins.terms.Given as goal

abbrev pub invariant-loop-left : goal.invariant-loop-left
invariant-loop-left l = TermsSo l.count l.fn.text l.terms l.low l.left l.rest

abbrev pub decreases-loop-left : goal.decreases-loop-left
decreases-loop-left l = l.left
