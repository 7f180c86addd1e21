use Rattle.std.proofs.Common.{false, ◌++◌, length}
use Rattle.text_pieces.specs.Ending.{no_byte}
use Rattle.text_pieces.proofs.Lifts.{Lift}
use Rattle.term_text.specs.Clauses.{ClauseParts, MoreLiterals}
use Rattle.term_text.proofs.clauses.literals.Given as goal

abbrev pub invariant-loop-behind : goal.invariant-loop-behind
invariant-loop-behind l = Lift no_byte (ClauseParts false) l.fn.text MoreLiterals l.rest (λ ls. record { literals = l.all ++ ls })

abbrev pub decreases-loop-behind : goal.decreases-loop-behind
decreases-loop-behind l = length l.rest
