use Rattle.std.proofs.Common.{◌+◌, ◌*◌, ◌<◌, ◌++◌, length}
use Rattle.text_pieces.specs.Ending.{no_byte}
use Rattle.text_pieces.proofs.Lifts.{Lift}
use Rattle.term_text.specs.Terms.{SpellsTerm, ListedArguments, MoreArguments}
use Rattle.term_text.proofs.terms.+term.Given as goal

abbrev pub decreases-term : goal.decreases-term
decreases-term l = 4 * length l.text.now + 3

abbrev pub decreases-bracket : goal.decreases-bracket
decreases-bracket l = 4 * length l.text.now + 2

abbrev pub decreases-in_brackets : goal.decreases-in_brackets
decreases-in_brackets l = 4 * length l.text.now + 1

abbrev pub decreases-symbol : goal.decreases-symbol
decreases-symbol l = 4 * length l.text.now + 2

abbrev pub decreases-arguments : goal.decreases-arguments
decreases-arguments l = 4 * length l.text.now + 2

abbrev pub decreases-listed : goal.decreases-listed
decreases-listed l = 4 * length l.text.now + 1

abbrev pub invariant-listed-loop-behind : goal.invariant-listed-loop-behind
invariant-listed-loop-behind l = record {
  lift : Lift no_byte (ListedArguments SpellsTerm) l.fn.text (MoreArguments SpellsTerm) l.rest (λ xs. l.all ++ xs);
  within : length l.rest < length l.fn.text;
}

abbrev pub decreases-listed-loop-behind : goal.decreases-listed-loop-behind
decreases-listed-loop-behind l = length l.rest
