use Rattle.std.proofs.Common.{◌≡◌, ◌≤◌, length}
use Rattle.tff_lexer.specs.Blanks as spec
use Rattle.tff_lexer.proofs.blanks.skip_blanks.Given as goal

abbrev pub invariant-loop-more : goal.invariant-loop-more
invariant-loop-more l = record { same : spec.skip l.rest ≡ spec.skip l.fn.text; within : length l.rest ≤ length l.fn.text }

abbrev pub decreases-loop-more : goal.decreases-loop-more
decreases-loop-more l = length l.rest
