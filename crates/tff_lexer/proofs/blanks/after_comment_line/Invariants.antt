use Rattle.std.proofs.Common.{◌≡◌, length}
use Rattle.tff_lexer.specs.Blanks as spec
use Rattle.tff_lexer.proofs.blanks.after_comment_line.Given as goal

abbrev pub invariant-loop-first : goal.invariant-loop-first
invariant-loop-first l = spec.after_comment_line l.rest ≡ spec.after_comment_line l.fn.text

abbrev pub decreases-loop-first : goal.decreases-loop-first
decreases-loop-first l = length l.rest
