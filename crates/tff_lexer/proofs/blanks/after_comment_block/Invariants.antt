use Rattle.std.proofs.Common.{◌≡◌, length}
use Rattle.tff_lexer.specs.Blanks as spec
use Rattle.tff_lexer.proofs.blanks.after_comment_block.Given as goal

abbrev pub invariant-loop-more : goal.invariant-loop-more
invariant-loop-more l = spec.after_comment_block l.rest ≡ spec.after_comment_block l.fn.text

abbrev pub decreases-loop-more : goal.decreases-loop-more
decreases-loop-more l = length l.rest
