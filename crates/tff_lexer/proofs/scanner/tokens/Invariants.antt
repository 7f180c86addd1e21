use Rattle.std.proofs.Common.{length}
use Rattle.tff_lexer.proofs.Scanning.{ScansSo}
use Rattle.tff_lexer.proofs.scanner.tokens.Given as goal

abbrev pub invariant-loop-kind : goal.invariant-loop-kind
invariant-loop-kind l = ScansSo l.bytes l.rest l.tokens.items

abbrev pub decreases-loop-kind : goal.decreases-loop-kind
decreases-loop-kind l = length l.rest
