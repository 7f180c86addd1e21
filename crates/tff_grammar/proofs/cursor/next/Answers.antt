use Rattle.std.proofs.Common.{length}
use Rattle.tff_grammar.proofs.Spans.{first_span, next_spans, next_forms}
use Rattle.tff_grammar.proofs.cursor.next.Goals as goal

pub piece_at-requires-clause-spans : goal.piece_at-requires-clause-spans
piece_at-requires-clause-spans c =
    let left = c.pieces.inside in
    let f = c.in_ok-first in
    first_span (length left.bytes.now) left.tokens.now f.tokens.now f.first f.ensures c.pieces.invariant.spans

pub invariant_of-result : goal.invariant_of-result
invariant_of-result c =
    let left = c.pieces.inside in
    let f = c.in_ok-first in
    record {
      spans = next_spans (length left.bytes.now) left.tokens.now f.tokens.now f.first f.ensures c.pieces.invariant.spans;
      forms = next_forms left.bytes.now left.tokens.now f.tokens.now f.first f.ensures c.pieces.invariant.forms;
    }
