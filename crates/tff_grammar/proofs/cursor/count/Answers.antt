use Rattle.std.proofs.Common.{◌∙◌, ap, length}
use Rattle.tff_grammar.proofs.Answering.{pieces_length}
use Rattle.tff_grammar.proofs.Classified.{pieces_are}
use Rattle.tff_grammar.proofs.cursor.count.Goals as goal

pub returns : goal.returns
returns c =
    let left = c.pieces.inside in
    pieces_length left.bytes.now left.tokens.now _ (pieces_are left.bytes.now left.tokens.now) ∙ ap length c.pieces.view_is
