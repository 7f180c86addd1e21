use Rattle.text_pieces.specs.Numbers.{Word32}
use Rattle.text_pieces.proofs.Reaching.{one_front-number}
use Rattle.text_rows.proofs.lists.listed.Goals as goal

pub separated-requires-clause-told_apart : goal.separated-requires-clause-told_apart
separated-requires-clause-told_apart c = one_front-number Word32
