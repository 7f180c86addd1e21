use Rattle.std.proofs.Common.{arith}
use Rattle.text_pieces.specs.Numbers.{Signed, Signed128}
use Rattle.text_pieces.proofs.Lifting.{unambiguous-blank}
use Rattle.text_pieces.proofs.Negatives.{one_front-signed, has_one-signed}
use Rattle.text_rows.proofs.lists.several.Goals as goal

pub counted-requires : goal.counted-requires
counted-requires c = unambiguous-blank (Signed (Signed128 0)) (one_front-signed 0) (has_one-signed 0 (omega arith))
