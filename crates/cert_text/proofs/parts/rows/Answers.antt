use Rattle.cert_text.proofs.ToldApart.{unambiguous-blank_row}
use Rattle.cert_text.proofs.parts.rows.Goals as goal

pub counted-requires : goal.counted-requires
counted-requires c = unambiguous-blank_row
