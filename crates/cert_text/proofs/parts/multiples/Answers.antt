use Rattle.cert_text.proofs.ToldApart.{unambiguous-multiple}
use Rattle.cert_text.proofs.parts.multiples.Goals as goal

pub counted-requires : goal.counted-requires
counted-requires c = unambiguous-multiple
