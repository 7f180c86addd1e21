use Rattle.std.proofs.Common.{◌∙◌}
use Rattle.bg_view.proofs.Keys.{insert_key-is}
use Rattle.bg_view.proofs.unknowns.note.Goals as goal

pub returns : goal.returns
returns c = c.in_ok-insert_full.ensures.keys ∙ insert_key-is c.args.variables.now.keys c.args.v
