use Rattle.std.proofs.Common.{◌∙◌, ap, sym}
use Rattle.std.specs.Prelude.{option_map}
use Rattle.term_base.specs.Lits.{lit}
use Rattle.term_base.specs.TreeLists.{item-lits}
use Rattle.hier_rules.proofs.literals.literal_at.Goals as goal

pub returns : goal.returns
returns c = ap (option_map lit) c.get.ensures.value ∙ sym (item-lits c.args.c.now.literals c.args.number)
