use Rattle.std.proofs.Common.{◌∙◌, ap, map}
use Rattle.std.specs.Prelude.{option_map}
use Rattle.term_base.specs.Lits.{lit}
use Rattle.term_base.specs.TreeLists.{item-lits}
use Rattle.hier_rules.proofs.LiteralLemmas.{within, without_one}
use Rattle.hier_rules.proofs.literals.take_out.Goals as goal

pub remove-requires : goal.remove-requires
remove-requires c = within c.args.c.now.literals c.args.number c.requires

pub returns-clause-literal : goal.returns-clause-literal
returns-clause-literal c = item-lits c.args.c.now.literals c.args.number ∙ ap (option_map lit) c.remove.ensures.item

pub returns-clause-rest : goal.returns-clause-rest
returns-clause-rest c = ap (map lit) c.remove.ensures.rest ∙ without_one c.args.c.now.literals c.args.number
