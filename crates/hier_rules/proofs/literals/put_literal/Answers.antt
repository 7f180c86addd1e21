use Rattle.std.proofs.Common.{◌∙◌, ap, map}
use Rattle.term_base.specs.Lits.{lit}
use Rattle.hier_rules.proofs.LiteralLemmas.{within, with_another}
use Rattle.hier_rules.proofs.literals.put_literal.Goals as goal

pub set-requires : goal.set-requires
set-requires c = within c.args.c.now.literals c.args.number c.requires

pub returns : goal.returns
returns c = ap (map lit) c.set.ensures ∙ with_another c.args.c.now.literals c.args.number c.args.l
