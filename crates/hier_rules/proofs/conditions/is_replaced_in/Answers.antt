use Rattle.std.proofs.Common.{ap}
use Rattle.std.specs.Prelude.{is_some}
use Rattle.term_base.specs.Lits.{lit, lits}
use Rattle.hier_rules.proofs.ConditionLemmas.{replaced_refused, replaced_told}
use Rattle.hier_rules.proofs.TestLemmas.{true_of, false_of}
use Rattle.hier_rules.proofs.LiteralLemmas.{within}
use Rattle.hier_rules.proofs.conditions.is_replaced_in.Goals as goal

pub is_maximal-requires : goal.is_maximal-requires
is_maximal-requires c = within c.args.d.now.literals c.args.place.now.literal (ap is_some c.requires)

pub returns-then-not-is_open_on : goal.returns-then-not-is_open_on
returns-then-not-is_open_on c =
    replaced_refused c.args.signature.now (lits c.args.d.now) c.args.place.now (lit c.args.m.now)
    (false_of c.is_open_on.result c.is_open_on.ensures c.if-not-is_open_on.true)

pub returns : goal.returns
returns c =
    replaced_told c.args.signature.now (lits c.args.d.now) c.args.place.now (lit c.args.m.now) c.is_maximal.result
    (true_of c.is_open_on.result c.is_open_on.ensures c.if-not-is_open_on.false) c.is_maximal.ensures
