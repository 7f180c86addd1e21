use Rattle.term_base.specs.Lits.{lit}
use Rattle.hier_rules.specs.Rules.{IsNotBelow}
use Rattle.hier_rules.proofs.ConditionLemmas.{inequality_told, other_told}
use Rattle.hier_rules.proofs.TestLemmas.{true_of, false_of}
use Rattle.hier_rules.proofs.conditions.is_open_on.Goals as goal

pub returns-then-is_inequality : goal.returns-then-is_inequality
returns-then-is_inequality c =
    inequality_told (lit c.args.m.now).relation (IsNotBelow c.args.signature.now c.args.side (lit c.args.m.now))
    (true_of c.is_inequality.result c.is_inequality.ensures c.if-is_inequality.true)

pub returns : goal.returns
returns c =
    other_told (lit c.args.m.now).relation (IsNotBelow c.args.signature.now c.args.side (lit c.args.m.now)) c.is_not_below.result
    (false_of c.is_inequality.result c.is_inequality.ensures c.if-is_inequality.false) c.is_not_below.ensures
