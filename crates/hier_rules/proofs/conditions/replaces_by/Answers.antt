use Rattle.std.proofs.Common.{ap, sym, subst}
use Rattle.std.specs.Prelude.{is_some}
use Rattle.term_base.specs.Lits.{lit, lits}
use Rattle.term_base.specs.Purity.{IsPure}
use Rattle.hier_rules.proofs.ConditionLemmas.{pure_refused, below_refused, replaces_told}
use Rattle.hier_rules.proofs.TestLemmas.{true_of, false_of}
use Rattle.hier_rules.proofs.LiteralLemmas.{within}
use Rattle.hier_rules.proofs.conditions.replaces_by.Goals as goal

pub is_maximal-requires : goal.is_maximal-requires
is_maximal-requires c = within c.args.c.now.literals c.args.literal (ap is_some c.requires)

pub returns-then-is_pure : goal.returns-then-is_pure
returns-then-is_pure c =
    let S = c.args.signature.now in
    pure_refused S (lits c.args.c.now) c.args.literal c.args.side (lit c.args.l.now)
    (subst (IsPure S) c.side_of.ensures (true_of c.is_pure.result c.is_pure.ensures c.if-is_pure.true))

pub returns-then-not-is_not_below : goal.returns-then-not-is_not_below
returns-then-not-is_not_below c =
    below_refused c.args.signature.now (lits c.args.c.now) c.args.literal c.args.side (lit c.args.l.now)
    (false_of c.is_not_below.result c.is_not_below.ensures c.if-not-is_not_below.true)

pub returns : goal.returns
returns c =
    let S = c.args.signature.now in
    replaces_told S (lits c.args.c.now) c.args.literal c.args.side (lit c.args.l.now) c.is_maximal.result
    (λ p. false_of c.is_pure.result c.is_pure.ensures c.if-is_pure.false (subst (IsPure S) (sym c.side_of.ensures) p))
    (true_of c.is_not_below.result c.is_not_below.ensures c.if-not-is_not_below.false)
    c.is_maximal.ensures
