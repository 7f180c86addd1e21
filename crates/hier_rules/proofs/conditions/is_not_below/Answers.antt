use Rattle.std.proofs.Common.{◌↔◌, subst}
use Rattle.std.specs.Prelude.{IsTrue}
use Rattle.term_base.specs.Lits.{lit}
use Rattle.term_base.specs.Places.{other}
use Rattle.term_base.specs.Trees.{tree}
use Rattle.hier_rules.specs.Rules.{AtLeast}
use Rattle.hier_rules.proofs.TestLemmas.{negated}
use Rattle.hier_rules.proofs.conditions.is_not_below.Goals as goal

pub returns : goal.returns
returns c =
    let S = c.args.signature.now in
    negated c.is_at_least.result
    (subst (λ z. IsTrue c.is_at_least.result ↔ AtLeast S (other c.args.side (lit c.args.l.now)) z) c.side_of.ensures
    (subst (λ z. IsTrue c.is_at_least.result ↔ AtLeast S z (tree c.side_of.result.now)) c.other_side.ensures c.is_at_least.ensures))
