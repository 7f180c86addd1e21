use Rattle.std.proofs.Common.{◌≡◌, ◌∙◌, sym, arith}
use Rattle.std.proofs.lemmas.Grind.{common_steps}
use Rattle.lin_base.specs.Fact.{holds_at, sum_of}
use Rattle.cert_tree.proofs.ValueChecks.{holds_zero, true_at, false_at}
use Rattle.cert_tree.proofs.holding.is_true.Goals as goal

pub returns-then-holds_at : goal.returns-then-holds_at
returns-then-holds_at c =
    let f = c.fact-item.result in
    let told : c.holds_at.result ≡ holds_at (sum_of f).constant f = grind (arith, common_steps) in
    sym (c.loop-fact.invariant ∙ true_at c.args.clause.now c.loop-fact.fact-index f c.loop-fact-test.true c.fact-item.is (sym (holds_zero f) ∙ sym told ∙ c.if-holds_at.true))

pub loop-fact-preserved : goal.loop-fact-preserved
loop-fact-preserved c =
    let f = c.fact-item.result in
    let told : c.holds_at.result ≡ holds_at (sum_of f).constant f = grind (arith, common_steps) in
    c.loop-fact.invariant ∙ false_at c.args.clause.now c.loop-fact.fact-index f c.loop-fact-test.true c.fact-item.is (sym (holds_zero f) ∙ sym told ∙ c.if-holds_at.false)
