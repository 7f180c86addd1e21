use Rattle.std.proofs.Common.{◌∙◌, sym, subst, get_or, pos, Option, IfSome, IsTrue}
use Rattle.lin_base.specs.declared.sums.Lin.{Lin}
use Rattle.lin_base.specs.Fact.{is_lin}
use Rattle.cert_tree.proofs.Combinations.{at-none, at-some}
use Rattle.cert_tree.proofs.children.combination.Goals as goal

pub returns-in-None-clause-value : goal.returns-in-None-clause-value
returns-in-None-clause-value c =
    let part = get_or c.args.list.now c.loop-part.part-index (0, pos 0) in
    sym (c.loop-part.invariant.value ∙ at-none c.loop-part.sum c.args.facts.now c.args.list.now c.loop-part.part-index c.in-Some.t.now c.loop-part-test.true c.in-Some.ensures.value (sym c.in_ok-next.ensures.value ∙ c.in-None.is))

pub loop-part-preserved : goal.loop-part-preserved
loop-part-preserved c = record {
  value = c.loop-part.invariant.value ∙ at-some c.loop-part.sum c.args.facts.now c.args.list.now c.loop-part.part-index c.in-Some.t.now c.in-Some-2.next c.loop-part-test.true c.in-Some.ensures.value (sym c.in_ok-next.ensures.value ∙ c.in-Some-2.is);
  well_formed = let W : Option Lin → Type 0 = λ o. IfSome o (λ s. IsTrue (is_lin s)) in subst W c.in-Some-2.is c.in_ok-next.ensures.well_formed;
}
