use Rattle.std.proofs.Common.{◌∙◌, refl, sym, subst, get_or, pos, IfSome, IsTrue, List, Option}
use Rattle.std.specs.List.{list_all}
use Rattle.lin_base.specs.declared.facts.Fact.{Fact}
use Rattle.lin_base.specs.Fact.{is_fact}
use Rattle.cert_tree.proofs.ValueChecks.{put_on, put_off}
use Rattle.cert_tree.proofs.holding.at_values.Goals as goal

pub returns-in-None-clause-value : goal.returns-in-None-clause-value
returns-in-None-clause-value c =
    let values = c.args.values.now in
    let p = c.loop-p.p in
    let z = get_or values p (pos 0) in
    let is = c.in_ok-next.ensures.value in
    sym (c.loop-p.invariant.value ∙ put_off values p z c.loop-p.put c.in_ok-next.field-0 c.loop-p-test.true refl is c.in-None.is)

pub loop-p-preserved : goal.loop-p-preserved
loop-p-preserved c =
    let values = c.args.values.now in
    let p = c.loop-p.p in
    let z = get_or values p (pos 0) in
    let is = c.in_ok-next.ensures.value in
    let W : Option (List Fact) → Type 0 = λ o. IfSome o (λ fs. IsTrue (list_all is_fact fs)) in
    record {
      value = c.loop-p.invariant.value ∙ put_on values p z c.loop-p.put c.in_ok-next.field-0 c.loop-p-test.true refl is c.in-Some.next c.in-Some.is;
      well_formed = subst W c.in-Some.is c.in_ok-next.ensures.well_formed;
    }
