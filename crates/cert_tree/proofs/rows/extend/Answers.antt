use Rattle.std.proofs.Common.{◌≡◌, ◌∙◌, ap, sym, subst, true, drop, ◌+◌, IfSome, IsTrue, List, Option}
use Rattle.std.specs.List.{list_all}
use Rattle.lin_base.specs.declared.facts.Fact.{Fact}
use Rattle.lin_base.specs.Fact.{is_fact}
use Rattle.cert_tree.specs.Rows as spec
use Rattle.cert_tree.proofs.Rowing.{extended-some, is_pool-snoc}
use Rattle.cert_tree.proofs.rows.extend.Goals as goal

pub loop-row-preserved : goal.loop-row-preserved
loop-row-preserved c =
    let params = c.args.pool.now.params in
    let rows = c.args.rows.now in
    let longer = c.loop-row.longer.clauses in
    let i = c.loop-row.row-index in
    let row = c.row-item.result in
    let clause = c.in-Some.clause in
    let pushed = c.in_ok-push-in-Some.ensures.ok in
    let some = ap (λ k. spec.row_over k longer row) (sym c.loop-row.invariant.params) ∙ sym c.in_ok-clause.ensures.value ∙ c.in-Some.is in
    let W : Option (List Fact) → Type 0 = λ o. IfSome o (λ fs. IsTrue (list_all is_fact fs)) in
    let P : List (List Fact) → Type 0 = λ cs. list_all (list_all is_fact) cs ≡ true in
    record {
      clauses = c.loop-row.invariant.clauses ∙ extended-some params rows longer i row c.loop-row-test.true c.row-item.is clause some ∙ ap (spec.extended params (drop (i + 1) rows)) (sym pushed);
      params = c.loop-row.invariant.params;
      well_formed = subst P (sym pushed) (is_pool-snoc longer clause c.loop-row.invariant.well_formed (subst W c.in-Some.is c.in_ok-clause.ensures.well_formed));
    }
