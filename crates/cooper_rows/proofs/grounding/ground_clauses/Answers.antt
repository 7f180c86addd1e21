use Rattle.std.proofs.Common.{◌≡◌, sym, ◌∙◌, ap, subst, arith, drop, length, ◌+◌, Err, List, ℕ}
use Rattle.std.proofs.lemmas.Grind.{common_steps}
use Rattle.std.proofs.lemmas.List.{at_drop_all}
use Rattle.std.specs.List.{enumerate_from}
use Rattle.lin_base.specs.declared.facts.Fact.{Fact}
use Rattle.lin_base.specs.Numbers.{results}
use Rattle.cert_tree.specs.Ground.{ground_clause, ground_each}
use Rattle.cooper_rows.specs.Counted.{IsAfter, IsCause}
use Rattle.cooper_rows.specs.Rows.{IsGround}
use Rattle.cooper_rows.proofs.Budgets.{counted_err}
use Rattle.cooper_rows.proofs.Grounds.{DueGround, ground_step, ground_err, ground_end, each_at, facts_append}
use Rattle.cooper_rows.proofs.grounding.ground_clauses.Goals as goal

pub returns-in_err-more-clause-formed : goal.returns-in_err-more-clause-formed
returns-in_err-more-clause-formed c =
    let by_ = ground_clause c.args.params in
    let cs = c.args.clauses.now in
    let i = c.loop-clause.clause-index in
    let y = c.clause-item.result in
    let after = c.loop-clause.after in
    let number = c.loop-clause.number in
    let e = c.in_err-more.field-0.0 in
    let m0 = c.args.room.now in
    let m1 = c.loop-clause.room in
    let whole = ground_each by_ (length cs) (enumerate_from 0 cs) in
    let one = by_ after (number, y) in
    let rest = ground_each by_ (after + length one.rows) (enumerate_from (number + 1) (drop (i + 1) cs)) in
    let E : List Fact → Type 0 = λ fs. IsCause e m1 (length (by_ after (number, fs)).rows) (results (by_ after (number, fs)).steps) in
    let is : c.from_residual-in_err-more.result ≡ Err e = grind (arith, common_steps) in
    counted_err _ e m0 c.ground_clause.new.room (length whole.rows) (results whole.steps) _ is
    (ground_err e m1 m0 c.loop-clause.made one rest (ground_each by_ after (enumerate_from number (drop i cs))) whole c.loop-clause.invariant.due (each_at by_ after number cs i y c.loop-clause-test.true c.clause-item.is) (subst E c.as_slice.ensures c.in_err-more.ensures.formed.1))

pub loop-clause-preserved : goal.loop-clause-preserved
loop-clause-preserved c =
    let by_ = ground_clause c.args.params in
    let cs = c.args.clauses.now in
    let i = c.loop-clause.clause-index in
    let y = c.clause-item.result in
    let after = c.loop-clause.after in
    let number = c.loop-clause.number in
    let m0 = c.args.room.now in
    let m1 = c.loop-clause.room in
    let m2 = c.ground_clause.new.room in
    let made = c.loop-clause.made in
    let more = c.in_ok-more.more in
    let next = c.append.new.made in
    let whole = ground_each by_ (length cs) (enumerate_from 0 cs) in
    let one = by_ after (number, y) in
    let left = drop (i + 1) cs in
    let rest = ground_each by_ (after + length one.rows) (enumerate_from (number + 1) left) in
    let S : List Fact → Type 0 = λ fs. IsAfter m2 m1 (length (by_ after (number, fs)).rows) (results (by_ after (number, fs)).steps) × IsGround more (by_ after (number, fs)) in
    let told = subst S c.as_slice.ensures c.in_ok-more.ensures.formed.0 in
    let step = ground_step m2 m1 m0 made more next one rest (ground_each by_ after (enumerate_from number (drop i cs))) whole c.loop-clause.invariant.due (each_at by_ after number cs i y c.loop-clause-test.true c.clause-item.is) told.0 told.1 c.in_ok-append.ensures.rows c.in_ok-append.ensures.clauses in
    let later : after + length one.rows ≡ c.in_ok-after-2.after = ap (λ rs. after + length rs) (sym told.1.0) ∙ ap (λ k. after + k) (sym c.len.ensures) ∙ sym c.in_ok-after-2.ensures.value in
    let numbered : number + 1 ≡ c.in_ok-number.number = sym c.in_ok-number.ensures.value in
    let A : ℕ → Type 0 = λ k. DueGround m2 m0 next (ground_each by_ k (enumerate_from (number + 1) left)) whole in
    let N : ℕ → Type 0 = λ k. DueGround m2 m0 next (ground_each by_ c.in_ok-after-2.after (enumerate_from k left)) whole in
    record {
      due = subst N numbered (subst A later step);
      well_formed = facts_append made.clauses more.clauses next.clauses c.in_ok-append.ensures.clauses c.loop-clause.invariant.well_formed c.in_ok-more.ensures.well_formed;
    }

pub returns-clause-formed : goal.returns-clause-formed
returns-clause-formed c =
    let by_ = ground_clause c.args.params in
    let cs = c.args.clauses.now in
    let i = c.loop-clause.clause-index in
    let after = c.loop-clause.after in
    let number = c.loop-clause.number in
    (ground_end c.loop-clause.room c.args.room.now c.loop-clause.made (ground_each by_ after (enumerate_from number (drop i cs))) (ground_each by_ (length cs) (enumerate_from 0 cs)) c.loop-clause.invariant.due (at_drop_all (λ us. ground_each by_ after (enumerate_from number us)) cs i c.loop-clause-test.false), tt)
