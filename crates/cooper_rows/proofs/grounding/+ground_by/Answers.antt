use Rattle.std.proofs.Common.{◌≡◌, sym, ◌∙◌, ap, subst, arith, drop, take, get_or, length, ◌+◌, ◌-◌, ◌++◌, Err, List, ℕ}
use Rattle.std.proofs.lemmas.Grind.{common_steps}
use Rattle.std.proofs.lemmas.List.{at_drop_all, take_all, length-drop}
use Rattle.std.specs.List.{enumerate_from}
use Rattle.lin_base.specs.declared.facts.Fact.{Fact}
use Rattle.lin_base.specs.Numbers.{results}
use Rattle.cert_tree.specs.Complete.{complete_rows}
use Rattle.cert_tree.specs.Ground.{Numbered, Grounding, ground_by, ground_each}
use Rattle.cooper_rows.specs.Counted.{IsAfter, IsCause}
use Rattle.cooper_rows.specs.Rows.{IsGround}
use Rattle.cooper_rows.proofs.Budgets.{counted_err}
use Rattle.cooper_rows.proofs.Grounds.{DueGround, ground_step, ground_err, ground_end, each_at, ground_cons, first_of, rest_of, rest_is, then_err, then_last_err, then_ok, facts_append}
use Rattle.cooper_rows.proofs.grounding.+ground_by.Goals as goal

pub ground_each-returns-in_err-more-clause-formed : goal.ground_each-returns-in_err-more-clause-formed
ground_each-returns-in_err-more-clause-formed t c =
    let by_ = ground_by c.args.variables.now in
    let cs = c.args.clauses.now in
    let i = c.loop-clause.clause-index in
    let y = c.clause-item.result in
    let after = c.loop-clause.after in
    let number = c.loop-clause.number in
    let e = c.in_err-more.field-0.0 in
    let m0 = c.args.room.now in
    let m1 = c.loop-clause.room in
    let whole = ground_each by_ c.args.next (enumerate_from c.args.first cs) in
    let one = by_ after (number, y) in
    let rest = ground_each by_ (after + length one.rows) (enumerate_from (number + 1) (drop (i + 1) cs)) in
    let E : List Fact → Type 0 = λ fs. IsCause e m1 (length (by_ after (number, fs)).rows) (results (by_ after (number, fs)).steps) in
    let is : c.from_residual.result ≡ Err e = grind (arith, common_steps) in
    counted_err _ e m0 c.ground_by.new.room (length whole.rows) (results whole.steps) _ is
    (ground_err e m1 m0 c.loop-clause.made one rest (ground_each by_ after (enumerate_from number (drop i cs))) whole c.loop-clause.invariant.due (each_at by_ after number cs i y c.loop-clause-test.true c.clause-item.is) (subst E c.as_slice.ensures c.in_err-more.ensures.formed.1))

pub ground_each-loop-clause-preserved : goal.ground_each-loop-clause-preserved
ground_each-loop-clause-preserved t c =
    let by_ = ground_by c.args.variables.now in
    let cs = c.args.clauses.now in
    let i = c.loop-clause.clause-index in
    let y = c.clause-item.result in
    let after = c.loop-clause.after in
    let number = c.loop-clause.number in
    let m0 = c.args.room.now in
    let m1 = c.loop-clause.room in
    let m2 = c.ground_by.new.room in
    let made = c.loop-clause.made in
    let more = c.in_ok-more.more in
    let next = c.append.new.made in
    let whole = ground_each by_ c.args.next (enumerate_from c.args.first cs) in
    let one = by_ after (number, y) in
    let left = drop (i + 1) cs in
    let rest = ground_each by_ (after + length one.rows) (enumerate_from (number + 1) left) in
    let S : List Fact → Type 0 = λ fs. IsAfter m2 m1 (length (by_ after (number, fs)).rows) (results (by_ after (number, fs)).steps) × IsGround more (by_ after (number, fs)) in
    let told = subst S c.as_slice.ensures c.in_ok-more.ensures.formed.0 in
    let step = ground_step m2 m1 m0 made more next one rest (ground_each by_ after (enumerate_from number (drop i cs))) whole c.loop-clause.invariant.due (each_at by_ after number cs i y c.loop-clause-test.true c.clause-item.is) told.0 told.1 c.in_ok-append.ensures.rows c.in_ok-append.ensures.clauses in
    let later : after + length one.rows ≡ c.in_ok-after.after = ap (λ rs. after + length rs) (sym told.1.0) ∙ ap (λ k. after + k) (sym c.len.ensures) ∙ sym c.in_ok-after.ensures.value in
    let numbered : number + 1 ≡ c.in_ok-number.number = sym c.in_ok-number.ensures.value in
    let A : ℕ → Type 0 = λ k. DueGround m2 m0 next (ground_each by_ k (enumerate_from (number + 1) left)) whole in
    let N : ℕ → Type 0 = λ k. DueGround m2 m0 next (ground_each by_ c.in_ok-after.after (enumerate_from k left)) whole in
    record {
      due = subst N numbered (subst A later step);
      well_formed = facts_append made.clauses more.clauses next.clauses c.in_ok-append.ensures.clauses c.loop-clause.invariant.well_formed c.in_ok-more.ensures.well_formed;
    }

pub ground_each-returns-clause-formed : goal.ground_each-returns-clause-formed
ground_each-returns-clause-formed t c =
    let by_ = ground_by c.args.variables.now in
    let cs = c.args.clauses.now in
    let i = c.loop-clause.clause-index in
    let after = c.loop-clause.after in
    let number = c.loop-clause.number in
    (ground_end c.loop-clause.room c.args.room.now c.loop-clause.made (ground_each by_ after (enumerate_from number (drop i cs))) (ground_each by_ c.args.next (enumerate_from c.args.first cs)) c.loop-clause.invariant.due (at_drop_all (λ us. ground_each by_ after (enumerate_from number us)) cs i c.loop-clause-test.false), tt)

pub ground_by-returns-in_err-completed-in-len1-up-clause-formed : goal.ground_by-returns-in_err-completed-in-len1-up-clause-formed
ground_by-returns-in_err-completed-in-len1-up-clause-formed t c =
    let vs = c.args.variables.now in
    let n : Numbered = (c.args.number, c.args.clause.now) in
    let next = c.args.next in
    let x = get_or vs 0 0 in
    let m0 = c.args.room.now in
    let e = c.in_err-completed-in-len1-up.field-0.0 in
    let whole = ground_by vs next n in
    let is : c.from_residual-in_err-completed-in-len1-up.result ≡ Err e = grind (arith, common_steps) in
    counted_err _ e m0 c.complete.new.room (length whole.rows) (results whole.steps) _ is
    (then_err e m0 (first_of x n) (rest_of x (drop 1 vs) next n) whole (ground_cons vs next n c.in-len1-up.len_at_least (sym c.occurs_in.ensures ∙ c.if-not-occurs_in.false)) c.in_err-completed-in-len1-up.ensures.formed.1)

pub ground_by-returns-in_err-rest-in-len1-up-clause-formed : goal.ground_by-returns-in_err-rest-in-len1-up-clause-formed
ground_by-returns-in_err-rest-in-len1-up-clause-formed t c =
    let vs = c.args.variables.now in
    let fs = c.args.clause.now in
    let n : Numbered = (c.args.number, fs) in
    let next = c.args.next in
    let after = c.in_ok-after-in-len1-up.after in
    let x = get_or vs 0 0 in
    let m0 = c.args.room.now in
    let m1 = c.complete.new.room in
    let e = c.in_err-rest-in-len1-up.field-0.0 in
    let whole = ground_by vs next n in
    let told = c.in_ok-completed-in-len1-up.ensures.formed.0 in
    let made = c.in_ok-completed-in-len1-up.completed in
    let given = c.as_slice-given.result.now in
    let ys = take (length vs - 1) (drop 1 vs) in
    let same : ys ≡ drop 1 vs = take_all (length vs - 1) (drop 1 vs) (omega (arith, length-drop 1 vs)) in
    let later : after ≡ next + length made.rows = c.in_ok-after-in-len1-up.ensures.value ∙ ap (λ k. next + k) c.len.ensures in
    let E : Grounding → Type 0 = λ g. IsCause e m1 (length g.rows) (results g.steps) in
    let is : c.from_residual-in_err-rest-in-len1-up.result ≡ Err e = grind (arith, common_steps) in
    counted_err _ e m0 c.ground_each.new.room (length whole.rows) (results whole.steps) _ is
    (then_last_err e m1 m0 (first_of x n) (rest_of x (drop 1 vs) next n) whole (ground_cons vs next n c.in-len1-up.len_at_least (sym c.occurs_in.ensures ∙ c.if-not-occurs_in.false)) told.0 (subst E (rest_is x (drop 1 vs) ys next after c.args.number fs made given same later told.1 c.as_slice-given.ensures) c.in_err-rest-in-len1-up.ensures.formed.1))

pub ground_by-returns-in_ok-with_rows-in-len1-up-clause-formed : goal.ground_by-returns-in_ok-with_rows-in-len1-up-clause-formed
ground_by-returns-in_ok-with_rows-in-len1-up-clause-formed t c =
    let vs = c.args.variables.now in
    let fs = c.args.clause.now in
    let n : Numbered = (c.args.number, fs) in
    let next = c.args.next in
    let after = c.in_ok-after-in-len1-up.after in
    let x = get_or vs 0 0 in
    let m0 = c.args.room.now in
    let m1 = c.complete.new.room in
    let m2 = c.ground_each.new.room in
    let whole = ground_by vs next n in
    let told = c.in_ok-completed-in-len1-up.ensures.formed.0 in
    let made = c.in_ok-completed-in-len1-up.completed in
    let left = c.in_ok-rest-in-len1-up.rest in
    let given = c.as_slice-given.result.now in
    let ys = take (length vs - 1) (drop 1 vs) in
    let same : ys ≡ drop 1 vs = take_all (length vs - 1) (drop 1 vs) (omega (arith, length-drop 1 vs)) in
    let later : after ≡ next + length made.rows = c.in_ok-after-in-len1-up.ensures.value ∙ ap (λ k. next + k) c.len.ensures in
    let R : Grounding → Type 0 = λ g. IsAfter m2 m1 (length g.rows) (results g.steps) × IsGround left g in
    let rest = rest_of x (drop 1 vs) next n in
    let both : R rest = subst R (rest_is x (drop 1 vs) ys next after c.args.number fs made given same later told.1 c.as_slice-given.ensures) c.in_ok-rest-in-len1-up.ensures.formed.0 in
    (then_ok m2 m1 m0 (first_of x n) rest whole c.in_ok-with_rows-in-len1-up.field-0 (ground_cons vs next n c.in-len1-up.len_at_least (sym c.occurs_in.ensures ∙ c.if-not-occurs_in.false)) told.0 both.0 (c.in_ok-with_rows-in-len1-up.ensures.rows ∙ ap (λ rs. rs ++ left.rows) (ap (λ m. m.rows) told.1) ∙ ap (λ rs. complete_rows c.args.number x fs ++ rs) both.1.0) (c.in_ok-with_rows-in-len1-up.ensures.clauses ∙ both.1.1), tt)
