use Rattle.std.proofs.Common.{◌≡◌, ◌∙◌, sym, Err, arith, length}
use Rattle.std.proofs.lemmas.Grind.{common_steps}
use Rattle.lin_base.specs.Numbers.{results}
use Rattle.cert_tree.specs.Complete.{lows_steps}
use Rattle.cooper_rows.specs.Counted.{of_arithmetic}
use Rattle.cooper_rows.specs.Rows.{lows_rows}
use Rattle.cooper_rows.proofs.Budgets.{counted_err}
use Rattle.cooper_rows.proofs.CompleteRows.{lows_none, lows_take, lows_err, lows_ok}
use Rattle.cooper_rows.proofs.completing.lows.Goals as goal

pub returns-then-has_upper_bound : goal.returns-then-has_upper_bound
returns-then-has_upper_bound c =
    (lows_none c.args.number c.args.x c.args.clause.now c.args.d.now c.args.room.now c.none.result (sym c.has_upper_bound.ensures ∙ c.if-has_upper_bound.true) c.none.ensures.rows c.none.ensures.clauses, tt)

pub returns-in_err-take : goal.returns-in_err-take
returns-in_err-take c =
    let n = c.args.number in
    let x = c.args.x in
    let fs = c.args.clause.now in
    let d = c.args.d.now in
    let e = c.in_err-take.field-0.0 in
    let m0 = c.args.room.now in
    let is : c.from_residual.result ≡ Err e = grind (arith, common_steps) in
    counted_err _ e m0 c.take.new.room (length (lows_rows n x d fs)) (results (lows_steps x fs d)) _ is (lows_take n x fs d (sym c.has_upper_bound.ensures ∙ c.if-has_upper_bound.false) c.requires.d e m0 c.in_err-take.ensures.1)

pub returns-in_err-made : goal.returns-in_err-made
returns-in_err-made c =
    let n = c.args.number in
    let x = c.args.x in
    let fs = c.args.clause.now in
    let d = c.args.d.now in
    let e = c.in_err-made.field-0.0 in
    let m0 = c.args.room.now in
    let is : c.from_residual-in_err-made.result ≡ Err (of_arithmetic e) = grind (arith, common_steps) in
    counted_err _ (of_arithmetic e) m0 c.take.new.room (length (lows_rows n x d fs)) (results (lows_steps x fs d)) _ is (lows_err n x fs d (sym c.has_upper_bound.ensures ∙ c.if-has_upper_bound.false) c.requires.d e m0 c.in_ok-count.count c.in_ok-count.ensures.value c.in_err-made.ensures.1)

pub returns : goal.returns
returns c =
    (lows_ok c.args.number c.args.x c.args.clause.now c.args.d.now (sym c.has_upper_bound.ensures ∙ c.if-has_upper_bound.false) c.requires.d c.take.new.room c.args.room.now c.in_ok-count.count c.in_ok-made.made c.in_ok-take.ensures.0.0 c.in_ok-count.ensures.value c.in_ok-made.ensures.0.0 c.in_ok-made.ensures.0.1, tt)
