use Rattle.std.proofs.Common.{◌≡◌, ◌∙◌, sym, ap, Err, arith, length, map, ◌++◌, ◌+◌}
use Rattle.std.proofs.lemmas.Grind.{common_steps}
use Rattle.std.proofs.lemmas.List.{length-append}
use Rattle.lin_base.specs.Numbers.{results}
use Rattle.cert_tree.specs.Complete.{uppers_steps, lows_steps}
use Rattle.cert_tree.specs.Rows.{row_clause}
use Rattle.cooper_rows.specs.Rows.{uppers_rows, lows_rows, rows_by, rows_steps}
use Rattle.cooper_rows.proofs.Budgets.{counted_err, after_as, cause_as, after_after, cause_first, cause_then, results-append}
use Rattle.cooper_rows.proofs.CompleteRows.{completed_is, clauses-append}
use Rattle.cooper_rows.proofs.completing.rows.Goals as goal

pub returns-in_err-made : goal.returns-in_err-made
returns-in_err-made c =
    let n = c.args.number in
    let x = c.args.x in
    let d = c.args.d.now in
    let fs = c.args.clause.now in
    let e = c.in_err-made.field-0.0 in
    let m0 = c.args.room.now in
    let k = length (uppers_rows n x d fs) in
    let l = length (lows_rows n x d fs) in
    let zs = results (uppers_steps x fs d fs) in
    let ys = results (lows_steps x fs d) in
    let is : c.from_residual.result ≡ Err e = grind (arith, common_steps) in
    counted_err _ e m0 c.uppers.new.room (length (rows_by n x d fs)) (results (rows_steps x d fs)) _ is
    (cause_as e m0 (length (rows_by n x d fs)) (k + l) (results (rows_steps x d fs)) (zs ++ ys) (length-append (uppers_rows n x d fs) (lows_rows n x d fs)) (results-append (uppers_steps x fs d fs) (lows_steps x fs d)) (cause_first e m0 k l zs ys c.in_err-made.ensures.1))

pub returns-in_err-low : goal.returns-in_err-low
returns-in_err-low c =
    let n = c.args.number in
    let x = c.args.x in
    let d = c.args.d.now in
    let fs = c.args.clause.now in
    let e = c.in_err-low.field-0.0 in
    let m0 = c.args.room.now in
    let m1 = c.uppers.new.room in
    let k = length (uppers_rows n x d fs) in
    let l = length (lows_rows n x d fs) in
    let zs = results (uppers_steps x fs d fs) in
    let ys = results (lows_steps x fs d) in
    let is : c.from_residual-in_err-low.result ≡ Err e = grind (arith, common_steps) in
    counted_err _ e m0 c.lows.new.room (length (rows_by n x d fs)) (results (rows_steps x d fs)) _ is
    (cause_as e m0 (length (rows_by n x d fs)) (k + l) (results (rows_steps x d fs)) (zs ++ ys) (length-append (uppers_rows n x d fs) (lows_rows n x d fs)) (results-append (uppers_steps x fs d fs) (lows_steps x fs d)) (cause_then e m1 m0 k l zs ys c.in_ok-made.ensures.0.0 c.in_err-low.ensures.1))

pub returns : goal.returns
returns c =
    let n = c.args.number in
    let x = c.args.x in
    let d = c.args.d.now in
    let fs = c.args.clause.now in
    let m0 = c.args.room.now in
    let m1 = c.uppers.new.room in
    let m2 = c.lows.new.room in
    let up = uppers_rows n x d fs in
    let down = lows_rows n x d fs in
    let zs = results (uppers_steps x fs d fs) in
    let ys = results (lows_steps x fs d) in
    let made = c.in_ok-made.made in
    let low = c.in_ok-low.low in
    let next = c.append.new.made in
    let made_is = c.in_ok-made.ensures.0.1 in
    let low_is = c.in_ok-low.ensures.0.1 in
    let rows : next.rows ≡ up ++ down = c.in_ok-append.ensures.rows ∙ ap (λ v. v.rows ++ low.rows) made_is ∙ ap (λ v. up ++ v.rows) low_is in
    let clauses : next.clauses ≡ map (row_clause fs) (up ++ down) = c.in_ok-append.ensures.clauses ∙ clauses-append fs up down made.clauses low.clauses (ap (λ v. v.clauses) made_is) (ap (λ v. v.clauses) low_is) in (
      (
        after_as m2 m0 (length (up ++ down)) (length up + length down) (results (rows_steps x d fs)) (zs ++ ys) (length-append up down) (results-append (uppers_steps x fs d fs) (lows_steps x fs d)) (after_after m2 m1 m0 (length up) (length down) zs ys c.in_ok-made.ensures.0.0 c.in_ok-low.ensures.0.0),
        completed_is next fs (up ++ down) rows (clauses ∙ ap (map (row_clause fs)) (sym rows)),
      ),
      tt,
    )
