use Rattle.std.proofs.Common.{◌≡◌, ◌∙◌, sym, ap, ◌+◌, ◌++◌, ◌∷◌, drop, Err, map, arith, length, append_assoc}
use Rattle.std.proofs.lemmas.Grind.{common_steps}
use Rattle.std.proofs.lemmas.List.{at_drop_more, at_drop_all, length-append}
use Rattle.lin_base.specs.Numbers.{results}
use Rattle.cert_tree.specs.Complete.{upper, uppers_steps, literal_steps}
use Rattle.cert_tree.specs.Rows.{row_clause}
use Rattle.cooper_rows.specs.Rows.{literal_rows, uppers_rows}
use Rattle.cooper_rows.proofs.Budgets.{due_step, due_err, due_end, counted_err, results-append}
use Rattle.cooper_rows.proofs.CompleteRows.{append_nil, completed_is, clauses-append}
use Rattle.cooper_rows.proofs.completing.uppers.Goals as goal

pub returns-in_err-more : goal.returns-in_err-more
returns-in_err-more c =
    let n = c.args.number in
    let x = c.args.x in
    let d = c.args.d.now in
    let fs = c.args.clause.now in
    let i = c.loop-fact.fact-index in
    let y = c.fact-item.result in
    let e = c.in_err-more.field-0.0 in
    let m0 = c.args.room.now in
    let is : c.from_residual.result ≡ Err e = grind (arith, common_steps) in
    let count = at_drop_more (λ us. length (uppers_rows n x d us)) fs i y c.loop-fact-test.true ∙ ap (λ y. length (uppers_rows n x d (y ∷ drop (i + 1) fs))) (sym c.fact-item.is) ∙ length-append (literal_rows n x d (upper x y)) (uppers_rows n x d (drop (i + 1) fs)) in
    let steps = at_drop_more (λ us. results (uppers_steps x fs d us)) fs i y c.loop-fact-test.true ∙ ap (λ y. results (uppers_steps x fs d (y ∷ drop (i + 1) fs))) (sym c.fact-item.is) ∙ results-append (literal_steps x fs d (upper x y)) (uppers_steps x fs d (drop (i + 1) fs)) in
    counted_err _ e m0 c.literal.new.room (length (uppers_rows n x d fs)) (results (uppers_steps x fs d fs)) _ is
    (due_err e c.loop-fact.room m0 (length (uppers_rows n x d (drop (i + 1) fs))) (length (literal_rows n x d (upper x y))) (length (uppers_rows n x d (drop i fs))) (length (uppers_rows n x d fs)) (results (literal_steps x fs d (upper x y))) (results (uppers_steps x fs d (drop (i + 1) fs))) (results (uppers_steps x fs d (drop i fs))) (results (uppers_steps x fs d fs)) c.loop-fact.invariant.due count steps c.in_err-more.ensures.1)

pub loop-fact-preserved : goal.loop-fact-preserved
loop-fact-preserved c =
    let n = c.args.number in
    let x = c.args.x in
    let d = c.args.d.now in
    let fs = c.args.clause.now in
    let i = c.loop-fact.fact-index in
    let y = c.fact-item.result in
    let m0 = c.args.room.now in
    let told = c.in_ok-more.ensures.0 in
    let more = c.in_ok-more.more in
    let made = c.loop-fact.made in
    let next = c.append.new.made in
    let here = literal_rows n x d (upper x y) in
    let rest = uppers_rows n x d (drop (i + 1) fs) in
    let count = at_drop_more (λ us. length (uppers_rows n x d us)) fs i y c.loop-fact-test.true ∙ ap (λ y. length (uppers_rows n x d (y ∷ drop (i + 1) fs))) (sym c.fact-item.is) ∙ length-append here rest in
    let steps = at_drop_more (λ us. results (uppers_steps x fs d us)) fs i y c.loop-fact-test.true ∙ ap (λ y. results (uppers_steps x fs d (y ∷ drop (i + 1) fs))) (sym c.fact-item.is) ∙ results-append (literal_steps x fs d (upper x y)) (uppers_steps x fs d (drop (i + 1) fs)) in
    let rows = at_drop_more (λ us. uppers_rows n x d us) fs i y c.loop-fact-test.true ∙ ap (λ y. uppers_rows n x d (y ∷ drop (i + 1) fs)) (sym c.fact-item.is) in
    let given : more.rows ≡ here = ap (λ v. v.rows) told.1 in
    let clauses : more.clauses ≡ map (row_clause fs) more.rows = ap (λ v. v.clauses) told.1 ∙ ap (map (row_clause fs)) (sym given) in
    record {
      due = due_step c.literal.new.room c.loop-fact.room m0 (length rest) (length here) (length (uppers_rows n x d (drop i fs))) (length (uppers_rows n x d fs)) (results (literal_steps x fs d (upper x y))) (results (uppers_steps x fs d (drop (i + 1) fs))) (results (uppers_steps x fs d (drop i fs))) (results (uppers_steps x fs d fs)) c.loop-fact.invariant.due count steps told.0;
      rows = c.loop-fact.invariant.rows ∙ ap (λ rs. made.rows ++ rs) rows ∙ sym (append_assoc made.rows here rest) ∙ ap (λ rs. rs ++ rest) (ap (λ rs. made.rows ++ rs) (sym given) ∙ sym c.in_ok-append.ensures.rows);
      clauses = c.in_ok-append.ensures.clauses ∙ clauses-append fs made.rows more.rows made.clauses more.clauses c.loop-fact.invariant.clauses clauses ∙ ap (map (row_clause fs)) (sym c.in_ok-append.ensures.rows);
    }

pub returns : goal.returns
returns c =
    let n = c.args.number in
    let x = c.args.x in
    let d = c.args.d.now in
    let fs = c.args.clause.now in
    let i = c.loop-fact.fact-index in
    let m0 = c.args.room.now in
    let made = c.loop-fact.made in
    let rows = c.loop-fact.invariant.rows ∙ ap (λ rs. made.rows ++ rs) (at_drop_all (λ us. uppers_rows n x d us) fs i c.loop-fact-test.false) ∙ append_nil made.rows in (
      (
        due_end c.loop-fact.room m0 (length (uppers_rows n x d (drop i fs))) (length (uppers_rows n x d fs)) (results (uppers_steps x fs d (drop i fs))) (results (uppers_steps x fs d fs)) c.loop-fact.invariant.due (at_drop_all (λ us. length (uppers_rows n x d us)) fs i c.loop-fact-test.false) (at_drop_all (λ us. results (uppers_steps x fs d us)) fs i c.loop-fact-test.false),
        completed_is made fs (uppers_rows n x d fs) (sym rows) c.loop-fact.invariant.clauses,
      ),
      tt,
    )
