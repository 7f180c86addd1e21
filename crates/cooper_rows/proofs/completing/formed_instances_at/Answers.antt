use Rattle.std.proofs.Common.{◌≡◌, ◌∙◌, sym, ap, subst, ◌+◌, ◌-◌, Err, List, map, arith}
use Rattle.std.proofs.lemmas.Grind.{common_steps}
use Rattle.std.specs.List.{flat_map}
use Rattle.lin_base.specs.declared.wides.Wide.{Wide}
use Rattle.lin_base.specs.Steps.{first_wide, IsErrorAt}
use Rattle.lin_base.proofs.Forming.{Forms-err, IsErrorAt-append_some, first_wide-append_none}
use Rattle.cert_tree.specs.Counting.{count_from}
use Rattle.cert_tree.specs.Complete.{moved_steps}
use Rattle.cert_tree.proofs.Completion.{moved_steps-at}
use Rattle.cooper_rows.specs.Rows.{completed, moved_row}
use Rattle.cooper_rows.proofs.CompleteRows.{completed_is, count_none, rows_next, rows_end, clauses_next}
use Rattle.cooper_rows.proofs.completing.formed_instances_at.Goals as goal

pub returns-in_err-step : goal.returns-in_err-step
returns-in_err-step c =
    let x = c.args.x in
    let fs = c.args.clause.now in
    let b = c.args.bound.now.b in
    let s = c.args.bound.now.rest in
    let n = c.args.count in
    let j = c.loop-j.j in
    let e = c.in_err-step.field-0.0 in
    let rest = flat_map (moved_steps x fs b s) (count_from (j + 1) (n - (j + 1))) in
    let P : List Wide → Type 0 = λ ss. IsErrorAt e (first_wide ss) in
    let here : P (flat_map (moved_steps x fs b s) (count_from j (n - j))) = subst P (sym (moved_steps-at x fs b s n j c.loop-j-test.true)) (IsErrorAt-append_some e (moved_steps x fs b s j) rest c.in_err-step.ensures.1) in
    let all : P (flat_map (moved_steps x fs b s) (count_from 0 n)) = subst (IsErrorAt e) (sym c.loop-j.invariant.narrow) here in
    let is : c.from_residual.result ≡ Err e = grind (arith, common_steps) in
    Forms-err _ e (flat_map (moved_steps x fs b s) (count_from 0 n)) (completed fs (map (moved_row c.args.number x b s) (count_from 0 n))) is all

pub loop-j-preserved : goal.loop-j-preserved
loop-j-preserved c =
    let x = c.args.x in
    let fs = c.args.clause.now in
    let b = c.args.bound.now.b in
    let s = c.args.bound.now.rest in
    let n = c.args.count in
    let j = c.loop-j.j in
    let row = moved_row c.args.number x b s in
    let told = c.in_ok-step.ensures.0 in
    let step = c.in_ok-step.step in
    let made = c.loop-j.made in
    let next = c.push.new.made in
    let rest = flat_map (moved_steps x fs b s) (count_from (j + 1) (n - (j + 1))) in
    record {
      narrow = c.loop-j.invariant.narrow ∙ ap first_wide (moved_steps-at x fs b s n j c.loop-j-test.true) ∙ first_wide-append_none (moved_steps x fs b s j) rest told.0;
      rows = rows_next row n j (map row (count_from 0 n)) made.rows next.rows step.row c.loop-j-test.true c.loop-j.invariant.rows (ap (λ e. e.row) told.1) c.in_ok-push.ensures.rows;
      clauses = clauses_next fs (row j) step made.rows next.rows made.clauses next.clauses c.loop-j.invariant.clauses told.1 c.in_ok-push.ensures.rows c.in_ok-push.ensures.clauses;
    }

pub returns : goal.returns
returns c =
    let x = c.args.x in
    let fs = c.args.clause.now in
    let b = c.args.bound.now.b in
    let s = c.args.bound.now.rest in
    let n = c.args.count in
    let j = c.loop-j.j in
    let row = moved_row c.args.number x b s in
    let made = c.loop-j.made in (
      (
        c.loop-j.invariant.narrow ∙ ap (λ js. first_wide (flat_map (moved_steps x fs b s) js)) (count_none n j c.loop-j-test.false),
        completed_is made fs (map row (count_from 0 n)) (rows_end row n j (map row (count_from 0 n)) made.rows c.loop-j-test.false c.loop-j.invariant.rows) c.loop-j.invariant.clauses,
      ),
      tt,
    )
