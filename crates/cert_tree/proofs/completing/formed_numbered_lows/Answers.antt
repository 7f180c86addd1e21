use Rattle.std.proofs.Common.{◌≡◌, sym, subst, ◌+◌, ◌-◌, Err, List, pos, arith, append_assoc}
use Rattle.std.proofs.lemmas.Grind.{common_steps}
use Rattle.lin_base.specs.declared.wides.Wide.{Wide}
use Rattle.lin_base.specs.Steps.{first_wide, IsErrorAt}
use Rattle.lin_base.proofs.Forming.{Forms-err, IsErrorAt-append_some, forming}
use Rattle.cert_tree.specs.Rows.{low_steps}
use Rattle.cert_tree.specs.Counting.{count_from}
use Rattle.cert_tree.specs.Complete.{numbered_low_steps, numbered_lows}
use Rattle.cert_tree.proofs.Completion.{low_steps-at, lows-at}
use Rattle.cert_tree.proofs.completing.formed_numbered_lows.Goals as goal

pub returns-in_err-low : goal.returns-in_err-low
returns-in_err-low c =
    let x = c.args.x in
    let fs = c.args.clause.now in
    let n = c.args.count in
    let j = c.loop-j.j in
    let e = c.in_err-low.field-0.0 in
    let rest = numbered_low_steps x fs (count_from (j + 1) (n - (j + 1))) in
    let P : List Wide → Type 0 = λ ss. IsErrorAt e (first_wide ss) in
    let here : P (numbered_low_steps x fs (count_from j (n - j))) = subst P (sym (low_steps-at x fs n j c.loop-j-test.true)) (IsErrorAt-append_some e (low_steps x (pos j) fs) rest c.in_err-low.ensures.1) in
    let all : P (numbered_low_steps x fs (count_from 0 n)) = subst (IsErrorAt e) (sym c.loop-j.invariant.0) here in
    let is : c.from_residual.result ≡ Err e = grind (arith, common_steps) in
    Forms-err _ e (numbered_low_steps x fs (count_from 0 n)) (numbered_lows x fs (count_from 0 n)) is all

pub loop-j-preserved : goal.loop-j-preserved
loop-j-preserved c =
    let x = c.args.x in
    let fs = c.args.clause.now in
    let more = low_steps-at x fs c.args.count c.loop-j.j c.loop-j-test.true in
    let terms = lows-at x fs c.args.count c.loop-j.j c.loop-j-test.true in
    let narrow = c.in_ok-low.ensures.0.0 in
    let value = c.in_ok-low.ensures.0.1 in
    (grind (arith, forming), grind (arith, forming, append_assoc))
