use Rattle.std.proofs.Common.{◌≡◌, sym, subst, ◌+◌, ◌-◌, Err, List, map, arith, append_assoc}
use Rattle.std.proofs.lemmas.Grind.{common_steps}
use Rattle.lin_base.specs.declared.wides.Wide.{Wide}
use Rattle.lin_base.specs.Steps.{first_wide, IsErrorAt}
use Rattle.lin_base.proofs.Forming.{Forms-err, IsErrorAt-append_some, forming}
use Rattle.std.specs.List.{flat_map}
use Rattle.cert_tree.specs.Counting.{count_from}
use Rattle.cert_tree.specs.Complete.{moved_steps, moved_instance}
use Rattle.cert_tree.proofs.Completion.{moved_steps-at, moved_instances-at}
use Rattle.cert_tree.proofs.completing.formed_instances_at.Goals as goal

pub returns-in_err-instance : goal.returns-in_err-instance
returns-in_err-instance c =
    let x = c.args.x in
    let fs = c.args.clause.now in
    let b = c.args.bound.now.b in
    let s = c.args.bound.now.rest in
    let n = c.args.count in
    let j = c.loop-j.j in
    let e = c.in_err-instance.field-0.0 in
    let rest = flat_map (moved_steps x fs b s) (count_from (j + 1) (n - (j + 1))) in
    let P : List Wide → Type 0 = λ ss. IsErrorAt e (first_wide ss) in
    let here : P (flat_map (moved_steps x fs b s) (count_from j (n - j))) = subst P (sym (moved_steps-at x fs b s n j c.loop-j-test.true)) (IsErrorAt-append_some e (moved_steps x fs b s j) rest c.in_err-instance.ensures.1) in
    let all : P (flat_map (moved_steps x fs b s) (count_from 0 n)) = subst (IsErrorAt e) (sym c.loop-j.invariant.0) here in
    let is : c.from_residual.result ≡ Err e = grind (arith, common_steps) in
    Forms-err _ e (flat_map (moved_steps x fs b s) (count_from 0 n)) (map (moved_instance x fs b s) (count_from 0 n)) is all

pub loop-j-preserved : goal.loop-j-preserved
loop-j-preserved c =
    let x = c.args.x in
    let fs = c.args.clause.now in
    let b = c.args.bound.now.b in
    let s = c.args.bound.now.rest in
    let more = moved_steps-at x fs b s c.args.count c.loop-j.j c.loop-j-test.true in
    let terms = moved_instances-at x fs b s c.args.count c.loop-j.j c.loop-j-test.true in
    let narrow = c.in_ok-instance.ensures.0.0 in
    let value = c.in_ok-instance.ensures.0.1 in
    (grind (arith, forming), grind (arith, forming, append_assoc))
