use Rattle.text_pieces.specs.Languages.{Behind}
use Rattle.text_pieces.proofs.Adding.{adds-behind, adds-item}
use Rattle.text_pieces.proofs.Keeping.{by_added, by_bytes, then_kept, puts_err}
use Rattle.text_pieces.proofs.list_printing.push_behind.Goals as goal

pub returns-in_err-push-2 : goal.returns-in_err-push-2
returns-in_err-push-2 g c =
    puts_err _ _ _ c.from_residual-in_err-push-2.result c.from_residual-in_err-push-2.ensures.1 (then_kept (then_kept (by_added c.loop-value.invariant) (by_bytes _ c.in_ok-push.ensures)) c.in_err-push-2.ensures)

pub loop-value-preserved : goal.loop-value-preserved
loop-value-preserved g c =
    let L = g.P.Printer.spells in
    let v = c.value-item.result in
    let one = adds-behind c.args.byte L v c.loop-value.text.items c.push.new.text.items c.push-in-loop-value.new.text.items c.in_ok-push.ensures c.in_ok-push-2.ensures in
    adds-item (Behind c.args.byte L) c.args.values.now c.loop-value.value-index v c.args.text.now.items c.loop-value.text.items c.push-in-loop-value.new.text.items c.loop-value-test.true c.value-item.is c.loop-value.invariant one
