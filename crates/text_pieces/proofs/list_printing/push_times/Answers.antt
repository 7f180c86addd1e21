use Rattle.text_pieces.proofs.Adding.{adds-item}
use Rattle.text_pieces.proofs.list_printing.push_times.Goals as goal

pub loop-value-preserved : goal.loop-value-preserved
loop-value-preserved g c =
    adds-item g.P.Printer.spells c.args.values.now c.loop-value.value-index c.value-item.result c.args.text.now.items c.loop-value.text.items c.push.new.text.items c.loop-value-test.true c.value-item.is c.loop-value.invariant c.in_ok-push.ensures
