use Rattle.std.proofs.Common.{take}
use Rattle.text_pieces.specs.Languages.{Times}
use Rattle.text_pieces.specs.Printing.{Adds}
use Rattle.text_pieces.proofs.list_printing.push_times.Given as goal

abbrev pub invariant-loop-value : goal.invariant-loop-value
invariant-loop-value g l = Adds (Times g.P.Printer.spells l.value-index) (take l.value-index l.values) l.initial.text.items l.text.items
