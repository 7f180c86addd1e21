use Rattle.std.specs.Prelude.{codes}
use Rattle.text_pieces.specs.Numbers.{Number, Word32}
use Rattle.text_pieces.specs.Fronts.{Front}
use Rattle.text_pieces.proofs.Putting.{Putting}
use Rattle.text_pieces.specs.Printing.{Keeps}
use Rattle.term_text.proofs.places.push_path.Given as goal

abbrev pub invariant-loop-step : goal.invariant-loop-step
invariant-loop-step l =
    (Putting (λ (u : Unit {0}). Front (codes ".") (Number Word32)) (λ u n. u) (codes " ") tt l.steps l.initial.text.items tt l.step-index l.text.items) × Keeps l.initial.text.items l.text.items
