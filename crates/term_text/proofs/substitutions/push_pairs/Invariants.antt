use Rattle.std.specs.Prelude.{codes}
use Rattle.text_pieces.specs.Fronts.{Front}
use Rattle.text_pieces.proofs.Putting.{Putting}
use Rattle.term_text.specs.Substitutions.{SpellsPair}
use Rattle.text_pieces.specs.Printing.{Keeps}
use Rattle.term_text.proofs.substitutions.push_pairs.Given as goal

abbrev pub invariant-loop-pair : goal.invariant-loop-pair
invariant-loop-pair l =
    (Putting (λ (u : Unit {0}). Front (codes ",") SpellsPair) (λ u p. u) (codes "]") tt l.pairs l.initial.text.items tt l.pair-index l.text.items) × Keeps l.initial.text.items l.text.items
