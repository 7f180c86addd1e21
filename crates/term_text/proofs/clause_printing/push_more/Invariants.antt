use Rattle.std.specs.Prelude.{codes}
use Rattle.text_pieces.specs.Fronts.{Front}
use Rattle.text_pieces.proofs.Putting.{Putting}
use Rattle.term_text.specs.Clauses.{SpellsLiteral}
use Rattle.text_pieces.specs.Printing.{Keeps}
use Rattle.term_text.proofs.clause_printing.push_more.Given as goal

abbrev pub invariant-loop-literal : goal.invariant-loop-literal
invariant-loop-literal l =
    (Putting (λ (u : Unit {0}). Front (codes " | ") SpellsLiteral) (λ u l. u) (codes "\n") tt l.more l.initial.text.items tt l.literal-index l.text.items) × Keeps l.initial.text.items l.text.items
