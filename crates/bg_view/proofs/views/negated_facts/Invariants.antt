use Rattle.std.proofs.Common.{◌≡◌, ◌++◌, drop}
use Rattle.lin_base.specs.Steps.{first_wide}
use Rattle.bg_view.specs.Numbers.{numbering_of}
use Rattle.bg_view.specs.View.{negated_steps_of, negated_facts}
use Rattle.bg_view.proofs.views.negated_facts.Given as goal

abbrev pub invariant-loop-literal : goal.invariant-loop-literal
invariant-loop-literal l =
    (first_wide (negated_steps_of (numbering_of l.unknowns) l.literals) ≡ first_wide (negated_steps_of (numbering_of l.unknowns) (drop l.literal-index l.literals)))
    × (negated_facts (numbering_of l.unknowns) l.literals ≡ l.clauses ++ negated_facts (numbering_of l.unknowns) (drop l.literal-index l.literals))
