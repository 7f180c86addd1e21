use Rattle.std.proofs.Common.{◌≡◌, ◌++◌, drop}
use Rattle.lin_base.specs.Steps.{first_wide}
use Rattle.bg_view.specs.Numbers.{numbering_of}
use Rattle.bg_view.specs.View.{literals_steps, literals_facts}
use Rattle.bg_view.proofs.views.literals_facts.Given as goal

abbrev pub invariant-loop-literal : goal.invariant-loop-literal
invariant-loop-literal l =
    (first_wide (literals_steps (numbering_of l.unknowns) l.literals) ≡ first_wide (literals_steps (numbering_of l.unknowns) (drop l.literal-index l.literals)))
    × (literals_facts (numbering_of l.unknowns) l.literals ≡ l.facts ++ literals_facts (numbering_of l.unknowns) (drop l.literal-index l.literals))
