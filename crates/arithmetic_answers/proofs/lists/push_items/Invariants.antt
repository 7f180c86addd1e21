use Rattle.std.proofs.Common.{◌≡◌, ◌++◌, drop}
use Rattle.arithmetic_answers.specs.Texts.{items}
use Rattle.arithmetic_answers.proofs.lists.push_items.Given as goal

abbrev pub invariant-loop-clause : goal.invariant-loop-clause
invariant-loop-clause l =
    (l.number ≡ l.clause-index) × (l.text.items ++ items l.number (drop l.clause-index l.clauses) ≡ l.initial.text.items ++ items 0 l.clauses)
