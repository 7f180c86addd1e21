use Rattle.std.proofs.Common.{◌≡◌, ◌++◌, drop}
use Rattle.std.specs.List.{flat_map}
use Rattle.arithmetic_answers.specs.Texts.{value_text}
use Rattle.arithmetic_answers.proofs.lists.push_numbers.Given as goal

abbrev pub invariant-loop-value : goal.invariant-loop-value
invariant-loop-value l = l.text.items ++ flat_map value_text (drop l.value-index l.values) ≡ l.initial.text.items ++ flat_map value_text l.values
