use Rattle.std.proofs.Common.{◌≡◌, ◌++◌, length}
use Rattle.text_pieces.specs.Decimals.{decimal}
use Rattle.text_pieces.specs.Languages.{GoesOn}
use Rattle.text_pieces.specs.Numbers.{Number, Within}
use Rattle.text_pieces.proofs.numbers.number.Given as goal

abbrev pub invariant-loop-digit : goal.invariant-loop-digit
invariant-loop-digit l = record {
  whole : l.fn.text ≡ decimal l.value ++ l.rest;
  goes_on : GoesOn (Number (Within l.low l.high)) (decimal l.value);
}

abbrev pub decreases-loop-digit : goal.decreases-loop-digit
decreases-loop-digit l = length l.rest
