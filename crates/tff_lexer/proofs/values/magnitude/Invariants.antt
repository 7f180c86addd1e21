use Rattle.std.proofs.Common.{◌≡◌, ◌^◌, ◌<◌, take}
use Rattle.tff_lexer.specs.Values.{digits_value}
use Rattle.tff_lexer.proofs.values.magnitude.Given as goal

abbrev pub invariant-loop-digit : goal.invariant-loop-digit
invariant-loop-digit l = record { value : l.sum ≡ digits_value (take l.digit-index l.digits); fits : l.sum < 2 ^ 128 }
