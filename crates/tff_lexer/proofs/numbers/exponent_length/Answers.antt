use Rattle.std.proofs.Common.{sym}
use Rattle.tff_lexer.proofs.NumberPrefixes.{exponent_prefix}
use Rattle.tff_lexer.proofs.numbers.exponent_length.Goals as goal

pub returns-in-Some : goal.returns-in-Some
returns-in-Some c =
    let a = c.in-Some in
    rw (c.joined_length.ensures, a.ensures.cases.0) (exponent_prefix a.letter.now a.rest.now _ (sym c.if-is_exponent_letter.ensures) c.numeral_length.ensures)
