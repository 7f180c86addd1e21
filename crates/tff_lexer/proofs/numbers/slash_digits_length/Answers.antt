use Rattle.tff_lexer.proofs.NumberPrefixes.{slash_digits_prefix}
use Rattle.tff_lexer.proofs.numbers.slash_digits_length.Goals as goal

pub returns-in-Some-eq47-default : goal.returns-in-Some-eq47-default
returns-in-Some-eq47-default c =
    let a = c.in-Some-eq47-default in
    rw (c.joined_length.ensures, c.digits_length.ensures.count, (a.ensures).cases.0, a.field-0-0-test) (slash_digits_prefix a.rest.now)
