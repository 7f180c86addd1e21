use Rattle.std.proofs.Common.{arith, sym, ◌∙◌}
use Rattle.tff_lexer.proofs.NumberPrefixes.{dot_none, dot_is}
use Rattle.tff_lexer.proofs.numbers.fraction_or_exponent_length.Goals as goal

pub returns-in-0 : goal.returns-in-0
returns-in-0 c =
    let a = c.in-Some-eq46-default in
    rw ((a.ensures).cases.0, a.field-0-0-test) (dot_none a.rest.now (sym c.digits_length.ensures.count ∙ c.in-0.is))

pub returns-in_default-digits_length : goal.returns-in_default-digits_length
returns-in_default-digits_length c =
    let a = c.in-Some-eq46-default in
    dot_is c.args.text.now a.rest.now a.field-0-0.now _ _ (a.ensures).cases.0 a.field-0-0-test c.digits_length.ensures.count (omega arith) c.exponent_length.ensures
