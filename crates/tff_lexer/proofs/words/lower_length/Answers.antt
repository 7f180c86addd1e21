use Rattle.std.proofs.Common.{arith}
use Rattle.tff_lexer.proofs.WordPrefixes.{lower_is}
use Rattle.tff_lexer.proofs.words.lower_length.Goals as goal

pub returns-in-Some-97-to-122-default : goal.returns-in-Some-97-to-122-default
returns-in-Some-97-to-122-default c =
    let a = c.in-Some-97-to-122-default in
    lower_is c.args.text.now a.rest.now a.field-0-0.now c.alpha_numeric_length.result (a.ensures).cases.0 (omega arith) (omega arith) c.alpha_numeric_length.ensures.count
