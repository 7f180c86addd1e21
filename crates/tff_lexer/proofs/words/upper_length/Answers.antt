use Rattle.std.proofs.Common.{arith}
use Rattle.tff_lexer.proofs.WordPrefixes.{upper_is}
use Rattle.tff_lexer.proofs.words.upper_length.Goals as goal

pub returns-in-Some-65-to-90-default : goal.returns-in-Some-65-to-90-default
returns-in-Some-65-to-90-default c =
    let a = c.in-Some-65-to-90-default in
    upper_is c.args.text.now a.rest.now a.field-0-0.now c.alpha_numeric_length.result (a.ensures).cases.0 (omega arith) (omega arith) c.alpha_numeric_length.ensures.count
