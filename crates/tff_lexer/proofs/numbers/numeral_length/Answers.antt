use Rattle.tff_lexer.proofs.NumberPrefixes.{numeral_prefix}
use Rattle.tff_lexer.proofs.numbers.numeral_length.Goals as goal

pub returns : goal.returns
returns c = rw (c.joined_length.ensures, c.digits_length.ensures.count, c.unsigned-digits.ensures) (numeral_prefix c.args.text.now)
