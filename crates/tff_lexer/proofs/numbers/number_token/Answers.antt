use Rattle.std.proofs.Common.{arith}
use Rattle.tff_lexer.proofs.NumberTokens.{none_is, rational_is, real_is, numeral_is}
use Rattle.tff_lexer.proofs.numbers.number_token.Goals as goal

pub returns-then-digits-eq0 : goal.returns-then-digits-eq0
returns-then-digits-eq0 c = none_is c.args.text.now c.unsigned-unsigned.result.now _ c.requires c.unsigned-unsigned.ensures c.digits_length-digits.ensures.count c.if-digits-eq0.true

pub returns-then-denominator-gt0 : goal.returns-then-denominator-gt0
returns-then-denominator-gt0 c = rational_is c.args.text.now c.unsigned-unsigned.result.now _ c.requires c.unsigned-unsigned.ensures c.digits_length-digits.ensures.count _ (omega arith) c.if-denominator-gt0.true c.slash_digits_length-denominator.ensures

pub returns-then-fraction-gt0 : goal.returns-then-fraction-gt0
returns-then-fraction-gt0 c =
    real_is c.args.text.now c.unsigned-unsigned.result.now _ c.requires c.unsigned-unsigned.ensures c.digits_length-digits.ensures.count _ _ (omega arith) c.if-denominator-gt0.false c.if-fraction-gt0.true c.slash_digits_length-denominator.ensures c.fraction_or_exponent_length-fraction.ensures

pub returns : goal.returns
returns c =
    numeral_is c.args.text.now c.unsigned-unsigned.result.now _ c.requires c.unsigned-unsigned.ensures c.digits_length-digits.ensures.count _ _ (omega arith) c.if-denominator-gt0.false c.if-fraction-gt0.false c.slash_digits_length-denominator.ensures c.fraction_or_exponent_length-fraction.ensures
