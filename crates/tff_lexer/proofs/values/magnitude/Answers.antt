use Rattle.std.proofs.Common.{arith, ap, ◌∙◌, ◌≡◌}
use Rattle.std.proofs.lemmas.List.{take_all}
use Rattle.tff_lexer.specs.Values.{digits_value}
use Rattle.tff_lexer.proofs.ValueLemmas.{digits_value-more, digits_value-least}
use Rattle.tff_lexer.proofs.values.magnitude.Goals as goal

pub returns-in_err-checked_mul : goal.returns-in_err-checked_mul
returns-in_err-checked_mul c =
    rw c.from_residual.ensures (λ small. c.in_err-checked_mul.ensures (omega (arith, digits_value-least c.args.digits.now c.loop-digit.digit-index 0 c.loop-digit-test.true)))

pub returns-in_err-sum : goal.returns-in_err-sum
returns-in_err-sum c =
    rw c.from_residual-in_err-sum.ensures (λ small. c.in_err-sum.ensures (omega (arith, digits_value-least c.args.digits.now c.loop-digit.digit-index 0 c.loop-digit-test.true)))

pub loop-digit-preserved : goal.loop-digit-preserved
loop-digit-preserved c = record {
  value = omega (arith, digits_value-more c.args.digits.now c.loop-digit.digit-index 0 c.loop-digit-test.true);
  fits = omega arith;
}

pub returns : goal.returns
returns c =
    let e : c.loop-digit.sum ≡ digits_value c.args.digits.now = c.loop-digit.invariant.value ∙ ap digits_value (take_all c.loop-digit.digit-index c.args.digits.now c.loop-digit-test.false) in
    (omega arith, e)
