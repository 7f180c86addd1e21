use Rattle.std.proofs.Common.{arith}
use Rattle.text_pieces.specs.Numbers.{Within}
use Rattle.text_pieces.proofs.Reaching.{window_digit, window_longer, fails_at_end, reads_number, goes_on_below}
use Rattle.text_pieces.proofs.numbers.number.Goals as goal

pub returns-in_default-with_digit : goal.returns-in_default-with_digit
returns-in_default-with_digit c =
    window_digit c.args.low c.args.high c.args.text.now c.loop-digit.value c.in-Some.digit c.loop-digit.rest.now c.in-Some.more.now c.loop-digit.invariant.whole
    c.in-Some.ensures.digit.0 c.in-Some.ensures.digit.1 c.loop-digit.invariant.goes_on c.in_default-with_digit.ensures.none

pub loop-digit-preserved : goal.loop-digit-preserved
loop-digit-preserved c = record {
  whole = window_longer c.args.text.now c.loop-digit.value c.in-Some.digit c.in-Some-with_digit.longer c.loop-digit.rest.now c.in-Some.more.now c.loop-digit.invariant.whole
      c.in-Some.ensures.digit.0 c.in-Some.ensures.digit.1 c.in-Some-with_digit.ensures.some.1 c.in-Some-with_digit.ensures.some.0;
  goes_on = c.in-Some-with_digit.ensures.some.2;
}

pub returns-then-value-low : goal.returns-then-value-low
returns-then-value-low c =
    fails_at_end (Within c.args.low c.args.high) c.args.text.now c.loop-digit.value c.loop-digit.rest.now c.loop-digit.invariant.whole c.loop-digit.invariant.goes_on c.in_default.ensures.none
    (λ w. omega (arith, w.from_low, c.if-value-low.true))

pub returns : goal.returns
returns c =
    reads_number (Within c.args.low c.args.high) c.args.text.now c.loop-digit.value c.loop-digit.rest.now c.loop-digit.invariant.whole c.in_default.ensures.none
    (record { from_low = c.if-value-low.false; to_high = goes_on_below c.args.low c.args.high c.loop-digit.value c.loop-digit.invariant.goes_on })
