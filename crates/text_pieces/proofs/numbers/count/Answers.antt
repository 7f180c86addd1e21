use Rattle.std.proofs.Common.{arith}
use Rattle.text_pieces.proofs.Counts.{count_missing, count_first, count_stops, count_longer}
use Rattle.text_pieces.proofs.numbers.count.Goals as goal

pub returns-in_default : goal.returns-in_default
returns-in_default c = count_missing c.args.text.now c.in_default.ensures.none

pub loop-digit-init : goal.loop-digit-init
loop-digit-init c = count_first c.args.text.now c.in-Some.digit c.from-count.result c.in-Some.rest.now c.in-Some.ensures.digit.0 c.in-Some.ensures.digit.1 c.from-count.ensures

pub returns-then-count-eq0 : goal.returns-then-count-eq0
returns-then-count-eq0 c =
    count_stops c.args.text.now c.loop-digit.count c.in-Some-next_digit.digit c.loop-digit.rest.now c.in-Some-next_digit.more.now c.loop-digit.invariant
    c.in-Some-next_digit.ensures.digit.0 c.in-Some-next_digit.ensures.digit.1 (omega (arith, c.if-count-eq0.true))

pub loop-digit-preserved : goal.loop-digit-preserved
loop-digit-preserved c =
    count_longer c.args.text.now c.loop-digit.count c.longer_count-count.result c.in-Some-next_digit.digit c.loop-digit.rest.now c.in-Some-next_digit.more.now c.loop-digit.invariant
    c.in-Some-next_digit.ensures.digit.0 c.in-Some-next_digit.ensures.digit.1 (λ e. omega (arith, e, c.if-count-eq0.false)) c.longer_count-count.ensures
