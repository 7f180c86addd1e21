-- Worked rows of the definitions.
use Rattle.std.proofs.Common.{refl}
use Rattle.text_pieces.specs.Decimals.{decimal}
use Rattle.arithmetic_answers.specs.Rows.{FourIsTaken, NoneIsEmpty, NumbersFromZero, SecondIsEmpty, TwoClosed, TwoStatuses, TwoValues, ValuesByPlace, WideSum}

pub second_is_empty : SecondIsEmpty
second_is_empty = refl

pub none_is_empty : NoneIsEmpty
none_is_empty = refl

pub values_by_place : ValuesByPlace
values_by_place = (refl, refl)

pub numbers_from_zero : NumbersFromZero
numbers_from_zero = (refl, refl)

pub four_is_taken : FourIsTaken
four_is_taken = refl

pub two_closed : TwoClosed
two_closed c d cert = refl

pub two_statuses : TwoStatuses
two_statuses = (refl, refl)

pub two_values : TwoValues
unfolding decimal
two_values = refl

pub wide_sum : WideSum
unfolding decimal
wide_sum = refl
