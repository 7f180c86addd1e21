-- Worked rows of the texts.
use Rattle.std.proofs.Common.{refl}
use Rattle.text_pieces.specs.Decimals.{decimal}
use Rattle.term_text.specs.Rows.{EmptyClause, SumAndMultiple, TwoArguments, TwoSorts}

pub empty_clause : EmptyClause
empty_clause = refl

pub sum_and_multiple : SumAndMultiple
unfolding decimal
sum_and_multiple = refl

pub two_arguments : TwoArguments
unfolding decimal
two_arguments = refl

pub two_sorts : TwoSorts
unfolding decimal
two_sorts = refl
