use Rattle.beagle_top.proofs.AnswerLaws.{past_range, wide_line_comes}
use Rattle.beagle_top.proofs.laws.wide_where_no_pool.Goals as goal

pub returns-clause-comes : goal.returns-clause-comes
returns-clause-comes c = wide_line_comes c.one_answer.ensures.problem c.one_answer.ensures.apart

pub returns-clause-only : goal.returns-clause-only
returns-clause-only c = past_range
