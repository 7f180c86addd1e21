use Rattle.tff_lexer.proofs.SkippedBlanks as law
use Rattle.tff_lexer.proofs.laws.skipped_blanks.Goals as goal

pub returns-clause-blanks : goal.returns-clause-blanks
returns-clause-blanks c = law.skipped

pub returns-clause-left : goal.returns-clause-left
returns-clause-left c = law.left

pub returns-clause-longest : goal.returns-clause-longest
returns-clause-longest c = law.longest

pub returns-clause-all : goal.returns-clause-all
returns-clause-all c = law.all

pub returns-clause-open_comment : goal.returns-clause-open_comment
returns-clause-open_comment c = law.open_comment
