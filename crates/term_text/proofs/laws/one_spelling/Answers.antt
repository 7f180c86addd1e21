use Rattle.std.proofs.Common.{sym, ◌∙◌}
use Rattle.term_text.proofs.ClauseTexts.{text-clause_line}
use Rattle.term_text.proofs.TermTexts.{text-term}
use Rattle.term_text.proofs.laws.one_spelling.Goals as goal

pub returns-clause-term : goal.returns-clause-term
returns-clause-term c t a b s r = text-term t a s ∙ sym (text-term t b r)

pub returns-clause-clause_line : goal.returns-clause-clause_line
returns-clause-clause_line c k a b s r = text-clause_line k a s ∙ sym (text-clause_line k b r)
