use Rattle.std.proofs.Common.{true, false, ◌∙◌, sym}
use Rattle.std.proofs.lemmas.Result.{MatchResult-weaker}
use Rattle.text_pieces.proofs.Lifts.{last_unread}
use Rattle.term_text.proofs.ClauseReading.{clause_at}
use Rattle.term_text.proofs.clauses.clause_line.Goals as goal

pub returns-then-begins_with : goal.returns-then-begins_with
returns-then-begins_with c =
    let l = clause_at c.args.text.now true (sym c.begins_with.ensures ∙ c.if-begins_with.true) in
    MatchResult-weaker c.empty_clause.result c.empty_clause.ensures (λ f r. l.reads f.0 f.1.now r) (λ e f. last_unread l e f)

pub returns-else-begins_with : goal.returns-else-begins_with
returns-else-begins_with c =
    let l = clause_at c.args.text.now false (sym c.begins_with.ensures ∙ c.if-begins_with.false) in
    MatchResult-weaker c.literals.result c.literals.ensures (λ f r. l.reads f.0 f.1.now r) (λ e f. last_unread l e f)
