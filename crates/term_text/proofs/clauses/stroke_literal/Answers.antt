use Rattle.std.specs.Prelude.{codes}
use Rattle.std.proofs.lemmas.Result.{err_from_is_err_and, MatchResult-weaker}
use Rattle.text_pieces.specs.Ending.{is_digit_or_bracket}
use Rattle.text_pieces.specs.Fronts.{Front}
use Rattle.text_pieces.proofs.Lifts.{lift-self, last_unread}
use Rattle.text_pieces.proofs.WordReading.{read_front, front_fails}
use Rattle.term_text.proofs.ClauseReading.{sure-literal}
use Rattle.term_text.specs.Clauses.{SpellsLiteral}
use Rattle.term_text.proofs.clauses.stroke_literal.Goals as goal

pub returns-in_err-behind : goal.returns-in_err-behind
returns-in_err-behind c =
    let l0 = lift-self is_digit_or_bracket (Front (codes "| ") SpellsLiteral) c.args.text.now in
    let p = err_from_is_err_and c.from_residual.result c.from_residual.ensures.1 in
    rw (p.1, p.2) (front_fails (codes "| ") l0 sure-literal c.in_err-behind.ensures.err)

pub returns : goal.returns
returns c =
    let l0 = lift-self is_digit_or_bracket (Front (codes "| ") SpellsLiteral) c.args.text.now in
    let l1 = read_front (codes "| ") l0 c.in_ok-behind.ensures.ok in
    MatchResult-weaker c.literal.result c.literal.ensures (λ f r. l1.reads f.0 f.1.now r) (λ e f. last_unread l1 e f)
