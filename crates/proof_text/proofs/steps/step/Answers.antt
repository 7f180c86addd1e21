use Rattle.std.specs.Prelude.{codes}
use Rattle.std.proofs.lemmas.Result.{err_from_is_err_and}
use Rattle.text_pieces.specs.Languages.{Cat}
use Rattle.text_pieces.specs.Numbers.{Number, Within}
use Rattle.text_pieces.specs.Ending.{no_byte}
use Rattle.text_pieces.specs.Fronts.{Front}
use Rattle.text_pieces.proofs.Lifts.{lift-image, read_next, next_fails, next_unread, last_unread}
use Rattle.text_pieces.proofs.WordReading.{read_front, front_fails}
use Rattle.proof_text.specs.Rules.{SpellsRule}
use Rattle.proof_text.specs.Derivations.{step_of}
use Rattle.proof_text.proofs.RuleFronts.{sure-rule}
use Rattle.proof_text.proofs.StepFronts.{sure-step_number, next-line_clause, sure-line_rule, next-line_rule}
use Rattle.term_text.specs.Clauses.{SpellsClauseLine}
use Rattle.term_text.proofs.ClauseReading.{sure-clause_line}
use Rattle.proof_text.proofs.steps.step.Goals as goal

pub returns-in_err-_number : goal.returns-in_err-_number
returns-in_err-_number c =
    let l0 = lift-image no_byte step_of (Cat (Number (Within c.args.n c.args.n)) (λ number. Front (codes " ") (Cat SpellsRule (λ rule. Front (codes " : ") SpellsClauseLine)))) c.args.text.now in
    let p = err_from_is_err_and c.from_residual.result c.from_residual.ensures.1 in
    rw (p.1, p.2) (next_fails l0 (λ number. next-line_rule) c.in_err-_number.ensures)

pub returns-in_err-at_rule : goal.returns-in_err-at_rule
returns-in_err-at_rule c =
    let l0 = lift-image no_byte step_of (Cat (Number (Within c.args.n c.args.n)) (λ number. Front (codes " ") (Cat SpellsRule (λ rule. Front (codes " : ") SpellsClauseLine)))) c.args.text.now in
    let l1 = read_next l0 (sure-step_number c.args.n) (λ number. next-line_rule) c.in_ok-_number.ensures in
    let p = err_from_is_err_and c.from_residual-in_err-at_rule.result c.from_residual-in_err-at_rule.ensures.1 in
    rw (p.1, p.2) (front_fails (codes " ") l1 sure-line_rule c.in_err-at_rule.ensures.err)

pub returns-in_err-rule : goal.returns-in_err-rule
returns-in_err-rule c =
    let l0 = lift-image no_byte step_of (Cat (Number (Within c.args.n c.args.n)) (λ number. Front (codes " ") (Cat SpellsRule (λ rule. Front (codes " : ") SpellsClauseLine)))) c.args.text.now in
    let l1 = read_next l0 (sure-step_number c.args.n) (λ number. next-line_rule) c.in_ok-_number.ensures in
    let l2 = read_front (codes " ") l1 c.in_ok-at_rule.ensures.ok in
    let p = err_from_is_err_and c.from_residual-in_err-rule.result c.from_residual-in_err-rule.ensures.1 in
    rw (p.1, p.2) (next_unread l2 (λ rule. next-line_clause) c.in_err-rule.field-0.0 c.in_err-rule.ensures)

pub returns-in_err-at_clause : goal.returns-in_err-at_clause
returns-in_err-at_clause c =
    let l0 = lift-image no_byte step_of (Cat (Number (Within c.args.n c.args.n)) (λ number. Front (codes " ") (Cat SpellsRule (λ rule. Front (codes " : ") SpellsClauseLine)))) c.args.text.now in
    let l1 = read_next l0 (sure-step_number c.args.n) (λ number. next-line_rule) c.in_ok-_number.ensures in
    let l2 = read_front (codes " ") l1 c.in_ok-at_rule.ensures.ok in
    let l3 = read_next l2 sure-rule (λ rule. next-line_clause) c.in_ok-rule.ensures in
    let p = err_from_is_err_and c.from_residual-in_err-at_clause.result c.from_residual-in_err-at_clause.ensures.1 in
    rw (p.1, p.2) (front_fails (codes " : ") l3 sure-clause_line c.in_err-at_clause.ensures.err)

pub returns-in_err-clause : goal.returns-in_err-clause
returns-in_err-clause c =
    let l0 = lift-image no_byte step_of (Cat (Number (Within c.args.n c.args.n)) (λ number. Front (codes " ") (Cat SpellsRule (λ rule. Front (codes " : ") SpellsClauseLine)))) c.args.text.now in
    let l1 = read_next l0 (sure-step_number c.args.n) (λ number. next-line_rule) c.in_ok-_number.ensures in
    let l2 = read_front (codes " ") l1 c.in_ok-at_rule.ensures.ok in
    let l3 = read_next l2 sure-rule (λ rule. next-line_clause) c.in_ok-rule.ensures in
    let l4 = read_front (codes " : ") l3 c.in_ok-at_clause.ensures.ok in
    let p = err_from_is_err_and c.from_residual-in_err-clause.result c.from_residual-in_err-clause.ensures.1 in
    rw (p.1, p.2) (last_unread l4 c.in_err-clause.field-0.0 c.in_err-clause.ensures)

pub returns : goal.returns
returns c =
    let l0 = lift-image no_byte step_of (Cat (Number (Within c.args.n c.args.n)) (λ number. Front (codes " ") (Cat SpellsRule (λ rule. Front (codes " : ") SpellsClauseLine)))) c.args.text.now in
    let l1 = read_next l0 (sure-step_number c.args.n) (λ number. next-line_rule) c.in_ok-_number.ensures in
    let l2 = read_front (codes " ") l1 c.in_ok-at_rule.ensures.ok in
    let l3 = read_next l2 sure-rule (λ rule. next-line_clause) c.in_ok-rule.ensures in
    let l4 = read_front (codes " : ") l3 c.in_ok-at_clause.ensures.ok in
    l4.reads _ _ c.in_ok-clause.ensures
