use Rattle.std.specs.Prelude.{codes}
use Rattle.std.proofs.lemmas.Result.{err_from_is_err_and}
use Rattle.text_pieces.specs.Languages.{Cat}
use Rattle.text_pieces.specs.Ending.{no_byte}
use Rattle.text_pieces.specs.Fronts.{Front}
use Rattle.text_pieces.proofs.Lifts.{lift-image, read_next, next_fails, last_unread}
use Rattle.text_pieces.proofs.WordReading.{read_front, front_fails}
use Rattle.proof_text.specs.Derivations.{StepLines, VariablesWord, derivation_of}
use Rattle.proof_text.proofs.RuleWords.{sure-variables_word}
use Rattle.proof_text.proofs.StepFronts.{sure-steps, next-steps, sure-header}
use Rattle.proof_text.proofs.steps.derivation.Goals as goal

pub returns-in_err-header : goal.returns-in_err-header
returns-in_err-header c =
    let l0 = lift-image no_byte derivation_of (Front (codes "derivation 1 ") (Cat VariablesWord (λ ordinary. Front (codes "\n") (StepLines 0)))) c.args.text.now in
    let p = err_from_is_err_and c.from_residual.result c.from_residual.ensures.1 in
    rw (p.1, p.2) (front_fails (codes "derivation 1 ") l0 sure-header c.in_err-header.ensures.err)

pub returns-in_err-ordinary : goal.returns-in_err-ordinary
returns-in_err-ordinary c =
    let l0 = lift-image no_byte derivation_of (Front (codes "derivation 1 ") (Cat VariablesWord (λ ordinary. Front (codes "\n") (StepLines 0)))) c.args.text.now in
    let l1 = read_front (codes "derivation 1 ") l0 c.in_ok-header.ensures.ok in
    let p = err_from_is_err_and c.from_residual-in_err-ordinary.result c.from_residual-in_err-ordinary.ensures.1 in
    rw (p.1, p.2) (next_fails l1 (λ ordinary. next-steps) c.in_err-ordinary.ensures)

pub returns-in_err-lines : goal.returns-in_err-lines
returns-in_err-lines c =
    let l0 = lift-image no_byte derivation_of (Front (codes "derivation 1 ") (Cat VariablesWord (λ ordinary. Front (codes "\n") (StepLines 0)))) c.args.text.now in
    let l1 = read_front (codes "derivation 1 ") l0 c.in_ok-header.ensures.ok in
    let l2 = read_next l1 sure-variables_word (λ ordinary. next-steps) c.in_ok-ordinary.ensures in
    let p = err_from_is_err_and c.from_residual-in_err-lines.result c.from_residual-in_err-lines.ensures.1 in
    rw (p.1, p.2) (front_fails (codes "\n") l2 sure-steps c.in_err-lines.ensures.err)

pub returns-in_err-steps : goal.returns-in_err-steps
returns-in_err-steps c =
    let l0 = lift-image no_byte derivation_of (Front (codes "derivation 1 ") (Cat VariablesWord (λ ordinary. Front (codes "\n") (StepLines 0)))) c.args.text.now in
    let l1 = read_front (codes "derivation 1 ") l0 c.in_ok-header.ensures.ok in
    let l2 = read_next l1 sure-variables_word (λ ordinary. next-steps) c.in_ok-ordinary.ensures in
    let l3 = read_front (codes "\n") l2 c.in_ok-lines.ensures.ok in
    let p = err_from_is_err_and c.from_residual-in_err-steps.result c.from_residual-in_err-steps.ensures.1 in
    rw (p.1, p.2) (last_unread l3 c.in_err-steps.field-0.0 c.in_err-steps.ensures)

pub returns : goal.returns
returns c =
    let l0 = lift-image no_byte derivation_of (Front (codes "derivation 1 ") (Cat VariablesWord (λ ordinary. Front (codes "\n") (StepLines 0)))) c.args.text.now in
    let l1 = read_front (codes "derivation 1 ") l0 c.in_ok-header.ensures.ok in
    let l2 = read_next l1 sure-variables_word (λ ordinary. next-steps) c.in_ok-ordinary.ensures in
    let l3 = read_front (codes "\n") l2 c.in_ok-lines.ensures.ok in
    l3.reads _ _ c.in_ok-steps.ensures
