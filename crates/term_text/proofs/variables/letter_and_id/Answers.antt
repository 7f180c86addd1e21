use Rattle.std.proofs.Common.{arith}
use Rattle.std.proofs.lemmas.Result.{err_from_is_err_and}
use Rattle.text_pieces.specs.Decimals.{is_digit}
use Rattle.text_pieces.specs.Numbers.{Number, Within}
use Rattle.text_pieces.specs.Fronts.{Front}
use Rattle.text_pieces.proofs.Lifts.{lift-self}
use Rattle.text_pieces.proofs.WordReading.{read_front, front_fails}
use Rattle.term_text.proofs.VariableFronts.{sure-number}
use Rattle.term_text.proofs.variables.letter_and_id.Goals as goal

pub returns-in_err-behind : goal.returns-in_err-behind
returns-in_err-behind c =
    let l0 = lift-self is_digit (Front c.args.letter.now (Number (Within c.args.least 4294967295))) c.args.text.now in
    let p = err_from_is_err_and c.from_residual.result c.from_residual.ensures.1 in
    rw (p.1, p.2) (front_fails c.args.letter.now l0 (sure-number (Within c.args.least 4294967295) c.args.least (record { from_low = omega arith; to_high = omega (arith, c.requires) })) c.in_err-behind.ensures.err)

pub returns-in_err-id : goal.returns-in_err-id
returns-in_err-id c =
    let l0 = lift-self is_digit (Front c.args.letter.now (Number (Within c.args.least 4294967295))) c.args.text.now in
    let l1 = read_front c.args.letter.now l0 c.in_ok-behind.ensures.ok in
    let p = err_from_is_err_and c.from_residual-in_err-id.result c.from_residual-in_err-id.ensures.1 in
    rw (p.1, p.2) (l1.fails _ c.in_err-id.ensures)

pub returns : goal.returns
returns c =
    let l0 = lift-self is_digit (Front c.args.letter.now (Number (Within c.args.least 4294967295))) c.args.text.now in
    let l1 = read_front c.args.letter.now l0 c.in_ok-behind.ensures.ok in
    l1.reads _ _ c.in_ok-id.ensures
