use Rattle.std.specs.Prelude.{codes}
use Rattle.std.proofs.lemmas.Result.{err_from_is_err_and, MatchResult-weaker}
use Rattle.text_pieces.specs.Decimals.{is_digit}
use Rattle.text_pieces.specs.Numbers.{Number, Word32}
use Rattle.text_pieces.specs.Fronts.{Front}
use Rattle.text_pieces.proofs.Lifts.{lift-self}
use Rattle.text_pieces.proofs.WordReading.{read_front, front_fails}
use Rattle.term_text.proofs.VariableFronts.{sure-word32}
use Rattle.proof_text.proofs.rules.dot_and_literal.Goals as goal

pub returns-in_err-behind : goal.returns-in_err-behind
returns-in_err-behind c =
    let l0 = lift-self is_digit (Front (codes ".") (Number Word32)) c.args.text.now in
    let p = err_from_is_err_and c.from_residual.result c.from_residual.ensures.1 in
    rw (p.1, p.2) (front_fails (codes ".") l0 sure-word32 c.in_err-behind.ensures.err)

pub returns : goal.returns
returns c =
    let l0 = lift-self is_digit (Front (codes ".") (Number Word32)) c.args.text.now in
    let l1 = read_front (codes ".") l0 c.in_ok-behind.ensures.ok in
    MatchResult-weaker c.word32.result c.word32.ensures (λ f r. l1.reads f.0 f.1.now r) (λ e f. l1.fails e.left f)
