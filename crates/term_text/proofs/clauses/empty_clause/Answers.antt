use Rattle.std.proofs.Common.{[]}
use Rattle.std.specs.Prelude.{codes}
use Rattle.std.proofs.lemmas.Result.{err_from_is_err_and}
use Rattle.text_pieces.specs.Ending.{no_byte}
use Rattle.text_pieces.specs.Fronts.{Word}
use Rattle.text_pieces.proofs.Ends.{free_none}
use Rattle.text_pieces.proofs.Lifts.{lift-image}
use Rattle.text_pieces.proofs.WordReading.{no_word, word_reads}
use Rattle.term_text.proofs.clauses.empty_clause.Goals as goal

pub returns-in_err-last : goal.returns-in_err-last
returns-in_err-last c =
    let l0 = lift-image no_byte (λ (u : Unit {0}). record { literals = [] }) (Word (codes "$false\n")) c.args.text.now in
    let p = err_from_is_err_and c.from_residual.result c.from_residual.ensures.1 in
    rw (p.1, p.2) (l0.fails _ (no_word _ (codes "$false\n") _ _ c.in_err-last.ensures.err))

pub returns : goal.returns
returns c =
    let l0 = lift-image no_byte (λ (u : Unit {0}). record { literals = [] }) (Word (codes "$false\n")) c.args.text.now in
    rw c.new-literals.ensures (l0.reads tt _ (word_reads no_byte (codes "$false\n") _ _ c.in_ok-last.ensures.ok (free_none _)))
