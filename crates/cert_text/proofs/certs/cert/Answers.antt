use Rattle.std.proofs.lemmas.Result.{err_from_is_err_and}
use Rattle.text_pieces.specs.Languages.{Cat, Blank}
use Rattle.text_pieces.specs.Numbers.{Counted}
use Rattle.cert_text.specs.Grammar.{SpellsRow, SpellsTree}
use Rattle.text_pieces.proofs.Lifting.{lift-image}
use Rattle.text_pieces.proofs.Chains.{read_next, next_fails, next_unread, last_unread, both}
use Rattle.std.specs.Prelude.{codes}
use Rattle.text_pieces.specs.Languages.{Exactly}
use Rattle.cert_text.specs.Grammar.{cert_of}
use Rattle.cert_text.proofs.Sure.{unambiguous-blank_tree}
use Rattle.cert_text.proofs.Wholes.{unambiguous-word, unambiguous-rows}
use Rattle.cert_text.proofs.certs.cert.Goals as goal

pub returns-in_err-behind : goal.returns-in_err-behind
returns-in_err-behind c =
    let l0 = lift-image cert_of (Cat (Exactly (codes "cert")) (λ word. Cat (Counted (Blank SpellsRow)) (λ rows. Blank SpellsTree))) c.args.text.now in
    let p = err_from_is_err_and c.from_residual.result c.from_residual.ensures.1 in
    rw (p.1, p.2) (next_fails l0 (λ v. (both unambiguous-rows (λ v. unambiguous-blank_tree))) c.in_err-behind.ensures)

pub returns-in_err-rows : goal.returns-in_err-rows
returns-in_err-rows c =
    let l0 = lift-image cert_of (Cat (Exactly (codes "cert")) (λ word. Cat (Counted (Blank SpellsRow)) (λ rows. Blank SpellsTree))) c.args.text.now in
    let l1 = read_next l0 unambiguous-word (λ v. (both unambiguous-rows (λ v. unambiguous-blank_tree))) c.in_ok-behind.ensures in
    let p = err_from_is_err_and c.from_residual-in_err-rows.result c.from_residual-in_err-rows.ensures.1 in
    rw (p.1, p.2) (next_unread l1 (λ v. unambiguous-blank_tree) c.in_err-rows.field-0.0 c.in_err-rows.ensures)

pub returns-in_err-tree : goal.returns-in_err-tree
returns-in_err-tree c =
    let l0 = lift-image cert_of (Cat (Exactly (codes "cert")) (λ word. Cat (Counted (Blank SpellsRow)) (λ rows. Blank SpellsTree))) c.args.text.now in
    let l1 = read_next l0 unambiguous-word (λ v. (both unambiguous-rows (λ v. unambiguous-blank_tree))) c.in_ok-behind.ensures in
    let l2 = read_next l1 unambiguous-rows (λ v. unambiguous-blank_tree) c.in_ok-rows.ensures in
    let p = err_from_is_err_and c.from_residual-in_err-tree.result c.from_residual-in_err-tree.ensures.1 in
    rw (p.1, p.2) (last_unread l2 c.in_err-tree.field-0.0 c.in_err-tree.ensures)

pub returns : goal.returns
returns c =
    let l0 = lift-image cert_of (Cat (Exactly (codes "cert")) (λ word. Cat (Counted (Blank SpellsRow)) (λ rows. Blank SpellsTree))) c.args.text.now in
    let l1 = read_next l0 unambiguous-word (λ v. (both unambiguous-rows (λ v. unambiguous-blank_tree))) c.in_ok-behind.ensures in
    let l2 = read_next l1 unambiguous-rows (λ v. unambiguous-blank_tree) c.in_ok-rows.ensures in
    l2.reads c.in_ok-tree.tree c.in_ok-tree.rest.now c.in_ok-tree.ensures
