use Rattle.std.proofs.lemmas.Result.{err_from_is_err_and, MatchResult-weaker}
use Rattle.cert_text.specs.declared.kinds.RowKind.TheVariants as kind
use Rattle.text_pieces.specs.Languages.{Cat, Reads}
use Rattle.cert_text.specs.Grammar.{RowParts}
use Rattle.text_pieces.proofs.Lifting.{lift-image}
use Rattle.text_pieces.proofs.Chains.{read_next, next_fails, last_unread}
use Rattle.std.proofs.Common.{subst}
use Rattle.cert_tree.specs.declared.certs.Row.{Row}
use Rattle.cert_text.specs.declared.kinds.RowKind.{RowKind}
use Rattle.cert_text.specs.Grammar.{RowWord}
use Rattle.cert_text.proofs.Kinded.{unambiguous-row_word}
use Rattle.cert_text.proofs.ToldApart.{unambiguous-row_parts}
use Rattle.cert_text.proofs.parts.row.Goals as goal

pub returns-in_err-kind : goal.returns-in_err-kind
returns-in_err-kind c =
    let l0 = lift-image (λ (p : RowKind × Row). p.1) (Cat RowWord RowParts) c.args.text.now in
    let p = err_from_is_err_and c.from_residual.result c.from_residual.ensures.1 in
    rw (p.1, p.2) (next_fails l0 unambiguous-row_parts c.in_err-kind.ensures)

pub returns-in-Inst : goal.returns-in-Inst
returns-in-Inst c =
    let word : Reads RowWord c.args.text.now kind.Inst c.in_ok-kind.rest.now = subst (λ k. Reads RowWord c.args.text.now k c.in_ok-kind.rest.now) c.in-Inst.is c.in_ok-kind.ensures in
    let l0 = lift-image (λ (p : RowKind × Row). p.1) (Cat RowWord RowParts) c.args.text.now in
    let l1 = read_next l0 unambiguous-row_word unambiguous-row_parts word in
    MatchResult-weaker c.inst.result c.inst.ensures (λ f r. l1.reads f.0 f.1.now r) (λ e f. last_unread l1 e f)

pub returns-in_err-low-in-Low : goal.returns-in_err-low-in-Low
returns-in_err-low-in-Low c =
    let word : Reads RowWord c.args.text.now kind.Low c.in_ok-kind.rest.now = subst (λ k. Reads RowWord c.args.text.now k c.in_ok-kind.rest.now) c.in-Low.is c.in_ok-kind.ensures in
    let l0 = lift-image (λ (p : RowKind × Row). p.1) (Cat RowWord RowParts) c.args.text.now in
    let l1 = read_next l0 unambiguous-row_word unambiguous-row_parts word in
    let p = err_from_is_err_and c.from_residual-in_err-low-in-Low.result c.from_residual-in_err-low-in-Low.ensures.1 in
    rw (p.1, p.2) (l1.fails c.in_err-low-in-Low.field-0.0.left c.in_err-low-in-Low.ensures)

pub returns-in_ok-low-in-Low : goal.returns-in_ok-low-in-Low
returns-in_ok-low-in-Low c =
    let word : Reads RowWord c.args.text.now kind.Low c.in_ok-kind.rest.now = subst (λ k. Reads RowWord c.args.text.now k c.in_ok-kind.rest.now) c.in-Low.is c.in_ok-kind.ensures in
    let l0 = lift-image (λ (p : RowKind × Row). p.1) (Cat RowWord RowParts) c.args.text.now in
    let l1 = read_next l0 unambiguous-row_word unambiguous-row_parts word in
    l1.reads _ _ c.in_ok-low-in-Low.ensures
