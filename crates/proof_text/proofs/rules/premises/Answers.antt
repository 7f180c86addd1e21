use Rattle.std.proofs.Common.{true, false, [], ◌∙◌, sym}
use Rattle.std.specs.Prelude.{codes}
use Rattle.std.proofs.lemmas.Result.{err_from_is_err_and, MatchResult-weaker}
use Rattle.text_pieces.specs.Decimals.{is_digit}
use Rattle.text_pieces.specs.Fronts.{Word}
use Rattle.text_pieces.proofs.Lifts.{lift-self, lift-then, lift-image, last_unread}
use Rattle.text_pieces.proofs.WordReading.{read_front, front_fails}
use Rattle.proof_text.specs.Rules.{Premises}
use Rattle.proof_text.proofs.RuleFronts.{sure-premises_kinds, premises_at}
use Rattle.proof_text.proofs.rules.premises.Goals as goal

pub returns-in_err-behind : goal.returns-in_err-behind
returns-in_err-behind c =
    let l0 = lift-self is_digit Premises c.args.text.now in
    let p = err_from_is_err_and c.from_residual.result c.from_residual.ensures.1 in
    rw (p.1, p.2) (front_fails (codes " ") l0 sure-premises_kinds c.in_err-behind.ensures.err)

pub returns-in_err-rest : goal.returns-in_err-rest
returns-in_err-rest c =
    let l0 = lift-self is_digit Premises c.args.text.now in
    let l1 = read_front (codes " ") l0 c.in_ok-behind.ensures.ok in
    let l2 = lift-then l1 (lift-then (premises_at c.in_ok-behind.behind.now true (sym c.begins_with.ensures ∙ c.if-begins_with.true)) (lift-image is_digit (λ (u : Unit {0}). []) (Word (codes "- ")) c.in_ok-behind.behind.now)) in
    let p = err_from_is_err_and c.from_residual-in_err-rest.result c.from_residual-in_err-rest.ensures.1 in
    rw (p.1, p.2) (l2.fails _ c.in_err-rest.ensures)

pub returns-then-begins_with : goal.returns-then-begins_with
returns-then-begins_with c =
    let l0 = lift-self is_digit Premises c.args.text.now in
    let l1 = read_front (codes " ") l0 c.in_ok-behind.ensures.ok in
    let l2 = lift-then l1 (lift-then (premises_at c.in_ok-behind.behind.now true (sym c.begins_with.ensures ∙ c.if-begins_with.true)) (lift-image is_digit (λ (u : Unit {0}). []) (Word (codes "- ")) c.in_ok-behind.behind.now)) in
    rw c.new.ensures (l2.reads tt _ c.in_ok-rest.ensures)

pub returns : goal.returns
returns c =
    let l0 = lift-self is_digit Premises c.args.text.now in
    let l1 = read_front (codes " ") l0 c.in_ok-behind.ensures.ok in
    let l2 = lift-then l1 (premises_at c.in_ok-behind.behind.now false (sym c.begins_with.ensures ∙ c.if-begins_with.false)) in
    MatchResult-weaker c.some_premises.result c.some_premises.ensures (λ f r. l2.reads f.0 f.1.now r) (λ e f. last_unread l2 e f)
