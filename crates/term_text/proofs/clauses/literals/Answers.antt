use Rattle.std.proofs.Common.{false, subst, append-nil}
use Rattle.std.proofs.lemmas.Result.{err_from_is_err_and}
use Rattle.text_pieces.specs.Languages.{Cat, ReadsTo}
use Rattle.text_pieces.specs.Ending.{no_byte}
use Rattle.text_pieces.proofs.Lifts.{lift-image, read_next, next_unread}
use Rattle.term_text.proofs.ClauseReading.{sure-literal, next-more_literals, literal_read, literal_unread, literals_end, literals_open}
use Rattle.term_text.specs.Clauses.{SpellsLiteral, MoreLiterals, ClauseParts, clause_of}
use Rattle.term_text.proofs.clauses.literals.Goals as goal

pub returns-in_err-first : goal.returns-in_err-first
returns-in_err-first c =
    let l0 = lift-image no_byte clause_of (Cat SpellsLiteral (λ first. MoreLiterals)) c.args.text.now in
    let p = err_from_is_err_and c.from_residual.result c.from_residual.ensures.1 in
    rw (p.1, p.2) (next_unread l0 (λ first. next-more_literals) c.in_err-first.field-0.0 c.in_err-first.ensures)

pub loop-behind-init : goal.loop-behind-init
loop-behind-init c =
    let l0 = lift-image no_byte clause_of (Cat SpellsLiteral (λ first. MoreLiterals)) c.args.text.now in
    let l1 = read_next l0 sure-literal (λ first. next-more_literals) c.in_ok-first.ensures in
    let all = c.in_ok-push.ensures.ok in
    rw (all, c.new-all.ensures) l1

pub returns-in_err-next : goal.returns-in_err-next
returns-in_err-next c =
    let p = err_from_is_err_and c.from_residual-in_err-next.result c.from_residual-in_err-next.ensures.1 in
    rw (p.1, p.2) (literal_unread c.loop-behind.all c.loop-behind.invariant c.in-Some.ensures.some c.in_err-next.field-0.0 c.in_err-next.ensures)

pub loop-behind-preserved : goal.loop-behind-preserved
loop-behind-preserved c =
    let more = literal_read c.loop-behind.all c.loop-behind.invariant c.in-Some.ensures.some c.in_ok-next.ensures in
    let all = c.in_ok-push-2.ensures.ok in
    rw all more

pub returns-in_err-last : goal.returns-in_err-last
returns-in_err-last c =
    let p = err_from_is_err_and c.from_residual-in_err-last.result c.from_residual-in_err-last.ensures.1 in
    rw (p.1, p.2) (literals_open c.loop-behind.all c.loop-behind.invariant c.in_default.ensures.none c.in_err-last.ensures.err)

pub returns : goal.returns
returns c = subst (λ z. ReadsTo no_byte (ClauseParts false) c.args.text.now (record { literals = z }) c.in_ok-last.last.now) (append-nil c.loop-behind.all) (literals_end c.loop-behind.all c.loop-behind.invariant c.in_default.ensures.none c.in_ok-last.ensures.ok)
