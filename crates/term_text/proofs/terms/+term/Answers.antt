use Rattle.std.proofs.Common.{ℕ, List, ◌∷◌, ◌∙◌, sym, subst, arith, append-nil}
use Rattle.std.specs.Prelude.{codes}
use Rattle.std.proofs.lemmas.Result.{err_from_is_err_and, MatchResult-weaker}
use Rattle.text_pieces.specs.Decimals.{is_digit}
use Rattle.text_pieces.specs.Languages.{Cat, ReadsTo}
use Rattle.text_pieces.specs.Numbers.{Number, Word32}
use Rattle.text_pieces.specs.Ending.{is_digit_or_bracket, no_byte}
use Rattle.text_pieces.specs.Fronts.{Front}
use Rattle.text_pieces.proofs.Ends.{within_none, free_none, followed_fails, read_on}
use Rattle.text_pieces.proofs.Lifts.{lift-image, read_next, next_fails, next_unread, last_unread, unread_within}
use Rattle.text_pieces.proofs.WordReading.{read_front, front_fails, no_word, word_reads}
use Rattle.term_text.proofs.VariableFronts.{sure-word32}
use Rattle.term_text.proofs.TermFronts.{sure-term, sure-sign, next-behind_first, next-second, sure-in_brackets, next-arguments, one_front-bracket, sure-listed, next-word_bracket, sure-symbol, sure-signed_second, sure-closed, sure-listed_parts, next-listed}
use Rattle.term_text.proofs.TermReading.{term_at, as_arguments, no_arguments, argument_unread, argument_read, arguments_open, arguments_end, read_less, front_less}
use Rattle.term_text.specs.Terms.{SpellsTerm, TermParts, InBrackets, Arguments, ListedArguments, MoreArguments, bracketed, number_of}
use Rattle.term_base.specs.declared.terms.Term.{Term}
use Rattle.term_base.specs.declared.terms.Term.TheVariants as term
use Rattle.term_text.specs.declared.kinds.TermKind.TheVariants as kind
use Rattle.term_text.proofs.terms.+term.Goals as goal

pub term-returns-in-Variable : goal.term-returns-in-Variable
term-returns-in-Variable t c =
    let l = term_at c.args.text.now kind.Variable (sym c.term_kind.ensures ∙ c.in-Variable.is) in
    MatchResult-weaker c.variable_term.result c.variable_term.ensures (λ f r. l.reads f.0 f.1.now r) (λ e f. last_unread l e f)

pub term-returns-in-Number : goal.term-returns-in-Number
term-returns-in-Number t c =
    let l = term_at c.args.text.now kind.Number (sym c.term_kind.ensures ∙ c.in-Number.is) in
    MatchResult-weaker c.number_term.result c.number_term.ensures (λ f r. l.reads f.0 f.1.now r) (λ e f. last_unread l e f)

pub term-returns-in-Truth : goal.term-returns-in-Truth
term-returns-in-Truth t c =
    let l = term_at c.args.text.now kind.Truth (sym c.term_kind.ensures ∙ c.in-Truth.is) in
    MatchResult-weaker c.truth.result c.truth.ensures (λ f r. l.reads f.0 f.1.now r) (λ e f. last_unread l e f)

pub term-returns-in-Bracket : goal.term-returns-in-Bracket
term-returns-in-Bracket t c =
    let l = term_at c.args.text.now kind.Bracket (sym c.term_kind.ensures ∙ c.in-Bracket.is) in
    MatchResult-weaker c.bracket.result c.bracket.ensures (λ f r. l.reads f.0 f.1.now r) (λ e f. last_unread l e f)

pub term-returns-in-Symbol : goal.term-returns-in-Symbol
term-returns-in-Symbol t c =
    let l = term_at c.args.text.now kind.Symbol (sym c.term_kind.ensures ∙ c.in-Symbol.is) in
    MatchResult-weaker c.symbol.result c.symbol.ensures (λ f r. l.reads f.0 f.1.now r) (λ e f. last_unread l e f)

pub bracket-returns-in_err-t : goal.bracket-returns-in_err-t
bracket-returns-in_err-t t c =
    let p = err_from_is_err_and c.from_residual.result c.from_residual.ensures.1 in
    rw (p.1, p.2) (unread_within no_byte is_digit_or_bracket (TermParts SpellsTerm kind.Bracket) c.args.text.now (within_none is_digit_or_bracket) c.in_err-t.field-0.0 c.in_err-t.ensures)

pub bracket-returns-in_err-check_end : goal.bracket-returns-in_err-check_end
bracket-returns-in_err-check_end t c =
    let p = err_from_is_err_and c.from_residual-in_err-check_end.result c.from_residual-in_err-check_end.ensures.1 in
    rw (p.1, p.2) (followed_fails (within_none is_digit_or_bracket) one_front-bracket c.in_ok-t.ensures c.in_err-check_end.ensures.err)

pub bracket-returns : goal.bracket-returns
bracket-returns t c = read_on c.in_ok-t.ensures c.in_ok-check_end.ensures.ok

pub in_brackets-returns-in_err-inner : goal.in_brackets-returns-in_err-inner
in_brackets-returns-in_err-inner t c =
    let l0 = lift-image no_byte bracketed (InBrackets SpellsTerm) c.args.text.now in
    let p = err_from_is_err_and c.from_residual.result c.from_residual.ensures.1 in
    rw (p.1, p.2) (front_fails (codes "(") l0 (sure-in_brackets no_byte) c.in_err-inner.ensures.err)

pub in_brackets-returns-in_err-a : goal.in_brackets-returns-in_err-a
in_brackets-returns-in_err-a t c =
    let l0 = lift-image no_byte bracketed (InBrackets SpellsTerm) c.args.text.now in
    let l1 = read_front (codes "(") l0 c.in_ok-inner.ensures.ok in
    let p = err_from_is_err_and c.from_residual-in_err-a.result c.from_residual-in_err-a.ensures.1 in
    rw (p.1, p.2) (next_unread l1 (next-behind_first no_byte) c.in_err-a.field-0.0 c.in_err-a.ensures)

pub in_brackets-returns-in_err-at_sign : goal.in_brackets-returns-in_err-at_sign
in_brackets-returns-in_err-at_sign t c =
    let l0 = lift-image no_byte bracketed (InBrackets SpellsTerm) c.args.text.now in
    let l1 = read_front (codes "(") l0 c.in_ok-inner.ensures.ok in
    let l2 = read_next l1 sure-term (next-behind_first no_byte) c.in_ok-a.ensures in
    let p = err_from_is_err_and c.from_residual-in_err-at_sign.result c.from_residual-in_err-at_sign.ensures.1 in
    rw (p.1, p.2) (front_fails (codes " ") l2 (sure-signed_second no_byte c.in_ok-a.a) c.in_err-at_sign.ensures.err)

pub in_brackets-returns-in_err-operation : goal.in_brackets-returns-in_err-operation
in_brackets-returns-in_err-operation t c =
    let l0 = lift-image no_byte bracketed (InBrackets SpellsTerm) c.args.text.now in
    let l1 = read_front (codes "(") l0 c.in_ok-inner.ensures.ok in
    let l2 = read_next l1 sure-term (next-behind_first no_byte) c.in_ok-a.ensures in
    let l3 = read_front (codes " ") l2 c.in_ok-at_sign.ensures.ok in
    let p = err_from_is_err_and c.from_residual-in_err-operation.result c.from_residual-in_err-operation.ensures.1 in
    rw (p.1, p.2) (next_fails l3 (λ sign. next-second no_byte) c.in_err-operation.ensures)

pub in_brackets-returns-in_err-at_b : goal.in_brackets-returns-in_err-at_b
in_brackets-returns-in_err-at_b t c =
    let l0 = lift-image no_byte bracketed (InBrackets SpellsTerm) c.args.text.now in
    let l1 = read_front (codes "(") l0 c.in_ok-inner.ensures.ok in
    let l2 = read_next l1 sure-term (next-behind_first no_byte) c.in_ok-a.ensures in
    let l3 = read_front (codes " ") l2 c.in_ok-at_sign.ensures.ok in
    let l4 = read_next l3 (sure-sign is_digit (number_of c.in_ok-a.a)) (λ sign. next-second no_byte) c.in_ok-operation.ensures in
    let p = err_from_is_err_and c.from_residual-in_err-at_b.result c.from_residual-in_err-at_b.ensures.1 in
    rw (p.1, p.2) (front_fails (codes " ") l4 (sure-closed no_byte) c.in_err-at_b.ensures.err)

pub in_brackets-returns-in_err-b : goal.in_brackets-returns-in_err-b
in_brackets-returns-in_err-b t c =
    let l0 = lift-image no_byte bracketed (InBrackets SpellsTerm) c.args.text.now in
    let l1 = read_front (codes "(") l0 c.in_ok-inner.ensures.ok in
    let l2 = read_next l1 sure-term (next-behind_first no_byte) c.in_ok-a.ensures in
    let l3 = read_front (codes " ") l2 c.in_ok-at_sign.ensures.ok in
    let l4 = read_next l3 (sure-sign is_digit (number_of c.in_ok-a.a)) (λ sign. next-second no_byte) c.in_ok-operation.ensures in
    let l5 = read_front (codes " ") l4 c.in_ok-at_b.ensures.ok in
    let p = err_from_is_err_and c.from_residual-in_err-b.result c.from_residual-in_err-b.ensures.1 in
    rw (p.1, p.2) (next_unread l5 (λ b. next-word_bracket no_byte) c.in_err-b.field-0.0 c.in_err-b.ensures)

pub in_brackets-returns-in_err-rest : goal.in_brackets-returns-in_err-rest
in_brackets-returns-in_err-rest t c =
    let l0 = lift-image no_byte bracketed (InBrackets SpellsTerm) c.args.text.now in
    let l1 = read_front (codes "(") l0 c.in_ok-inner.ensures.ok in
    let l2 = read_next l1 sure-term (next-behind_first no_byte) c.in_ok-a.ensures in
    let l3 = read_front (codes " ") l2 c.in_ok-at_sign.ensures.ok in
    let l4 = read_next l3 (sure-sign is_digit (number_of c.in_ok-a.a)) (λ sign. next-second no_byte) c.in_ok-operation.ensures in
    let l5 = read_front (codes " ") l4 c.in_ok-at_b.ensures.ok in
    let l6 = read_next l5 sure-term (λ b. next-word_bracket no_byte) c.in_ok-b.ensures in
    let p = err_from_is_err_and c.from_residual-in_err-rest.result c.from_residual-in_err-rest.ensures.1 in
    rw (p.1, p.2) (l6.fails _ (no_word _ (codes ")") _ _ c.in_err-rest.ensures.err))

pub in_brackets-returns : goal.in_brackets-returns
in_brackets-returns t c =
    let l0 = lift-image no_byte bracketed (InBrackets SpellsTerm) c.args.text.now in
    let l1 = read_front (codes "(") l0 c.in_ok-inner.ensures.ok in
    let l2 = read_next l1 sure-term (next-behind_first no_byte) c.in_ok-a.ensures in
    let l3 = read_front (codes " ") l2 c.in_ok-at_sign.ensures.ok in
    let l4 = read_next l3 (sure-sign is_digit (number_of c.in_ok-a.a)) (λ sign. next-second no_byte) c.in_ok-operation.ensures in
    let l5 = read_front (codes " ") l4 c.in_ok-at_b.ensures.ok in
    let l6 = read_next l5 sure-term (λ b. next-word_bracket no_byte) c.in_ok-b.ensures in
    let whole = c.in_ok-whole.ensures in
    rw whole (l6.reads tt _ (word_reads no_byte (codes ")") _ _ c.in_ok-rest.ensures.ok (free_none _)))

pub symbol-returns-in_err-number : goal.symbol-returns-in_err-number
symbol-returns-in_err-number t c =
    let l0 = lift-image is_digit_or_bracket (λ (p : ℕ × List Term). term.App p.0 p.1) (Front (codes "s") (Cat (Number Word32) (λ f. Arguments SpellsTerm))) c.args.text.now in
    let p = err_from_is_err_and c.from_residual.result c.from_residual.ensures.1 in
    rw (p.1, p.2) (front_fails (codes "s") l0 sure-symbol c.in_err-number.ensures.err)

pub symbol-returns-in_err-f : goal.symbol-returns-in_err-f
symbol-returns-in_err-f t c =
    let l0 = lift-image is_digit_or_bracket (λ (p : ℕ × List Term). term.App p.0 p.1) (Front (codes "s") (Cat (Number Word32) (λ f. Arguments SpellsTerm))) c.args.text.now in
    let l1 = read_front (codes "s") l0 c.in_ok-number.ensures.ok in
    let p = err_from_is_err_and c.from_residual-in_err-f.result c.from_residual-in_err-f.ensures.1 in
    rw (p.1, p.2) (next_fails l1 (λ f. next-arguments) c.in_err-f.ensures)

pub symbol-returns-in_err-all : goal.symbol-returns-in_err-all
symbol-returns-in_err-all t c =
    let l0 = lift-image is_digit_or_bracket (λ (p : ℕ × List Term). term.App p.0 p.1) (Front (codes "s") (Cat (Number Word32) (λ f. Arguments SpellsTerm))) c.args.text.now in
    let l1 = read_front (codes "s") l0 c.in_ok-number.ensures.ok in
    let l2 = read_next l1 sure-word32 (λ f. next-arguments) c.in_ok-f.ensures in
    let p = err_from_is_err_and c.from_residual-in_err-all.result c.from_residual-in_err-all.ensures.1 in
    rw (p.1, p.2) (last_unread l2 c.in_err-all.field-0.0 c.in_err-all.ensures)

pub symbol-returns : goal.symbol-returns
symbol-returns t c =
    let l0 = lift-image is_digit_or_bracket (λ (p : ℕ × List Term). term.App p.0 p.1) (Front (codes "s") (Cat (Number Word32) (λ f. Arguments SpellsTerm))) c.args.text.now in
    let l1 = read_front (codes "s") l0 c.in_ok-number.ensures.ok in
    let l2 = read_next l1 sure-word32 (λ f. next-arguments) c.in_ok-f.ensures in
    l2.reads _ _ c.in_ok-all.ensures

pub arguments-returns-then-not-begins_with : goal.arguments-returns-then-not-begins_with
arguments-returns-then-not-begins_with t c = rw c.new.ensures (no_arguments c.args.text.now c.requires (sym c.begins_with.ensures ∙ c.if-not-begins_with.true))

pub arguments-returns-in_err-all : goal.arguments-returns-in_err-all
arguments-returns-in_err-all t c =
    let l0 = as_arguments c.args.text.now (sym c.begins_with.ensures ∙ c.if-not-begins_with.false) in
    let p = err_from_is_err_and c.from_residual.result c.from_residual.ensures.1 in
    rw (p.1, p.2) (last_unread l0 c.in_err-all.field-0.0 (unread_within no_byte is_digit_or_bracket (ListedArguments SpellsTerm) c.args.text.now (within_none is_digit_or_bracket) c.in_err-all.field-0.0 c.in_err-all.ensures))

pub arguments-returns-in_err-check_end : goal.arguments-returns-in_err-check_end
arguments-returns-in_err-check_end t c =
    let l0 = as_arguments c.args.text.now (sym c.begins_with.ensures ∙ c.if-not-begins_with.false) in
    let p = err_from_is_err_and c.from_residual-in_err-check_end.result c.from_residual-in_err-check_end.ensures.1 in
    rw (p.1, p.2) (l0.fails _ (followed_fails (within_none is_digit_or_bracket) sure-listed.one c.in_ok-all.ensures c.in_err-check_end.ensures.err))

pub arguments-returns : goal.arguments-returns
arguments-returns t c =
    let l0 = as_arguments c.args.text.now (sym c.begins_with.ensures ∙ c.if-not-begins_with.false) in
    l0.reads _ _ (read_on c.in_ok-all.ensures c.in_ok-check_end.ensures.ok)

pub listed-returns-in_err-inner : goal.listed-returns-in_err-inner
listed-returns-in_err-inner t c =
    let l0 = lift-image no_byte (λ (p : Term × List Term). p.0 ∷ p.1) (Front (codes "(") (Cat SpellsTerm (λ first. MoreArguments SpellsTerm))) c.args.text.now in
    let p = err_from_is_err_and c.from_residual.result c.from_residual.ensures.1 in
    rw (p.1, p.2) (front_fails (codes "(") l0 sure-listed_parts c.in_err-inner.ensures.err)

pub listed-returns-in_err-first : goal.listed-returns-in_err-first
listed-returns-in_err-first t c =
    let l0 = lift-image no_byte (λ (p : Term × List Term). p.0 ∷ p.1) (Front (codes "(") (Cat SpellsTerm (λ first. MoreArguments SpellsTerm))) c.args.text.now in
    let l1 = read_front (codes "(") l0 c.in_ok-inner.ensures.ok in
    let p = err_from_is_err_and c.from_residual-in_err-first.result c.from_residual-in_err-first.ensures.1 in
    rw (p.1, p.2) (next_unread l1 (λ first. next-listed) c.in_err-first.field-0.0 c.in_err-first.ensures)

pub listed-loop-behind-init : goal.listed-loop-behind-init
listed-loop-behind-init t c =
    let l0 = lift-image no_byte (λ (p : Term × List Term). p.0 ∷ p.1) (Front (codes "(") (Cat SpellsTerm (λ first. MoreArguments SpellsTerm))) c.args.text.now in
    let l1 = read_front (codes "(") l0 c.in_ok-inner.ensures.ok in
    let l2 = read_next l1 sure-term (λ first. next-listed) c.in_ok-first.ensures in
    let all = c.in_ok-push.ensures.ok in
    let few = front_less 40 c.in_ok-inner.ensures.ok in
    let left = read_less c.in_ok-first.ensures in
    record { lift = rw (all, c.new-all.ensures) l2; within = omega (arith, few, left) }

pub listed-returns-in_err-next : goal.listed-returns-in_err-next
listed-returns-in_err-next t c =
    let p = err_from_is_err_and c.from_residual-in_err-next.result c.from_residual-in_err-next.ensures.1 in
    rw (p.1, p.2) (argument_unread c.loop-behind.all c.loop-behind.invariant.lift c.in-Some.ensures.some c.in_err-next.field-0.0 c.in_err-next.ensures)

pub listed-loop-behind-preserved : goal.listed-loop-behind-preserved
listed-loop-behind-preserved t c =
    let more = argument_read c.loop-behind.all c.loop-behind.invariant.lift c.in-Some.ensures.some c.in_ok-next.ensures in
    let all = c.in_ok-push-2.ensures.ok in
    let few = front_less 44 c.in-Some.ensures.some in
    let left = read_less c.in_ok-next.ensures in
    record { lift = rw all more; within = omega (arith, few, left, c.loop-behind.invariant.within) }

pub listed-returns-in_err-last : goal.listed-returns-in_err-last
listed-returns-in_err-last t c =
    let p = err_from_is_err_and c.from_residual-in_err-last.result c.from_residual-in_err-last.ensures.1 in
    rw (p.1, p.2) (arguments_open c.loop-behind.all c.loop-behind.invariant.lift c.in_default.ensures.none c.in_err-last.ensures.err)

pub listed-returns : goal.listed-returns
listed-returns t c = subst (λ z. ReadsTo no_byte (ListedArguments SpellsTerm) c.args.text.now z c.in_ok-last.last.now) (append-nil c.loop-behind.all) (arguments_end c.loop-behind.all c.loop-behind.invariant.lift c.in_default.ensures.none c.in_ok-last.ensures.ok)
