use Rattle.std.proofs.Common.{◌≡◌, ◌∙◌, List, map, sym, ap, refl, Err, arith, rules}
use Rattle.tff_grammar.specs.declared.trees.Term.{Term}
use Rattle.tff_grammar.specs.declared.trees.Term.TheVariants as written
use Rattle.tff_reader.specs.declared.stops.Stop.TheVariants as stops
use Rattle.tff_reader.specs.Typing.{own_fault, term_faults}
use Rattle.tff_reader.specs.Meaning.{term_meaning, variable_term}
use Rattle.tff_signature.specs.Faults.{checked}
use Rattle.tff_reader.specs.Arguments.{head_faults}
use Rattle.tff_reader.specs.NumberTerms.{head_number}
use Rattle.tff_reader.specs.Scopes.{bound_by}
use Rattle.tff_reader.proofs.StopLemmas.{checked_stops, checked_none}
use Rattle.tff_reader.proofs.TermLemmas.{head_stops, head_goes_on, variable_stops, variable_reads, numeral_stops, numeral_reads, apply_stops, apply_reads}
use Rattle.tff_reader.proofs.WayLemmas.{args_begin, args_step_stop, args_step_next, args_all}
use Rattle.tff_reader.proofs.terms.Context.+term.Goals as goal

pub arguments-returns-in_err-sorts : goal.arguments-returns-in_err-sorts
arguments-returns-in_err-sorts t c = λ sc b.
    let self = c.args.self.now in
    let f = c.in_err-sorts.field-0.0 in
    let r : c.from_residual.result ≡ Err (stops.Fault f) = search rules in
    rw r (head_stops self.text.now self.signature.now.symbols sc c.args.wanted c.args.head c.args.args.now _ _ c.head_place.ensures c.head_type.ensures f c.in_err-sorts.ensures.err)

pub arguments-loop-arg-init : goal.arguments-loop-arg-init
arguments-loop-arg-init t c = λ sc b.
    let self = c.args.self.now in
    args_begin c.new-numbers.result c.new-terms.result _ c.in_ok-sorts.sorts.now _ _ c.new-numbers.ensures c.new-terms.ensures
    (head_goes_on self.text.now self.signature.now.symbols sc c.args.wanted c.args.head c.args.args.now _ _ c.head_place.ensures c.head_type.ensures c.in_ok-sorts.sorts.now
    c.in_ok-sorts.ensures.ok.0 c.in_ok-sorts.ensures.ok.1)

pub arguments-returns-in_err-meaning : goal.arguments-returns-in_err-meaning
arguments-returns-in_err-meaning t c = λ sc b.
    let self = c.args.self.now in
    let us : List Term = c.args.args.now in
    let e = c.in_err-meaning.field-0.0 in
    let r : c.from_residual-in_err-meaning.result ≡ Err e = search rules in
    rw r (args_step_stop (term_meaning self.text.now self.signature.now.symbols sc) (term_faults self.text.now self.signature.now.symbols sc) us c.loop-arg.arg-index _ c.loop-arg.rest.now _
    c.loop-arg.numbers c.loop-arg.terms c.arg-item.result c.asked-asks.result.0 (c.loop-arg.invariant sc b) (omega arith) c.arg-item.is c.asked-asks.ensures.wanted e (c.in_err-meaning.ensures sc b))

pub arguments-loop-arg-preserved : goal.arguments-loop-arg-preserved
arguments-loop-arg-preserved t c = λ sc b.
    let self = c.args.self.now in
    let us : List Term = c.args.args.now in
    let m = c.in_ok-meaning.ensures sc b in
    args_step_next (term_meaning self.text.now self.signature.now.symbols sc) (term_faults self.text.now self.signature.now.symbols sc) us c.loop-arg.arg-index _ c.loop-arg.rest.now _
    c.loop-arg.numbers c.loop-arg.terms c.arg-item.result c.asked-asks.result.0 (c.loop-arg.invariant sc b) (omega arith) c.arg-item.is c.asked-asks.ensures.wanted
    c.in_ok-meaning.meaning c.push.new.self c.push-in-loop-arg.new.self c.asked-asks.result.1.now m.0 m.1 c.in_ok-push.ensures.ok c.in_ok-push-2.ensures.ok c.asked-asks.ensures.others

pub arguments-returns : goal.arguments-returns
arguments-returns t c = λ sc b.
    let self = c.args.self.now in
    let us : List Term = c.args.args.now in
    args_all (term_meaning self.text.now self.signature.now.symbols sc) (term_faults self.text.now self.signature.now.symbols sc) us c.loop-arg.arg-index _ c.loop-arg.rest.now _
    (record { numbers = c.loop-arg.numbers; terms = c.loop-arg.terms }) (c.loop-arg.invariant sc b) (omega arith)

pub meaning-returns-in_err-check_own-in-Variable : goal.meaning-returns-in_err-check_own-in-Variable
meaning-returns-in_err-check_own-in-Variable t c = λ sc b.
    let self = c.args.self.now in
    let s = c.in-Variable.span in
    let f = c.in_err-check_own-in-Variable.field-0.0 in
    let r : c.from_residual.result ≡ Err (stops.Fault f) = search rules in
    let own = sym (c.in_err-check_own-in-Variable.ensures ∙ ap (λ q. checked (own_fault c.args.wanted s.start q)) (c.bound_sort.ensures sc b)) in
    rw (r, c.in-Variable.is) (variable_stops self.text.now self.signature.now.symbols sc s c.args.wanted (stops.Fault f) (checked_stops _ f own))

pub meaning-returns-in_ok-check_own-in-Variable : goal.meaning-returns-in_ok-check_own-in-Variable
meaning-returns-in_ok-check_own-in-Variable t c = λ sc b.
    let self = c.args.self.now in
    let s = c.in-Variable.span in
    let own = sym (c.in_ok-check_own-in-Variable.ensures ∙ ap (λ q. checked (own_fault c.args.wanted s.start q)) (c.bound_sort.ensures sc b)) in
    let is = c.variable_term-term.ensures ∙ ap variable_term (c.variable.ensures sc b ∙ ap (bound_by sc) c.bytes.ensures) in
    rw c.in-Variable.is (variable_reads self.text.now self.signature.now.symbols sc s c.args.wanted _ (checked_none _ _ own) refl is)

pub meaning-returns-in_err-check_own-in-Numeral : goal.meaning-returns-in_err-check_own-in-Numeral
meaning-returns-in_err-check_own-in-Numeral t c = λ sc b.
    let self = c.args.self.now in
    let f = c.in_err-check_own-in-Numeral.field-0.0 in
    let r : c.from_residual-in_err-check_own-in-Numeral.result ≡ Err (stops.Fault f) = search rules in
    rw (r, c.in-Numeral.is)
    (numeral_stops self.text.now self.signature.now.symbols sc c.in-Numeral.number c.args.wanted (stops.Fault f) (checked_stops _ f (sym c.in_err-check_own-in-Numeral.ensures)))

pub meaning-returns-in_ok-check_own-in-Numeral : goal.meaning-returns-in_ok-check_own-in-Numeral
meaning-returns-in_ok-check_own-in-Numeral t c = λ sc b.
    let self = c.args.self.now in
    rw c.in-Numeral.is
    (numeral_reads self.text.now self.signature.now.symbols sc c.in-Numeral.number c.args.wanted _ (checked_none _ _ (sym c.in_ok-check_own-in-Numeral.ensures))
    c.numeral_meaning.ensures.number c.numeral_meaning.ensures.term)

pub meaning-returns-in_err-arguments-in-Apply : goal.meaning-returns-in_err-arguments-in-Apply
meaning-returns-in_err-arguments-in-Apply t c = λ sc b.
    let self = c.args.self.now in
    let e = c.in_err-arguments-in-Apply.field-0.0 in
    let r : c.from_residual-in_err-arguments-in-Apply.result ≡ Err e = search rules in
    rw (r, c.in-Apply.is, ← c.as_slice.ensures)
    (apply_stops self.text.now self.signature.now.symbols sc c.in-Apply.head c.as_slice.result.now c.args.wanted e (c.in_err-arguments-in-Apply.ensures sc b))

pub meaning-returns-in_ok-term-in-Apply : goal.meaning-returns-in_ok-term-in-Apply
meaning-returns-in_ok-term-in-Apply t c = λ sc b.
    let self = c.args.self.now in
    let number = c.head_number-number.ensures ∙ ap (head_number c.in-Apply.head) c.as_slice-in-Apply.ensures in
    rw (c.in-Apply.is, ← c.as_slice.ensures)
    (apply_reads self.text.now self.signature.now.symbols sc c.in-Apply.head c.as_slice.result.now c.args.wanted c.in_ok-arguments-in-Apply.arguments _ (c.in_ok-arguments-in-Apply.ensures sc b) number
    c.in_ok-term-in-Apply.ensures)
