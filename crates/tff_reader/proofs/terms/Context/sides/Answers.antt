use Rattle.std.proofs.Common.{◌≡◌, ◌∙◌, ap, Err, rules}
use Rattle.tff_reader.specs.Typing.{right_side}
use Rattle.tff_reader.proofs.TermLemmas.{sides_stop_first, sides_stop_second, sides_read}
use Rattle.tff_reader.proofs.terms.Context.sides.Goals as goal

pub returns-in_err-first : goal.returns-in_err-first
returns-in_err-first c = λ sc b.
    let self = c.args.self.now in
    let e = c.in_err-first.field-0.0 in
    let r : c.from_residual.result ≡ Err e = search rules in
    rw r (sides_stop_first self.text.now self.signature.now.symbols sc c.args.left.now c.args.right.now e (c.in_err-first.ensures sc b))

pub returns-in_err-second : goal.returns-in_err-second
returns-in_err-second c = λ sc b.
    let self = c.args.self.now in
    let e = c.in_err-second.field-0.0 in
    let r : c.from_residual-in_err-second.result ≡ Err e = search rules in
    rw r (sides_stop_second self.text.now self.signature.now.symbols sc c.args.left.now c.args.right.now c.right_side.result e (c.in_ok-first.ensures sc b).0
    (c.right_side.ensures ∙ ap right_side (c.term_sort.ensures sc b)) (c.in_err-second.ensures sc b))

pub returns : goal.returns
returns c = λ sc b.
    let self = c.args.self.now in
    let first = c.in_ok-first.ensures sc b in
    let second = c.in_ok-second.ensures sc b in
    (sides_read self.text.now self.signature.now.symbols sc c.args.left.now c.args.right.now c.right_side.result first.0 (c.right_side.ensures ∙ ap right_side (c.term_sort.ensures sc b)) second.0, (first.1, second.1))
