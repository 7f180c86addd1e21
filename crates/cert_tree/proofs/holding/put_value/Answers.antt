use Rattle.std.proofs.Common.{◌≡◌, ◌∙◌, ap, sym, false}
use Rattle.cert_tree.specs.Counting.{occurs_in}
use Rattle.cert_tree.proofs.ValueChecks.{absent_put}
use Rattle.cert_tree.proofs.holding.put_value.Goals as goal

pub returns-then-not-occurs_in-clause-value : goal.returns-then-not-occurs_in-clause-value
returns-then-not-occurs_in-clause-value c =
    let none : occurs_in c.args.p c.args.clause ≡ false = ap (occurs_in c.args.p) (sym c.as_slice.ensures) ∙ sym c.occurs_in.ensures ∙ c.if-not-occurs_in.true in
    absent_put c.args.p c.args.z.now c.args.clause none
