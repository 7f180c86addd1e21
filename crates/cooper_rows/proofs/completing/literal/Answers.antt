use Rattle.std.proofs.Common.{◌≡◌, ◌∙◌, sym, subst, IfSome, IsTrue, Option, List, Err, arith, length}
use Rattle.std.proofs.lemmas.Grind.{common_steps}
use Rattle.lin_base.specs.Numbers.{results}
use Rattle.cert_tree.specs.declared.certs.Row.{Row}
use Rattle.cert_tree.specs.declared.sums.Side.{Side}
use Rattle.cert_tree.specs.Bounds.{is_side}
use Rattle.cert_tree.specs.Complete.{upper, upper_steps, literal_steps}
use Rattle.cert_tree.proofs.Completion.{upper_is, literal_err}
use Rattle.cooper_rows.specs.declared.completing.Completed.{Completed}
use Rattle.cooper_rows.specs.Counted.{of_arithmetic}
use Rattle.cooper_rows.specs.Rows.{completed, literal_rows}
use Rattle.cooper_rows.proofs.Budgets.{after_forms, cause_forms, counted_err}
use Rattle.cooper_rows.proofs.CompleteRows.{literal_counted, literal_free}
use Rattle.cooper_rows.proofs.completing.literal.Goals as goal

pub instances-requires-clause-side : goal.instances-requires-clause-side
instances-requires-clause-side c =
    let x = c.args.x in
    let P : Option Side → Type 0 = λ o. IfSome o (λ e. IsTrue (is_side x e)) in
    subst P (sym c.in_ok-side.ensures.0.1 ∙ c.in-Some.is) (upper_is x c.args.fact.now c.requires.fact)

pub returns-in_err-side : goal.returns-in_err-side
returns-in_err-side c =
    let x = c.args.x in
    let fs = c.args.clause.now in
    let d = c.args.d.now in
    let o = upper x c.args.fact.now in
    let e = c.in_err-side.field-0.0 in
    let m0 = c.args.room.now in
    let k = length (literal_rows c.args.number x d o) in
    let is : c.from_residual.result ≡ Err (of_arithmetic e) = grind (arith, common_steps) in
    counted_err _ (of_arithmetic e) m0 m0 k (results (literal_steps x fs d o)) _ is (cause_forms e m0 k (literal_steps x fs d o) (literal_err x fs d o e c.in_err-side.ensures.1))

pub returns-in-Some : goal.returns-in-Some
returns-in-Some c =
    let x = c.args.x in
    let fs = c.args.clause.now in
    let o = upper x c.args.fact.now in
    let m0 = c.args.room.now in
    let P : List Row → Completed → Type 0 = λ rows v. v ≡ completed fs rows in
    literal_counted c.args.number x fs c.args.d.now o c.in-Some.side c.instances.result m0 m0 c.instances.new.room P (sym c.in_ok-side.ensures.0.1 ∙ c.in-Some.is) (after_forms m0 (upper_steps o) c.in_ok-side.ensures.0.0) c.instances.ensures

pub returns-in-None : goal.returns-in-None
returns-in-None c =
    let x = c.args.x in
    let fs = c.args.clause.now in
    (literal_free c.args.number x fs c.args.d.now (upper x c.args.fact.now) c.args.room.now c.none.result (sym c.in_ok-side.ensures.0.1 ∙ c.in-None.is) c.none.ensures.rows c.none.ensures.clauses, tt)
