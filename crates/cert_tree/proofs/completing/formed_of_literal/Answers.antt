use Rattle.std.proofs.Common.{◌≡◌, ◌∙◌, subst, sym, IfSome, IsTrue, Option, Err, arith}
use Rattle.std.proofs.lemmas.Grind.{common_steps}
use Rattle.lin_base.proofs.Forming.{Forms-err}
use Rattle.cert_tree.specs.declared.sums.Side.{Side}
use Rattle.cert_tree.specs.Bounds.{is_side}
use Rattle.cert_tree.specs.Complete.{upper, literal_steps, literal_instances}
use Rattle.cert_tree.proofs.Completion.{upper_is, literal_from, literal_none, literal_err}
use Rattle.cert_tree.proofs.completing.formed_of_literal.Goals as goal

pub formed_instances-requires-clause-side : goal.formed_instances-requires-clause-side
formed_instances-requires-clause-side c =
    let x = c.args.x in
    let P : Option Side → Type 0 = λ o. IfSome o (λ e. IsTrue (is_side x e)) in
    subst P (sym c.in_ok-side.ensures.0.1 ∙ c.in-Some.is) (upper_is x c.args.fact.now c.requires.fact)

pub returns-in_err-side : goal.returns-in_err-side
returns-in_err-side c =
    let x = c.args.x in
    let fs = c.args.clause.now in
    let d = c.args.d.now in
    let o = upper x c.args.fact.now in
    let e = c.in_err-side.field-0.0 in
    let is : c.from_residual.result ≡ Err e = grind (arith, common_steps) in
    Forms-err _ e (literal_steps x fs d o) (literal_instances x fs d o) is (literal_err x fs d o e c.in_err-side.ensures.1)

pub returns-in-Some : goal.returns-in-Some
returns-in-Some c =
    literal_from c.args.x c.args.clause.now c.args.d.now (upper c.args.x c.args.fact.now) c.in-Some.side c.formed_instances.result (sym c.in_ok-side.ensures.0.1 ∙ c.in-Some.is) c.in_ok-side.ensures.0.0 c.formed_instances.ensures

pub returns-in-None : goal.returns-in-None
returns-in-None c =
    let none = literal_none c.args.x c.args.clause.now c.args.d.now (upper c.args.x c.args.fact.now) (sym c.in_ok-side.ensures.0.1 ∙ c.in-None.is) in
    grind (arith, common_steps)
