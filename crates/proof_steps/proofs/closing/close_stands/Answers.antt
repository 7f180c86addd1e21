use Rattle.std.proofs.Common.{◌≡◌, sym, ◌∙◌, subst}
use Rattle.std.specs.Prelude.{IfOk, List}
use Rattle.term_base.specs.declared.clauses.Clause.{Clause}
use Rattle.term_base.specs.Lits.{lits}
use Rattle.proof_steps.specs.Closing.{refutes}
use Rattle.proof_steps.proofs.Closings.{close-there}
use Rattle.proof_steps.proofs.closing.close_stands.Goals as goal

pub returns-in-Some : goal.returns-in-Some
returns-in-Some c =
    let S = c.args.signature.now in
    let P : List Clause → Type 0 = λ cs. IfOk c.refutes.result (λ yes. yes ≡ refutes S c.args.cert.now cs) in
    close-there S c.args.before.now c.args.of.now c.args.cert.now (lits c.args.c.now) c.refutes.result c.in-Some.clauses
    (sym c.is_empty_clause.ensures ∙ c.if-not-is_empty_clause.false) (sym c.in_ok-clauses.ensures ∙ c.in-Some.is) (subst P c.as_slice.ensures c.refutes.ensures)
