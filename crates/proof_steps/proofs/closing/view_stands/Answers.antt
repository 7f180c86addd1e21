use Rattle.proof_steps.proofs.Closings.{view-stands}
use Rattle.proof_steps.proofs.closing.view_stands.Goals as goal

pub returns-in-Ok : goal.returns-in-Ok
returns-in-Ok c =
    view-stands c.args.clauses.now c.args.cert.now c.check_unsat.result c.in-Ok.viewed c.in-Ok.ensures.pool.0.0 c.in-Ok.ensures.pool.0.1 c.check_unsat.ensures.exact
