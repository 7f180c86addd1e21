use Rattle.std.proofs.Common.{sym, ◌∙◌}
use Rattle.std.proofs.lemmas.Result.{IfOk-weaker}
use Rattle.cert_tree.proofs.standing.check_unsat.Goals as goal

pub returns-clause-impossible : goal.returns-clause-impossible
returns-clause-impossible c =
    IfOk-weaker c.cert_stands.result _ _ (λ yes is_that is_true. c.standing_is_impossible.ensures c.args.pool.now c.args.cert.now c.requires (sym is_that ∙ is_true)) c.cert_stands.ensures
