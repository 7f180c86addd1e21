use Rattle.std.proofs.Common.{◌≡◌, length, IsTrue}
use Rattle.std.specs.List.{flat_map}
use Rattle.lin_base.specs.Fact.{HoldsAt}
use Rattle.lin_base.specs.Steps.{is_narrow}
use Rattle.cert_tree.specs.Holds.{checks, check_steps}
use Rattle.cert_tree.specs.Laws.{valuation}
use Rattle.cert_tree.proofs.ValueChecks.{told, shown}
use Rattle.cert_tree.proofs.HoldsSound.{holds_true, true_holds}
use Rattle.cert_tree.proofs.Narrow.{each_narrow}
use Rattle.cert_tree.proofs.WellFormed.{pool_proper}
use Rattle.cert_tree.proofs.holding.check_sat.Goals as goal

pub returns-clause-true_there : goal.returns-clause-true_there
returns-clause-true_there c =
    let pool = c.args.pool.now in
    let values = c.args.values.now in
    told c.checks.result (checks pool values) (HoldsAt pool (valuation values)) c.checks.ensures (λ yes_. holds_true pool values (pool_proper pool c.requires) yes_)

pub returns-clause-found : goal.returns-clause-found
returns-clause-found c =
    let pool = c.args.pool.now in
    let values = c.args.values.now in
    shown c.checks.result (checks pool values) (length values ≡ pool.params) (IsTrue (is_narrow (flat_map (check_steps pool.params values) pool.clauses))) (HoldsAt pool (valuation values)) c.checks.ensures
    (λ count narrow true_. true_holds pool values (pool_proper pool c.requires) count (each_narrow (check_steps pool.params values) pool.clauses narrow) true_)
