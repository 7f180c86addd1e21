use Rattle.std.proofs.Common.{◌≡◌, arith, ap, ◌∙◌, ◌&&◌}
use Rattle.lin_base.specs.Sum.{without, is_reduced}
use Rattle.lin_base.specs.Fact.{is_ascending}
use Rattle.std.proofs.lemmas.Grind.{common_steps}
use Rattle.lin_base.proofs.WellFormed.{is_lin-without}
use Rattle.lin_base.proofs.sums.without.Goals as goal

pub returns-clause-well_formed : goal.returns-clause-well_formed
returns-clause-well_formed c =
    let e : c.from_vec.result ≡ (without c.args.x c.args.t.now).coefs = grind (arith, common_steps) in
    λ h. ap (λ ts. is_ascending ts && is_reduced ts) e ∙ is_lin-without c.args.x c.args.t.now h
