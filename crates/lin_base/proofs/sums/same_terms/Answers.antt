use Rattle.std.proofs.Common.{sym, ◌∙◌}
use Rattle.lin_base.proofs.Equality.{terms_same, same_terms}
use Rattle.lin_base.proofs.sums.same_terms.Goals as goal

pub returns : goal.returns
returns c = (λ h. terms_same c.args.terms.now c.args.others.now (sym c.eq.ensures ∙ h), λ e. c.eq.ensures ∙ same_terms c.args.terms.now c.args.others.now e)
