use Rattle.std.proofs.Common.{◌∙◌, sym}
use Rattle.term_base.proofs.Ascending.{test_is_right, right_passes_test}
use Rattle.term_base.proofs.substs.is_substitution.Goals as goal

pub returns : goal.returns
returns c = ((λ h. test_is_right c.args.pairs.now (sym c.ascends.ensures ∙ h)), (λ s. c.ascends.ensures ∙ right_passes_test c.args.pairs.now s))
