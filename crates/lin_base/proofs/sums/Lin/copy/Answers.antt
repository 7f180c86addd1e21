use Rattle.std.proofs.Common.{◌∙◌, sym}
use Rattle.std.proofs.lemmas.Bool.{true≢false}
use Rattle.lin_base.proofs.Lookup.{no_terms}
use Rattle.lin_base.proofs.sums.Lin.copy.Goals as goal

pub returns-in_err-copy_terms-clause-memory : goal.returns-in_err-copy_terms-clause-memory
returns-in_err-copy_terms-clause-memory c = λ h. absurd (true≢false (sym (c.in_err-copy_terms.ensures.memory (c.as_slice.ensures ∙ no_terms c.args.self.now h))))
