use Rattle.proof_check.proofs.Verifying.{finds_verified, proved}
use Rattle.proof_check.proofs.laws.verified_exactly.Goals as goal

pub returns : goal.returns
returns c = λ bytes x f.
    ((λ v. proved bytes x v f), (λ i. c.one_finding.ensures bytes x _ f (finds_verified bytes i)))
