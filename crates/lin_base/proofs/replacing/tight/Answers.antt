use Rattle.std.proofs.Common.{◌≡◌, ◌∙◌, ap, IfOk, IsTrue, Result, Ok, Err}
use Rattle.lin_base.specs.Sum.{Valuation}
use Rattle.lin_base.specs.Fact.{holds, is_fact}
use Rattle.lin_base.specs.Change.{tight}
use Rattle.lin_base.proofs.Tightening.{tight_keeps}
use Rattle.lin_base.proofs.WellFormed.{is_fact-tight}
use Rattle.lin_base.proofs.replacing.tight.Goals as goal

if_ok : {A E : Type 0} (P Q : A → Type 0) → ((a : A) → P a → Q a) → (r : Result A E) → IfOk r P → IfOk r Q
if_ok P Q step (Ok a) h = step a h
if_ok P Q step (Err e) h = tt

pub returns-clause-solutions : goal.returns-clause-solutions
returns-clause-solutions c =
    let f = c.args.fact.now in
    if_ok (λ r. r ≡ tight f) (λ r. (v : Valuation) → holds v r ≡ holds v f) (λ r e v. ap (holds v) e ∙ tight_keeps v f) _ c.tighten.ensures.value

pub returns-clause-well_formed : goal.returns-clause-well_formed
returns-clause-well_formed c =
    let f = c.args.fact.now in
    λ h. if_ok (λ r. r ≡ tight f) (λ r. IsTrue (is_fact r)) (λ r e. ap is_fact e ∙ is_fact-tight f h) _ c.tighten.ensures.value
