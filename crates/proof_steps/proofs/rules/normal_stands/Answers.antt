use Rattle.std.proofs.Common.{◌≡◌, sym, ◌∙◌, ap, subst, Bool, IfOk}
use Rattle.std.specs.Option.{option_copied}
use Rattle.term_base.specs.Lits.{lits}
use Rattle.linear_form.specs.Normal.{is_normal}
use Rattle.proof_steps.proofs.EarlierSteps.{one-there}
use Rattle.proof_steps.proofs.rules.normal_stands.Goals as goal

pub returns-in-Some : goal.returns-in-Some
returns-in-Some c =
    let P : Bool → Type 0 = λ b. IfOk c.is_normal.result (λ yes. yes ≡ b) in
    subst P
    (one-there c.args.before.now c.args.of (λ a. is_normal c.args.signature.now (lits a) (lits c.args.k.now)) c.in-Some.c.now (sym c.premise.ensures ∙ ap option_copied c.in-Some.is))
    c.is_normal.ensures
