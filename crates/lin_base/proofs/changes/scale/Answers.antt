use Rattle.std.proofs.Common.{◌∙◌, sym, subst, arith, IsTrue, ℤ, to_z, of_z}
use Rattle.std.specs.Int.{w128}
use Rattle.std.proofs.lemmas.Bool.{true≢false}
use Rattle.lin_base.specs.declared.sums.Lin.{Lin}
use Rattle.lin_base.specs.Sum.{scale}
use Rattle.lin_base.specs.Steps.{scale_steps}
use Rattle.lin_base.specs.Fact.{is_lin}
use Rattle.lin_base.proofs.Forming.{formed_by-ok}
use Rattle.lin_base.proofs.Lookup.{no_terms}
use Rattle.lin_base.proofs.WellFormed.{is_lin-scale}
use Rattle.lin_base.proofs.changes.scale.Goals as goal

pub returns-in_err-room-clause-memory : goal.returns-in_err-room-clause-memory
returns-in_err-room-clause-memory c = λ h.
    let ts = no_terms c.args.a.now h in
    absurd (true≢false (sym (c.in_err-room.ensures.succeeds (grind arith))))

pub returns-clause-well_formed : goal.returns-clause-well_formed
returns-clause-well_formed c = λ h.
    let a = c.args.a.now in
    let k : ℤ = to_z w128 (of_z w128 c.args.k) in
    let P : Lin → Type 0 = λ r. IsTrue (is_lin r) in
    let is = (formed_by-ok (scale_steps k a) (scale k a) _ (sym c.multiple_in.ensures ∙ c.in_ok-multiple_in.was)).1 in
    subst P (sym is) (is_lin-scale k a h)
