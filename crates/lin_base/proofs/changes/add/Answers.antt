use Rattle.std.proofs.Common.{◌∙◌, sym, subst, arith, IsTrue}
use Rattle.std.proofs.lemmas.Bool.{true≢false}
use Rattle.lin_base.specs.declared.sums.Lin.{Lin}
use Rattle.lin_base.specs.Sum.{add}
use Rattle.lin_base.specs.Steps.{add_steps}
use Rattle.lin_base.specs.Fact.{is_lin}
use Rattle.lin_base.proofs.Forming.{formed_by-ok}
use Rattle.lin_base.proofs.Lookup.{no_terms}
use Rattle.lin_base.proofs.WellFormed.{is_lin-add}
use Rattle.lin_base.proofs.changes.add.Goals as goal

pub returns-in_err-room-clause-memory : goal.returns-in_err-room-clause-memory
returns-in_err-room-clause-memory c = λ h g.
    let ts = no_terms c.args.a.now h in
    let us = no_terms c.args.b.now g in
    absurd (true≢false (sym (c.in_err-room.ensures.succeeds (grind arith))))

pub returns-clause-well_formed : goal.returns-clause-well_formed
returns-clause-well_formed c =
    let a = c.args.a.now in
    let b = c.args.b.now in
    let P : Lin → Type 0 = λ r. IsTrue (is_lin r) in
    let is = (formed_by-ok (add_steps a b) (add a b) _ (sym c.sum_in.ensures ∙ c.in_ok-sum_in.was)).1 in
    subst P (sym is) (is_lin-add a b c.requires.left c.requires.right)
