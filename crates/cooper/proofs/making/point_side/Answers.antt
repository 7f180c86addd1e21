use Rattle.std.proofs.Common.{subst, sym, IsTrue}
use Rattle.cert_tree.specs.declared.sums.Side.{Side}
use Rattle.cert_tree.specs.Bounds.{is_side}
use Rattle.cooper.proofs.Places.{is_side-moved}
use Rattle.cooper.proofs.making.point_side.Goals as goal

pub returns-clause-well_formed : goal.returns-clause-well_formed
returns-clause-well_formed c =
    let P : Side → Type 0 = λ e. IsTrue (is_side c.args.p e) in
    subst P (sym c.in_ok-moved.ensures.formed.0.1) (is_side-moved c.args.p c.args.side.now c.args.j c.requires)
