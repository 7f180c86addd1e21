use Rattle.std.proofs.Common.{◌≡◌, drop}
use Rattle.std.specs.List.{list_all}
use Rattle.lin_base.specs.Sum.{each_unknown}
use Rattle.cert_tree.specs.Rows.{may_stand_for}
use Rattle.cert_tree.proofs.rows.is_over_others.Given as goal

abbrev pub invariant-loop-term : goal.invariant-loop-term
invariant-loop-term l = each_unknown (may_stand_for l.params l.x l.clause) l.t ≡ list_all (λ e. may_stand_for l.params l.x l.clause e.0) (drop l.term-index l.term-items)
