use Rattle.std.proofs.Common.{◌≡◌, ◌-◌, length, drop}
use Rattle.lin_base.specs.Unknowns.{put_terms_in}
use Rattle.cert_tree.proofs.variables.put_terms.Given as goal

abbrev pub invariant-loop-done : goal.invariant-loop-done
invariant-loop-done l = l.xs.items ≡ put_terms_in (drop (length l.terms - l.done) l.terms) l.initial.xs.items
