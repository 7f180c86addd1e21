use Rattle.std.proofs.Common.{◌≡◌, map, take}
use Rattle.normal_form.proofs.scopes.Scope.universal_sorts.Given as goal

abbrev pub invariant-loop-u : goal.invariant-loop-u
invariant-loop-u l = l.sorts.items ≡ map (λ u. u.sort) (take l.u-index l.u-items)
