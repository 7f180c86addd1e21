use Rattle.std.proofs.Common.{◌≡◌, map, take}
use Rattle.normal_form.specs.Cnf.{instance}
use Rattle.normal_form.proofs.binders.Binders.+instance.Given as goal

abbrev pub invariant-loop-arg : goal.invariant-loop-arg
invariant-loop-arg l = l.instances ≡ map (instance l.self) (take l.arg-index l.arg-items)
