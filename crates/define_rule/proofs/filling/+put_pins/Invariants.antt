use Rattle.std.proofs.Common.{◌≡◌, map, take}
use Rattle.term_base.specs.Trees.{tree}
use Rattle.term_base.specs.Lits.{lit}
use Rattle.term_base.specs.Substitution.{put_in}
use Rattle.define_rule.specs.Pins.{pin}
use Rattle.define_rule.proofs.filling.+put_pins.Given as goal

abbrev pub invariant-loop-arg : goal.invariant-loop-arg
invariant-loop-arg l = map tree l.all ≡ map (λ t. put_in (pin l.signature (map lit l.literals)) (tree t)) (take l.arg-index l.arg-items)
