-- What a walk of the code gave.
use Rattle.term_base.specs.Trees.{tree}
use Rattle.define_rule.specs.declared.scanning.Scan.{Scan}
use Rattle.define_rule.specs.declared.scanning.Scan.TheVariants.{Found, AllPinned, NotPinned}
use Rattle.define_rule.specs.Scan as spec

abbrev pub seen : Scan → spec.Scan
seen (Found t) = spec.found (tree t.now)
seen AllPinned = spec.all_pinned
seen NotPinned = spec.not_pinned
