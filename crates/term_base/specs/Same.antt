-- Whether two small values are the same.
use Rattle.std.specs.Prelude.{Bool, true, false, ◌&&◌, ◌==◌}
use Rattle.term_base.specs.declared.symbols.Sort.{Sort}
use Rattle.term_base.specs.declared.symbols.Sort.TheVariants.{Individual, Int, Declared, Truth}
use Rattle.term_base.specs.declared.variables.Kind.{Kind}
use Rattle.term_base.specs.declared.variables.Kind.TheVariants.{Abstraction, Ordinary}
use Rattle.term_base.specs.declared.variables.Variable.{Variable}

abbrev pub same_sort : Sort → Sort → Bool
same_sort Individual Individual = true
same_sort Int Int = true
same_sort (Declared m) (Declared n) = m == n
same_sort Truth Truth = true
same_sort _ _ = false

abbrev pub same_kind : Kind → Kind → Bool
same_kind Abstraction Abstraction = true
same_kind Ordinary Ordinary = true
same_kind _ _ = false

abbrev pub same_variable : Variable → Variable → Bool
same_variable v w = same_kind v.kind w.kind && (same_sort v.sort w.sort && v.id == w.id)
