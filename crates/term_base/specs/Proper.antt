-- The sorts that a variable may have: an abstraction variable has sort Int, and no variable has sort Truth.
use Rattle.std.specs.Prelude.{Bool, true, false, IsTrue}
use Rattle.term_base.specs.declared.symbols.Sort.{Sort}
use Rattle.term_base.specs.declared.symbols.Sort.TheVariants.{Int, Truth}
use Rattle.term_base.specs.declared.variables.Kind.{Kind}
use Rattle.term_base.specs.declared.variables.Kind.TheVariants.{Abstraction, Ordinary}

abbrev pub is_proper : Kind → Sort → Bool
is_proper Abstraction Int = true
is_proper Abstraction _ = false
is_proper Ordinary Truth = false
is_proper Ordinary _ = true

abbrev pub IsProper : Kind → Sort → Type 0
IsProper k s = IsTrue (is_proper k s)
