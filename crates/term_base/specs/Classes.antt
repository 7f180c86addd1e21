-- The class of a symbol: a parameter is a constant of sort Int, any other symbol is a foreground symbol.
use Rattle.std.specs.Prelude.{List, []}
use Rattle.term_base.specs.declared.symbols.Sort.{Sort}
use Rattle.term_base.specs.declared.symbols.Sort.TheVariants.{Int}
use Rattle.term_base.specs.declared.symbols.Class.{Class}
use Rattle.term_base.specs.declared.symbols.Class.TheVariants.{Parameter, Foreground}

abbrev pub class_of : List Sort → Sort → Class
class_of [] Int = Parameter
class_of _ _ = Foreground
