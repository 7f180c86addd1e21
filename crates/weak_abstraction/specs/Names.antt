-- What the names of an abstraction put for its targets.
use Rattle.std.specs.Prelude.{List}
use Rattle.term_base.specs.declared.symbols.Symbol.{Symbol}
use Rattle.term_base.specs.Trees.{Tree}
use Rattle.weak_abstraction.specs.declared.naming.Names.{Names}
use Rattle.weak_abstraction.specs.Abstracted.{named}
use Rattle.weak_abstraction.specs.Keys.{terms}

-- the variable of a target, by its place among those found
abbrev pub name_in : List Symbol → Names → Tree → Tree
name_in signature names = named signature names.first (terms names.found.keys)
