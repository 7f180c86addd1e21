-- The form of a term to define.
use Rattle.std.specs.Prelude.{Bool, false, ◌&&◌, List}
use Rattle.term_base.specs.declared.symbols.Symbol.{Symbol}
use Rattle.term_base.specs.Trees.{Tree, var, node}
use Rattle.define_rule.specs.Pins.{are_ground}
use Rattle.define_rule.specs.NextTerm.{is_integer_head}

-- a foreground symbol whose result has sort Int, with arguments without variables
abbrev pub is_ground_application : List Symbol → Tree → Bool
is_ground_application signature (var v) = false
is_ground_application signature (node f xs) = is_integer_head signature f && are_ground xs
