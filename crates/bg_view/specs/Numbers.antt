-- The numbering that unknowns in memory stand for.
use Rattle.std.specs.Prelude.{◌+◌, ◌≤◌, ◌<◌, ◌^◌, length}
use Rattle.std.specs.List.Sorted.{IsStrictlyIncreasing}
use Rattle.bg_view.specs.declared.unknowns.Unknowns.{Unknowns}
use Rattle.bg_view.specs.Unknowns.{Numbering, numbering}

-- the numbering by these symbols and variables
abbrev pub numbering_of : Unknowns → Numbering
numbering_of u = numbering u.symbols.now u.first u.variables.keys

-- the symbols ascend, the variables come after them, and each number is a u32
pub record IsNumbering (u : Unknowns) : Type 0 where
  pub ascending : IsStrictlyIncreasing u.symbols.now
  pub after : length u.symbols.now ≤ u.first
  pub fits : u.first + length u.variables.keys < 2 ^ 32
