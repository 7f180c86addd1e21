-- Stamps, and those that a query names.
use Rattle.std.specs.Prelude.{Bool, true, false, ◌&&◌, ◌==◌, List, [], ◌∷◌, ◌++◌}
use Rattle.query_board.specs.declared.queries.Asked.{Asked}
use Rattle.query_board.specs.declared.queries.Asked.TheVariants.{Close, Entail}
use Rattle.query_board.specs.declared.queries.Stamp.{Stamp}

-- whether two stamps are one
abbrev pub same_stamp : Stamp → Stamp → Bool
same_stamp s t = s.clause == t.clause && s.version == t.version

-- the stamps that a query names
abbrev pub named : Asked → List Stamp
named (Close stamps) = stamps
named (Entail stamps target) = stamps ++ target ∷ []

-- whether it is asked for a contradiction
abbrev pub is_close : Asked → Bool
is_close (Close stamps) = true
is_close (Entail stamps target) = false
