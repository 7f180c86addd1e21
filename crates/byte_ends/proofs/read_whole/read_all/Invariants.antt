use Rattle.std.proofs.Common.{◌≡◌, ◌+◌, ◌<◌, ◌≤◌, length}
use Rattle.std.specs.Io.KnownBytes.{Consumes}
use Rattle.byte_ends.proofs.read_whole.read_all.Given as goal

-- the bytes so far are a prefix of what was told, and the rest is left
abbrev pub invariant-pieces : goal.invariant-pieces
invariant-pieces g l = record {
  read : Consumes (g.S.Source.left l.fn.source) (g.S.Source.left l.source) l.all.items;
  count : length l.all.items + l.room ≡ l.limit;
  never_falls : g.S.Source.faults l.fn.source ≤ g.S.Source.faults l.source;
  buffer : 0 < length l.buffer.items;
}

abbrev pub decreases-pieces : goal.decreases-pieces
decreases-pieces g l = l.room
