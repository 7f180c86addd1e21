-- What a caller sees of a source or a sink in memory.
use Rattle.std.specs.Prelude.{ℕ, List, min, length, ◌-◌}

-- a source: the bytes that it will still give, the numbers of the calls that fail,
-- how many calls were made, and how many of them failed
pub record SourceState : Type 0 where
  pub left : List ℕ
  pub failing : List ℕ
  pub calls : ℕ
  pub faults : ℕ

-- a sink: the bytes taken so far, how many it holds at most, how many a call takes at most,
-- the numbers of the calls that fail, how many calls were made, and how many of them failed
pub record SinkState : Type 0 where
  pub held : List ℕ
  pub room : ℕ
  pub chunk : ℕ
  pub failing : List ℕ
  pub calls : ℕ
  pub faults : ℕ

-- how many bytes a sink takes of a piece: what the piece, the chunk and the room left allow
abbrev pub taken_of : SinkState → List ℕ → ℕ
taken_of sink piece = min (length piece) (min sink.chunk (sink.room - length sink.held))
