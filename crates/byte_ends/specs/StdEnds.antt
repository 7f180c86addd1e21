-- What the adapters over std have inside: the type of a reader or a writer is a parameter, so a caller sees the two parts by name and not one value.
use Rattle.std.specs.Prelude.{ℕ}
use Rattle.byte_ends.specs.declared.std_adapters.StdSource.{StdSource}
use Rattle.byte_ends.specs.declared.std_adapters.StdSink.{StdSink}

-- the reader of a source
abbrev pub source_reader : {R : Type 0} → StdSource R → R
source_reader source = source.reader

-- how often a source has failed
abbrev pub source_faults : {R : Type 0} → StdSource R → ℕ
source_faults source = source.faults

-- the writer of a sink
abbrev pub sink_writer : {W : Type 0} → StdSink W → W
sink_writer sink = sink.writer

-- how often a sink has failed
abbrev pub sink_faults : {W : Type 0} → StdSink W → ℕ
sink_faults sink = sink.faults
