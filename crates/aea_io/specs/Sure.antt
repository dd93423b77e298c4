-- What is known of a sink with a given space, and what it takes of a piece.
use Rattle.std.specs.Prelude.{◌≡◌, ℕ, ◌-◌, ◌<◌, min, List, length, Some, vec_len}
use Rattle.aea_io.specs.declared.sure.SureSink.{SureSink}
use Rattle.aea_io.specs.Streams.{SinkState}

-- all is known of it
abbrev pub sure_sink_state : SureSink → SinkState
sure_sink_state s = record { written = Some s.bytes.items; flushed = Some s.flushed; room = Some (s.room - vec_len s.bytes); faults = s.faults }

-- the piece is not empty, and no space is left
abbrev pub IsRefused : SureSink → List ℕ → Type 0
IsRefused sink piece = (0 < length piece) × (vec_len sink.bytes ≡ sink.room)

-- how many bytes of the piece fit into the space that is left
abbrev pub fitting : SureSink → List ℕ → ℕ
fitting sink piece = min (length piece) (sink.room - vec_len sink.bytes)
