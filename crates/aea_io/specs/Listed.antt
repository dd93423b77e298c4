-- A sink that also fails at listed calls, and what is known of it.
use Rattle.std.specs.Prelude.{Some, None}
use Rattle.aea_io.specs.declared.memory.MemSink.{MemSink}
use Rattle.aea_io.specs.Streams.{SinkState}

-- it reveals all but its space, since a listed call fails also where there is space
abbrev pub listed_state : MemSink → SinkState
listed_state s = record { written = Some s.sink.bytes.items; flushed = Some s.sink.flushed; room = None; faults = s.sink.faults }
