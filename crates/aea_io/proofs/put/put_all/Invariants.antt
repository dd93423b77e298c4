use Rattle.std.proofs.Common.{◌≡◌, ℕ, ◌-◌, ◌≤◌, length, take, Some}
use Rattle.std.specs.Io.KnownBytes.{Appends}
use Rattle.aea_io.specs.Written.{StaysFlushed}
use Rattle.aea_io.proofs.put.put_all.Given as goal

abbrev pub invariant-loop-done : goal.invariant-loop-done
invariant-loop-done g l = record {
  within : l.done ≤ length l.bytes;
  appended : Appends (g.O.Sink.state l.fn.sink).written (g.O.Sink.state l.sink).written (take l.done l.bytes);
  flushed : StaysFlushed (g.O.Sink.state l.fn.sink) (g.O.Sink.state l.sink);
  left : (room : ℕ) → (g.O.Sink.state l.fn.sink).room ≡ Some room → (l.done ≤ room) × ((g.O.Sink.state l.sink).room ≡ Some (room - l.done));
  still : (g.O.Sink.state l.sink).faults ≡ (g.O.Sink.state l.fn.sink).faults;
}

abbrev pub decreases-loop-done : goal.decreases-loop-done
decreases-loop-done g l = length l.bytes - l.done
