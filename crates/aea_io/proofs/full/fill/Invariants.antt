use Rattle.std.proofs.Common.{◌≡◌, ◌+◌, ◌-◌, ◌≤◌, length, take}
use Rattle.std.specs.Io.KnownBytes.{Consumes}
use Rattle.aea_io.proofs.full.fill.Given as goal

abbrev pub invariant-loop-done : goal.invariant-loop-done
invariant-loop-done g l = record {
  within : l.done ≤ length l.buf;
  long : length l.buf ≡ length l.fn.buf;
  taken : Consumes (g.S.Source.state l.fn.source).left (g.S.Source.state l.source).left (take l.done l.buf);
  still : (g.S.Source.state l.source).faults ≡ (g.S.Source.state l.fn.source).faults;
  counted : l.at ≡ l.fn.at + l.done;
}

abbrev pub decreases-loop-done : goal.decreases-loop-done
decreases-loop-done g l = length l.buf - l.done
