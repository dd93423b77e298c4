use Rattle.std.proofs.Common.{◌≡◌, ◌+◌, ◌-◌, ◌≤◌, length}
use Rattle.std.specs.Io.KnownBytes.{Consumes}
use Rattle.aea_io.proofs.whole.read_whole.Given as goal

abbrev pub invariant-loop-buf : goal.invariant-loop-buf
invariant-loop-buf g l = record {
  most : length l.whole.items ≤ l.limit + 1;
  taken : Consumes (g.S.Source.state l.fn.input).left (g.S.Source.state l.input).left l.whole.items;
  kept : (g.S.Source.state l.fn.input).faults ≤ (g.S.Source.state l.input).faults;
  still : (g.S.Source.state l.input).faults ≡ (g.S.Source.state l.fn.input).faults;
}

abbrev pub decreases-loop-buf : goal.decreases-loop-buf
decreases-loop-buf g l = l.limit + 1 - length l.whole.items
