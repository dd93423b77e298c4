use Rattle.std.proofs.Common.{◌≡◌, ◌⊎◌, ◌+◌, ◌-◌, ◌≤◌, ◌++◌, [], length}
use Rattle.aea_report.specs.Faults.{greatest_line}
use Rattle.aea_reader.specs.Words.{IsFree}
use Rattle.aea_reader.specs.Pieces.{Gathers}
use Rattle.aea_reader.proofs.lines.read_line.Given as goal

abbrev pub invariant-pieces : goal.invariant-pieces
invariant-pieces g l = record {
  gathers : Gathers l.fn.ahead (g.S.Source.state l.fn.source).left (g.S.Source.state l.source).left (l.line.items ++ l.ahead);
  plain : IsFree 10 l.line.items;
  room : (l.line.items ≡ []) ⊎ (length l.line.items + length l.ahead ≤ greatest_line + 1);
  kept : (g.S.Source.state l.fn.source).faults ≤ (g.S.Source.state l.source).faults;
  still : (g.S.Source.state l.source).faults ≡ (g.S.Source.state l.fn.source).faults;
}

abbrev pub decreases-pieces : goal.decreases-pieces
decreases-pieces g l = greatest_line + 1 - (length l.line.items + length l.ahead)
