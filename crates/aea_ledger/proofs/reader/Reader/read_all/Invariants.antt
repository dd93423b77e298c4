use Rattle.std.proofs.Common.{◌-◌, ◌^◌}
use Rattle.aea_disk.specs.Frames.{OnlyReads}
use Rattle.aea_ledger.specs.Readings.{IsReading}
use Rattle.aea_ledger.proofs.reader.Reader.read_all.Given as goal

abbrev pub invariant-gates : goal.invariant-gates
invariant-gates g l =
    IsReading g.D.Disk.reveals ((g.D.Disk.state l.fn.disk).files 0) l.self
    × OnlyReads g.D.Disk.reveals ⊥ (g.D.Disk.state l.fn.disk) (g.D.Disk.state l.disk)

abbrev pub decreases-gates : goal.decreases-gates
decreases-gates g l = 2 ^ 46 - l.self.input.cursor.place
