use Rattle.std.proofs.Common.{◌≤◌, ◌-◌}
use Rattle.aea_disk.specs.Frames.{OnlyReads}
use Rattle.aea_copy_reader.specs.Seen.{AreSeen, GoAlong}
use Rattle.aea_copy_reader.specs.Taking.{HasTaken}
use Rattle.aea_copy_reader.proofs.hashing.hash_range.Given as goal

abbrev pub invariant-parts : goal.invariant-parts
invariant-parts g l =
    (l.done ≤ l.fn.range.count)
    × (g.D.Disk.reveals → AreSeen (g.D.Disk.state l.fn.disk).files l.fn.range.file l.fn.range.other l.own l.twin l.ledger)
    × (g.D.Disk.reveals → HasTaken ((g.D.Disk.state l.fn.disk).files l.fn.range.file) l.fn.range.at l.done l.fn.hasher l.hasher)
    × (g.D.Disk.reveals → GoAlong ((g.D.Disk.state l.fn.disk).files l.fn.range.file) ((g.D.Disk.state l.fn.disk).files l.fn.range.other) ((g.D.Disk.state l.fn.disk).files 0) l.fn.range.at l.fn.range.from l.done l.fn.along l.along)
    × OnlyReads g.D.Disk.reveals ⊥ (g.D.Disk.state l.fn.disk) (g.D.Disk.state l.disk)

abbrev pub decreases-parts : goal.decreases-parts
decreases-parts g l = l.fn.range.count - l.done
