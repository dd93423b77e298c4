use Rattle.std.proofs.Common.{◌≡◌, ◌≤◌, ◌-◌, length, take, drop}
use Rattle.aea_disk.specs.Frames.{OnlyReads}
use Rattle.aea_copy_reader.specs.Seen.{IsSeen}
use Rattle.aea_copy_reader.proofs.keeping.keeps.Given as goal

abbrev pub invariant-parts : goal.invariant-parts
invariant-parts g l =
    (l.done ≤ length l.fn.part)
    × (g.D.Disk.reveals → IsSeen ((g.D.Disk.state l.fn.disk).files l.fn.file) l.window)
    × (g.D.Disk.reveals → take l.done (drop l.fn.at ((g.D.Disk.state l.fn.disk).files l.fn.file)) ≡ take l.done l.fn.part)
    × OnlyReads g.D.Disk.reveals ⊥ (g.D.Disk.state l.fn.disk) (g.D.Disk.state l.disk)

abbrev pub decreases-parts : goal.decreases-parts
decreases-parts g l = length l.fn.part - l.done
