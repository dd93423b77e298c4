use Rattle.std.proofs.Common.{◌≡◌, ◌≤◌, ◌-◌, length, take, drop}
use Rattle.aea_disk.specs.Frames.{OnlyReads}
use Rattle.aea_copy_reader.proofs.parts.range_parting.Given as goal

abbrev pub invariant-parts : goal.invariant-parts
invariant-parts g l =
    (l.done ≤ l.fn.count)
    × (length l.first ≡ 2048)
    × (length l.second ≡ 2048)
    × (g.D.Disk.reveals → take l.done (drop l.fn.at ((g.D.Disk.state l.fn.disk).files l.fn.file)) ≡ take l.done (drop l.fn.from ((g.D.Disk.state l.fn.disk).files l.fn.other)))
    × OnlyReads g.D.Disk.reveals ⊥ (g.D.Disk.state l.fn.disk) (g.D.Disk.state l.disk)

abbrev pub decreases-parts : goal.decreases-parts
decreases-parts g l = l.fn.count - l.done
