use Rattle.std.proofs.Common.{◌≡◌, ◌≤◌, ◌-◌, ◌+◌, ◌^◌, ℕ}
use Rattle.aea_disk.specs.Ends.{copied_end}
use Rattle.aea_disk.specs.Frames.{OnlyReads}
use Rattle.aea_mirror.proofs.Walking.{Walked}
use Rattle.aea_mirror.proofs.further.look_further.Given as goal

abbrev pub invariant-records : goal.invariant-records
invariant-records g l =
    (l.copy ≤ 2 ^ 58)
    × (l.at ≤ 2 ^ 58)
    × (l.fn.end ≤ l.at)
    × (g.D.Disk.reveals → (before : ℕ) → l.fn.gate ≡ copied_end (before + 1) l.fn.end → Walked ((g.D.Disk.state l.fn.disk).files 0) before l.fn.end l.at l.copy)
    × OnlyReads g.D.Disk.reveals ⊥ (g.D.Disk.state l.fn.disk) (g.D.Disk.state l.disk)

abbrev pub decreases-records : goal.decreases-records
decreases-records g l = 2 ^ 58 - l.copy
