use Rattle.std.proofs.Common.{◌≡◌, ◌≤◌, ◌-◌, ◌^◌, ℕ, true, List}
use Rattle.aea_disk.specs.Ends.{greatest_place}
use Rattle.aea_disk.specs.Frames.{OnlyReads}
use Rattle.aea_copy_reader.specs.Seen.{AreSeen}
use Rattle.aea_copy_reader.specs.Judging.{HasRead}
use Rattle.aea_copy_reader.specs.Walking.{GoTogether}
use Rattle.aea_copy_reader.proofs.walk.walk.Given as goal

abbrev pub invariant-entries : goal.invariant-entries
invariant-entries g l =
    (l.stands.place ≤ greatest_place)
    × (l.stands.text ≤ l.stands.place)
    × (l.common.place ≤ greatest_place)
    × (l.common.text ≤ l.common.place)
    × (g.D.Disk.reveals → AreSeen (g.D.Disk.state l.fn.disk).files l.fn.pair.file l.fn.pair.other l.own l.twin l.ledger)
    × (g.D.Disk.reveals → (pieces : List (List ℕ)) × HasRead ((g.D.Disk.state l.fn.disk).files 0) ((g.D.Disk.state l.fn.disk).files l.fn.pair.file) pieces l.stands)
    × (g.D.Disk.reveals → l.fn.had ≡ true → (pieces : List (List ℕ)) → HasRead ((g.D.Disk.state l.fn.disk).files 0) ((g.D.Disk.state l.fn.disk).files l.fn.pair.file) pieces l.fn.from
    → HasRead ((g.D.Disk.state l.fn.disk).files 0) ((g.D.Disk.state l.fn.disk).files l.fn.pair.other) pieces l.fn.from
    → GoTogether ((g.D.Disk.state l.fn.disk).files 0) ((g.D.Disk.state l.fn.disk).files l.fn.pair.file) ((g.D.Disk.state l.fn.disk).files l.fn.pair.other) l.stands l.common l.same)
    × OnlyReads g.D.Disk.reveals ⊥ (g.D.Disk.state l.fn.disk) (g.D.Disk.state l.disk)

abbrev pub decreases-entries : goal.decreases-entries
decreases-entries g l = 2 ^ 58 - l.stands.place
