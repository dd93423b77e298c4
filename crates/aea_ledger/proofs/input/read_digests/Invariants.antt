use Rattle.aea_disk.specs.Frames.{OnlyReads}
use Rattle.aea_ledger.specs.Readings.{HasDigests}
use Rattle.aea_ledger.proofs.input.read_digests.Given as goal

abbrev pub invariant-loop : goal.invariant-loop
invariant-loop g l =
    HasDigests g.D.Disk.reveals ((g.D.Disk.state l.fn.disk).files 0) l.fn.input l.input l.counter l.fn.digests.items l.digests.items
    × OnlyReads g.D.Disk.reveals ⊥ (g.D.Disk.state l.fn.disk) (g.D.Disk.state l.disk)
