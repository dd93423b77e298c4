use Rattle.std.proofs.Common.{◌≡◌, ℕ, List}
use Rattle.aea_lattice.specs.declared.blocks.BlockId.{BlockId}
use Rattle.aea_disk.specs.State.{Passes}
use Rattle.aea_rehearse.specs.Generator.{state_after}
use Rattle.aea_rehearse.specs.Building.{AreWoven, AreGoneThrough}
use Rattle.aea_rehearse.proofs.altering.alter.Given as goal

abbrev pub invariant-loop-k : goal.invariant-loop-k
invariant-loop-k g l = record {
  state : l.generator.state ≡ state_after l.initial.generator.state l.k;
  going : (payload : BlockId → List ℕ) → AreWoven l.ledger payload (g.D.Disk.state l.initial.disk).files
      → AreGoneThrough l.ledger l.initial.generator.state l.permille l.k payload (g.D.Disk.state l.disk).files;
  ledger : (g.D.Disk.state l.disk).files 0 ≡ (g.D.Disk.state l.initial.disk).files 0;
  time : Passes (g.D.Disk.state l.initial.disk) (g.D.Disk.state l.disk);
  steady : (g.D.Disk.state l.disk).faults ≡ (g.D.Disk.state l.initial.disk).faults;
}
