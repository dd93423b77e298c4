use Rattle.std.proofs.Common.{length}
use Rattle.std.specs.Prelude.{All}
use Rattle.aea_lattice.specs.Blocks.{HasBlock}
use Rattle.aea_fetch.proofs.Loops.{HasSeen}
use Rattle.aea_degraded.specs.Planned.{IsGiven}
use Rattle.std.specs.FinMap.{get}
use Rattle.aea_archive.specs.Objects.{data_under}
use Rattle.aea_degraded.proofs.planning.first_lost.Given as goal

-- the blocks so far are given
abbrev pub invariant-loop-b : goal.invariant-loop-b
invariant-loop-b l = record {
  inside : All (HasBlock l.ledger.lattice) l.blocks;
  seen : HasSeen (Unit {0}) (IsGiven l.fates) (data_under (get l.ledger.objects l.name)) l.blocks;
}

abbrev pub decreases-loop-b : goal.decreases-loop-b
decreases-loop-b l = length l.blocks
