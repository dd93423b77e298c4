use Rattle.std.proofs.Common.{◌<◌, ℕ}
use Rattle.aea_readings.specs.Small.{block_in}
use Rattle.aea_gauss.specs.Lost.{IsLost}
use Rattle.aea_gauss.proofs.lost.has_determined.Given as goal

abbrev pub invariant-loop-at : goal.invariant-loop-at
invariant-loop-at l = (j : ℕ) → j < l.at → IsLost l.lattice l.losses (block_in l.blocks j)
