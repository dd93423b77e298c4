use Rattle.std.proofs.Common.{◌≡◌, ◌<◌, ℕ, map, take, length}
use Rattle.aea_readings.specs.Small.{block_in}
use Rattle.aea_gauss.specs.Fates.{block_of_fate}
use Rattle.aea_gauss.specs.Parts.{fate_in}
use Rattle.aea_gauss.proofs.LostFates.{first_fate}
use Rattle.aea_gauss.proofs.lost.lost_fates.Given as goal

abbrev pub invariant-loop-at : goal.invariant-loop-at
invariant-loop-at l = record {
  blocks : map block_of_fate l.fates ≡ take l.at l.blocks;
  long : length l.fates ≡ l.at;
  each : (j : ℕ) → j < l.at → fate_in l.fates j ≡ first_fate l.lattice l.losses (block_in l.blocks j);
}
