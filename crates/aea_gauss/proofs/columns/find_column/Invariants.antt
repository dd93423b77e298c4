use Rattle.std.proofs.Common.{ℕ, ◌<◌, ◌≤◌, ◌-◌, length}
use Rattle.aea_lattice.specs.Blocks.{number_of}
use Rattle.aea_readings.specs.Small.{block_in}
use Rattle.aea_gauss.proofs.columns.find_column.Given as goal

abbrev pub invariant-loop-low : goal.invariant-loop-low
invariant-loop-low l = record {
  order : l.low ≤ l.high;
  inside : l.high ≤ length l.blocks;
  below : (a : ℕ) → a < l.low → number_of l.lattice (block_in l.blocks a) < number_of l.lattice l.fn.b;
  above : (a : ℕ) → l.high ≤ a → a < length l.blocks → number_of l.lattice l.fn.b < number_of l.lattice (block_in l.blocks a);
}

abbrev pub decreases-loop-low : goal.decreases-loop-low
decreases-loop-low l = l.high - l.low
