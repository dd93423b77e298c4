use Rattle.std.proofs.Common.{ℕ, ◌<◌, ◌≤◌, ◌-◌, length}
use Rattle.aea_lattice.specs.Blocks.{number_of}
use Rattle.aea_gauss.specs.Fates.{block_of_fate}
use Rattle.aea_gauss.specs.Parts.{fate_in}
use Rattle.aea_gauss.proofs.fates.FateList.find.Given as goal

abbrev pub invariant-loop-low : goal.invariant-loop-low
invariant-loop-low l = record {
  order : l.low ≤ l.high;
  inside : l.high ≤ length l.self;
  below : (a : ℕ) → a < l.low → number_of l.lattice (block_of_fate (fate_in l.self a)) < number_of l.lattice l.fn.b;
  above : (a : ℕ) → l.high ≤ a → a < length l.self → number_of l.lattice l.fn.b < number_of l.lattice (block_of_fate (fate_in l.self a));
}

abbrev pub decreases-loop-low : goal.decreases-loop-low
decreases-loop-low l = l.high - l.low
