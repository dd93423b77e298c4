use Rattle.std.proofs.Common.{ℕ, ◌<◌, ◌≤◌, length, get_or}
use Rattle.aea_walk.specs.Codewords.{AreRising}
use Rattle.aea_lattice_tests.proofs.walking.rising.Given as goal

abbrev pub invariant-loop-node : goal.invariant-loop-node
invariant-loop-node l = record {
  rising : AreRising l.lattice l.nodes;
  most : (k : ℕ) → k < length l.nodes → get_or l.nodes k 0 ≤ l.last;
}
