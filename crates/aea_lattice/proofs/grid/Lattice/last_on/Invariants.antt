use Rattle.std.proofs.Common.{ℕ, ◌<◌, ◌≤◌, ◌≢◌}
use Rattle.aea_lattice.specs.Strands.{strand_of}
use Rattle.aea_lattice.proofs.grid.Lattice.last_on.Given as goal

abbrev pub invariant-loop-node : goal.invariant-loop-node
invariant-loop-node l = record {
  within : l.node ≤ l.self.n;
  rest : (i : ℕ) → l.node < i → i ≤ l.self.n → strand_of l.self l.class i ≢ l.strand;
}

abbrev pub decreases-loop-node : goal.decreases-loop-node
decreases-loop-node l = l.node
