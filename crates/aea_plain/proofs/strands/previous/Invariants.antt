use Rattle.std.proofs.Common.{◌≡◌, ℕ, ◌<◌, ◌≤◌, false}
use Rattle.aea_lattice.specs.Strands.{strand_of, is_on}
use Rattle.aea_plain.proofs.strands.previous.Given as goal

abbrev pub invariant-loop-k : goal.invariant-loop-k
invariant-loop-k l = (j : ℕ) → l.k ≤ j → j < l.node → is_on l.lattice l.class (strand_of l.lattice l.class l.node) l.node j ≡ false
