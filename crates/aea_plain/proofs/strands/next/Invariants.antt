use Rattle.std.proofs.Common.{◌≡◌, ℕ, ◌<◌, false}
use Rattle.aea_lattice.specs.Strands.{strand_of, is_on}
use Rattle.aea_plain.proofs.strands.next.Given as goal

abbrev pub invariant-loop-k : goal.invariant-loop-k
invariant-loop-k l = (j : ℕ) → l.node < j → j < l.k → is_on l.lattice l.class (strand_of l.lattice l.class j) j l.node ≡ false
