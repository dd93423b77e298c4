use Rattle.std.proofs.Common.{◌≡◌, ℕ, ◌+◌, ◌≤◌, false}
use Rattle.aea_lattice.specs.Strands.{is_on}
use Rattle.aea_plain.proofs.strands.last_on.Given as goal

abbrev pub invariant-loop-k : goal.invariant-loop-k
invariant-loop-k l = (j : ℕ) → l.k ≤ j → j ≤ l.lattice.n → is_on l.lattice l.class l.strand (l.lattice.n + 1) j ≡ false
