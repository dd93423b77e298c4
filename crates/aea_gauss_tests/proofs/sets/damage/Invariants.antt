use Rattle.std.proofs.Common.{◌≡◌}
use Rattle.aea_gauss_tests.proofs.sets.damage.Given as goal

abbrev pub invariant-loop-k : goal.invariant-loop-k
invariant-loop-k l = l.known.lattice ≡ l.lattice
