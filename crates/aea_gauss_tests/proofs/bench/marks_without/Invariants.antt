use Rattle.std.proofs.Common.{◌≡◌}
use Rattle.aea_gauss_tests.proofs.bench.marks_without.Given as goal

abbrev pub invariant-loop-k : goal.invariant-loop-k
invariant-loop-k l = l.marks.lattice ≡ l.lattice
