use Rattle.std.proofs.Common.{◌≡◌}
use Rattle.aea_lattice_tests.proofs.marking.set_four.Given as goal

abbrev pub invariant-loop-k : goal.invariant-loop-k
invariant-loop-k l = l.marks.lattice ≡ l.lattice
