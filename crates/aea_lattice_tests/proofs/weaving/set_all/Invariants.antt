use Rattle.std.proofs.Common.{◌≡◌}
use Rattle.aea_lattice_tests.proofs.weaving.set_all.Given as goal

abbrev pub invariant-loop-strand : goal.invariant-loop-strand
invariant-loop-strand l = record { lattice : l.heads.lattice ≡ l.lattice; size : l.heads.size ≡ 16 }
