use Rattle.std.proofs.Common.{◌≡◌, ◌-◌}
use Rattle.aea_lattice.specs.Growth.{SameShape}
use Rattle.aea_lattice_tests.proofs.weaving.weave_all.Given as goal

abbrev pub invariant-loop-heads : goal.invariant-loop-heads
invariant-loop-heads g l = record { shape : SameShape l.heads.lattice l.lattice; size : l.heads.size ≡ 16 }

abbrev pub decreases-loop-heads : goal.decreases-loop-heads
decreases-loop-heads g l = l.lattice.n - l.heads.lattice.n
