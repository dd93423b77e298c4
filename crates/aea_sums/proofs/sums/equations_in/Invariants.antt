use Rattle.std.proofs.Common.{◌≡◌, ◌-◌, filter}
use Rattle.aea_lattice.specs.Equations.{equations_to}
use Rattle.aea_sums.specs.Sums.{has_equation}
use Rattle.aea_sums.proofs.sums.equations_in.Given as goal

abbrev pub invariant-loop-node : goal.invariant-loop-node
invariant-loop-node l = l.equations ≡ filter (has_equation l.lattice l.table l.k) (equations_to l.lattice (l.node - 1))
