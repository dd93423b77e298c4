use Rattle.std.proofs.Common.{◌≡◌, ◌-◌}
use Rattle.aea_lattice.specs.Equations.{equations_to}
use Rattle.aea_lattice.proofs.grid.Lattice.equations.Given as goal

abbrev pub invariant-loop-node : goal.invariant-loop-node
invariant-loop-node l = l.equations.items ≡ equations_to l.self (l.node - 1)
