use Rattle.std.proofs.Common.{◌-◌}
use Rattle.aea_lattice.specs.Equations.{equations_to}
use Rattle.aea_sums.specs.Lists.{Puts}
use Rattle.aea_sums.proofs.lists.put_all.Given as goal

abbrev pub invariant-loop-node : goal.invariant-loop-node
invariant-loop-node l = Puts l.lattice l.table (equations_to l.lattice (l.node - 1)) l.fn.lists l.lists
