use Rattle.std.proofs.Common.{◌≡◌, filter, take}
use Rattle.aea_lattice.specs.Blocks.{blocks_of}
use Rattle.aea_lattice.specs.Equations.{adds_up_to}
use Rattle.aea_lattice.specs.Lists.{is_listed}
use Rattle.aea_plain.proofs.sums.sum.Given as goal

abbrev pub invariant-loop-k : goal.invariant-loop-k
invariant-loop-k l = l.blocks.items ≡ filter (adds_up_to l.lattice (is_listed l.equations)) (take l.k (blocks_of l.lattice))
