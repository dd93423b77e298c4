use Rattle.std.proofs.Common.{◌≡◌, filter, take}
use Rattle.aea_lattice.specs.Blocks.{blocks_of}
use Rattle.aea_plain.specs.Marks.{is_marked}
use Rattle.aea_plain.proofs.sweeps.marked_blocks.Given as goal

abbrev pub invariant-loop-k : goal.invariant-loop-k
invariant-loop-k l = l.blocks.items ≡ filter (is_marked l.lattice l.marks.marks) (take l.k (blocks_of l.lattice))
