use Rattle.std.proofs.Common.{◌≡◌, ◌≤◌, ◌-◌, filter, take}
use Rattle.aea_lattice.specs.Blocks.{blocks_of, blocks_count}
use Rattle.aea_view.specs.Marked.{is_marked}
use Rattle.aea_gauss.proofs.marked.marked_blocks.Given as goal

abbrev pub invariant-loop-k : goal.invariant-loop-k
invariant-loop-k l = record {
  inside : l.from ≤ blocks_count l.lattice;
  blocks : l.blocks.items ≡ filter (is_marked l.marks) (take l.from (blocks_of l.lattice));
}

abbrev pub decreases-loop-k : goal.decreases-loop-k
decreases-loop-k l = blocks_count l.lattice - l.from
