use Rattle.std.proofs.Common.{◌≡◌, ◌<◌, false, length, get_or}
use Rattle.aea_lattice.specs.declared.blocks.BlockId.{BlockId}
use Rattle.aea_lattice.specs.Blocks.{HasBlock, number_of, blocks_count}
use Rattle.aea_lattice.specs.Closure.{is_among}
use Rattle.aea_plain.proofs.sweeps.known_marks.Given as goal

abbrev pub invariant-loop-k : goal.invariant-loop-k
invariant-loop-k l = record {
  same : l.marks.lattice ≡ l.lattice;
  long : length l.marks.marks ≡ blocks_count l.lattice;
  marks : (b : BlockId) → HasBlock l.lattice b → number_of l.lattice b < l.k → get_or l.marks.marks (number_of l.lattice b) false ≡ is_among l.known b;
}
