-- Closures as lists of blocks.
use Rattle.std.specs.Prelude.{◌≡◌, ◌↔◌, Bool, List, filter, IsTrue}
use Rattle.aea_lattice.specs.declared.blocks.BlockId.{BlockId}
use Rattle.aea_lattice.specs.declared.grid.Lattice.{Lattice}
use Rattle.aea_lattice.specs.Blocks.{HasBlock, blocks_of}
use Rattle.aea_lattice.specs.Closure.{IsReached, is_among}

-- The blocks are those of the lattice in the closure of the known ones, in number order.
pub record IsClosure (l : Lattice) (known : BlockId → Bool) (blocks : List BlockId) : Type 0 where
  pub reached : (b : BlockId) → HasBlock l b → IsTrue (is_among blocks b) ↔ IsReached l known b
  -- they are the blocks of the lattice, each once and in number order, without those that are not among them
  pub ordered : blocks ≡ filter (is_among blocks) (blocks_of l)
