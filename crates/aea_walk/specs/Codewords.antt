-- Lists of nodes as the members of a codeword, and the least intact block that it contains. The blocks that are intact are
-- given by a test.
use Rattle.std.specs.Prelude.{ℕ, ◌<◌, Bool, ◌&&◌, List, All, length, get_or, find, Option}
use Rattle.aea_lattice.specs.declared.blocks.BlockId.{BlockId}
use Rattle.aea_lattice.specs.declared.grid.Lattice.{Lattice}
use Rattle.aea_lattice.specs.Blocks.{HasNode, blocks_of}
use Rattle.aea_lattice.specs.Equations.{is_in_codeword}
use Rattle.aea_lattice.specs.Lists.{has_node}

-- nodes of the lattice, each greater than the one before
pub record AreRising (l : Lattice) (nodes : List ℕ) : Type 0 where
  pub inside : All (HasNode l) nodes
  pub rising : (j k : ℕ) → j < k → k < length nodes → get_or nodes j 0 < get_or nodes k 0

-- whether the block is intact, and the codeword of the nodes contains it
abbrev pub is_touched : Lattice → (BlockId → Bool) → List ℕ → BlockId → Bool
is_touched l intact nodes b = intact b && is_in_codeword l (has_node nodes) b

-- the least intact block in the codeword of the nodes
abbrev pub touched : Lattice → (BlockId → Bool) → List ℕ → Option BlockId
touched l intact nodes = find (is_touched l intact nodes) (blocks_of l)
