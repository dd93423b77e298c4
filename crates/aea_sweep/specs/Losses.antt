-- What is lost: what happens to each block.
use Rattle.std.specs.Prelude.{◌≡◌, ℕ, Bool, List, length, get_or, Option, Some, None}
use Rattle.aea_lattice.specs.declared.blocks.BlockId.{BlockId}
use Rattle.aea_lattice.specs.declared.grid.Lattice.{Lattice}
use Rattle.aea_lattice.specs.Blocks.{HasBlock, number_of, blocks_count}
use Rattle.aea_lattice.specs.Data.{Determines}
use Rattle.aea_lattice.specs.LeastWord.{IsWord}

-- what happens to a block: it is lost by these nodes, or the known blocks determine it
abbrev pub IsLoss : Lattice → (BlockId → Bool) → BlockId → Option (List ℕ) → Type 0
IsLoss l known b None = Determines l known b
IsLoss l known b (Some nodes) = IsWord l known b nodes

-- what happens to each block of the lattice, by the blocks' numbers
pub record AreLosses (l : Lattice) (known : BlockId → Bool) (losses : List (Option (List ℕ))) : Type 0 where
  pub long : length losses ≡ blocks_count l
  pub each : (b : BlockId) → HasBlock l b → IsLoss l known b (get_or losses (number_of l b) None)
