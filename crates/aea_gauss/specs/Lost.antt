-- Fates of blocks that are lost, as the list of losses has them, and of those that are not.
use Rattle.std.specs.Prelude.{◌≡◌, ℕ, ◌<◌, Bool, List, length, get_or, Option, None, Some}
use Rattle.aea_lattice.specs.declared.blocks.BlockId.{BlockId}
use Rattle.aea_lattice.specs.declared.grid.Lattice.{Lattice}
use Rattle.aea_lattice.specs.Blocks.{number_of}
use Rattle.aea_readings.specs.Small.{block_in}
use Rattle.aea_gauss.specs.declared.fates.Fate.{Fate}
use Rattle.aea_gauss.specs.Fates.{IsFate}
use Rattle.aea_gauss.specs.Parts.{fate_in}

-- the list has nodes for the block
abbrev pub IsLost : Lattice → List (Option (List ℕ)) → BlockId → Type 0
IsLost l losses b = (nodes : List ℕ) × (get_or losses (number_of l b) None ≡ Some nodes)

-- the list has no nodes for the block
abbrev pub IsNotLost : Lattice → List (Option (List ℕ)) → BlockId → Type 0
IsNotLost l losses b = get_or losses (number_of l b) None ≡ None

-- the fate of each block that the list has nodes for is right
abbrev pub AreLostRight : Lattice → (BlockId → Bool) → List BlockId → List (Option (List ℕ)) → List Fate → Type 0
AreLostRight l known blocks losses fates = (a : ℕ) → a < length blocks → IsLost l losses (block_in blocks a) → IsFate l known (fate_in fates a)
