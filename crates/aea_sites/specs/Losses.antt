-- “Loss”: what of a lattice nothing brings back where some of its blocks are known and the others are gone.
use Rattle.std.specs.Prelude.{◌≡◌, ◌↔◌, ℕ, Bool, List, [], ◌∷◌, filter, length, Option, None, Some, IsTrue}
use Rattle.aea_lattice.specs.declared.blocks.BlockId.{BlockId}
use Rattle.aea_lattice.specs.declared.grid.Lattice.{Lattice}
use Rattle.aea_lattice.specs.Blocks.{HasBlock, blocks_of}
use Rattle.aea_lattice.specs.Data.{Determines}
use Rattle.aea_lattice.specs.LeastWord.{IsWord}
use Rattle.aea_sites.specs.declared.lost.FirstLost.{FirstLost}
use Rattle.aea_sites.specs.declared.lost.SiteLoss.{SiteLoss}

-- the test tells the lost blocks of the lattice: those that the known ones do not determine, as they do each of themselves
abbrev pub RevealsLost : Lattice → (BlockId → Bool) → (BlockId → Bool) → Type 0
RevealsLost l known test = (b : BlockId) → HasBlock l b → IsTrue (test b) ↔ ¬ Determines l known b

-- these are the lost blocks, in number order
pub record AreLost (l : Lattice) (known : BlockId → Bool) (blocks : List BlockId) : Type 0 where
  pub test : BlockId → Bool
  pub reveals : RevealsLost l known test
  pub are : blocks ≡ filter test (blocks_of l)

-- the first of the lost blocks, with its listed nodes; none where no block is lost
abbrev pub IsFirst : Lattice → (BlockId → Bool) → List BlockId → Option FirstLost → Type 0
IsFirst l known [] first = first ≡ None
IsFirst l known (b ∷ blocks) first = (nodes : List ℕ) × (first ≡ Some (record { block = b; nodes = nodes })) × IsWord l known b nodes

-- The loss of a lattice where these blocks are known: the number of lost blocks, and the first of them.
pub record IsLossOf (l : Lattice) (known : BlockId → Bool) (loss : SiteLoss) : Type 0 where
  pub blocks : List BlockId
  pub are : AreLost l known blocks
  pub count : loss.lost ≡ length blocks
  pub first : IsFirst l known blocks loss.first
