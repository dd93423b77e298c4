-- The blocks of an archive, the digest that its ledger keeps of each, and which of them are intact by it. A part of the
-- archive's nodes is given by the node before its first and by its last.
use Rattle.std.specs.Prelude.{ℕ, ◌<◌, ◌≤◌, Bool, ◌↔◌, IsTrue, List, [], slice_index_or}
use Rattle.aea_lattice.specs.declared.blocks.BlockId.{BlockId}
use Rattle.aea_lattice.specs.declared.shape.Shape.{Shape}
use Rattle.aea_lattice.specs.Blocks.{class_number}
use Rattle.aea_lattice.specs.Shapes.{number_in}
use Rattle.aea_disk.specs.Files.{Files}
use Rattle.aea_disk.specs.State.{State}
use Rattle.aea_shelf.specs.Intact.{IsIntact, IsBlockHeld}

-- the block is one of the nodes after `before` up to `last`, in an archive of this shape
pub record IsBlockOn (shape : Shape) (before last : ℕ) (b : BlockId) : Type 0 where
  pub after : before < b.node
  pub most : b.node ≤ last
  pub used : class_number b.class ≤ shape.alpha

-- the block is one of an archive with so many nodes
abbrev pub IsBlockIn : Shape → ℕ → BlockId → Type 0
IsBlockIn shape nodes b = IsBlockOn shape 0 nodes b

-- the digest of a block among those of all blocks in number order
abbrev pub recorded_in : Shape → List (List ℕ) → BlockId → List ℕ
recorded_in shape digests b = slice_index_or digests (number_in shape b) []

-- the block is intact, by the digest that is kept of it
abbrev pub IsIntactBy : Shape → List (List ℕ) → Files → BlockId → Type 0
IsIntactBy shape digests c b = IsIntact shape b (recorded_in shape digests b) c

-- and it is held: intact, and every image of now has its cell as it reads
abbrev pub IsHeldBy : Shape → List (List ℕ) → State → BlockId → Type 0
IsHeldBy shape digests s b = IsBlockHeld shape b (recorded_in shape digests b) s

-- a survivor: a block of the archive with so many nodes and these digests that is intact
pub record IsSurvivor (shape : Shape) (nodes : ℕ) (digests : List (List ℕ)) (c : Files) (b : BlockId) : Type 0 where
  pub block : IsBlockIn shape nodes b
  pub intact : IsIntactBy shape digests c b

-- the test distinguishes the survivors among the blocks of the archive
abbrev pub RevealsSurvivors : Shape → ℕ → List (List ℕ) → Files → (BlockId → Bool) → Type 0
RevealsSurvivors shape nodes digests c known =
    (b : BlockId) → IsBlockIn shape nodes b → IsTrue (known b) ↔ IsIntactBy shape digests c b
