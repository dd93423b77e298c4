-- What is a payload of a block to one who reads its cell, and which block is damaged.
use Rattle.std.specs.Prelude.{◌≡◌, ℕ, List, length}
use Rattle.aea_lattice.specs.declared.blocks.BlockId.{BlockId}
use Rattle.aea_lattice.specs.declared.shape.Shape.{Shape}
use Rattle.aea_envelope.specs.Cells.{block_digest}
use Rattle.aea_disk.specs.Files.{Files}
use Rattle.aea_shelf.specs.Intact.{payload_at}
use Rattle.aea_archive.specs.Blocks.{recorded_in, IsIntactBy}
use Rattle.aea_archive.specs.Objects.{IsFirstWithout}

-- A payload of the block: it has the bytes of a block, and the digest that is kept of it; and where the disk's contents are
-- known, it is what is at the home, in an intact cell.
pub record IsPayload (reveals : Type 0) (shape : Shape) (digests : List (List ℕ)) (c : Files) (b : BlockId) (payload : List ℕ) : Type 0 where
  pub wide : length payload ≡ shape.block
  pub digest : block_digest b payload ≡ recorded_in shape digests b
  pub home : reveals → payload ≡ payload_at shape c b
  pub intact : reveals → IsIntactBy shape digests c b

-- the first one of the blocks that is not intact
abbrev pub IsFirstDamaged : Shape → List (List ℕ) → Files → List BlockId → BlockId → Type 0
IsFirstDamaged shape digests c blocks b = IsFirstWithout (IsIntactBy shape digests c) blocks b
