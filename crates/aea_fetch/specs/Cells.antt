-- Why the payload of a block is not read from its cell.
use Rattle.std.specs.Prelude.{◌≡◌, ℕ, List}
use Rattle.aea_lattice.specs.declared.blocks.BlockId.{BlockId}
use Rattle.aea_lattice.specs.declared.shape.Shape.{Shape}
use Rattle.aea_disk.specs.Files.{Files}
use Rattle.aea_archive.specs.Blocks.{IsIntactBy}
use Rattle.aea_fetch.specs.declared.cells.CellFault.{CellFault}
use Rattle.aea_fetch.specs.declared.cells.CellFault.TheVariants.{Damaged, DiskFault}

-- the block is damaged, and no other: it is not intact; or the disk failed
abbrev pub IsCellFault : Type 0 → Shape → List (List ℕ) → Files → BlockId → CellFault → Type 0
IsCellFault reveals shape digests c b (Damaged k) = (k ≡ b) × (reveals → IsIntactBy shape digests c b → ⊥)
IsCellFault reveals shape digests c b DiskFault = Unit {0}
