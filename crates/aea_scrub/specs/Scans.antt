-- Marks of the blocks of an opened ledger that are intact, by the digests that it keeps.
use Rattle.std.specs.Prelude.{◌↔◌, ◌<◌, ℕ, IsTrue}
use Rattle.aea_lattice.specs.declared.blocks.BlockId.{BlockId}
use Rattle.aea_lattice.specs.Blocks.{HasBlock, number_of}
use Rattle.aea_view.specs.Marked.{Marked, is_marked}
use Rattle.aea_disk.specs.Files.{Files}
use Rattle.aea_ledger.specs.Values.{Opened}
use Rattle.aea_archive.specs.Blocks.{IsIntactBy}

-- a block of the archive is marked exactly where it is intact in these files
abbrev pub AreIntact : Opened → Files → Marked → Type 0
AreIntact v c m = (b : BlockId) → HasBlock v.lattice b → IsTrue (is_marked m b) ↔ IsIntactBy v.shape v.digests c b

-- the same of the blocks with a number below this one
abbrev pub AreIntactTo : Opened → Files → Marked → ℕ → Type 0
AreIntactTo v c m end =
    (b : BlockId) → HasBlock v.lattice b → number_of v.lattice b < end → IsTrue (is_marked m b) ↔ IsIntactBy v.shape v.digests c b
