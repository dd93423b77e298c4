-- What follows of homes, and of plain damage.
use Rattle.std.specs.Prelude.{◌≡◌, ◌≢◌, ◌⊎◌, ◌+◌, ◌≤◌, List, ℕ}
use Rattle.aea_lattice.specs.declared.blocks.BlockId.{BlockId}
use Rattle.aea_lattice.specs.declared.grid.Lattice.{Lattice}
use Rattle.aea_lattice.specs.declared.shape.Shape.{Shape}
use Rattle.aea_lattice.specs.Blocks.{HasBlock}
use Rattle.aea_lattice.specs.Shapes.{IsBlockOf}
use Rattle.aea_disk.specs.Files.{Files}
use Rattle.aea_shelf.specs.Places.{cell_size, home_file, home_place, site_bytes, padded_home}
use Rattle.aea_shelf.specs.Intact.{IsIntact}
use Rattle.aea_shelf.specs.Honest.{IsPlain}

-- Where the damage is plain, a block whose home reads as before, with zeros past the end of its file, is intact
-- afterwards only if it was so before.
abbrev pub PlainDamageStays : Type 0
PlainDamageStays =
    (l : Lattice) (shape : Shape) (recorded : BlockId → List ℕ) (old new : Files) → IsPlain l shape recorded old
    → (b : BlockId) → HasBlock l b → padded_home shape b new ≡ padded_home shape b old
    → IsIntact shape b (recorded b) new → IsIntact shape b (recorded b) old

-- The cells of two blocks in one file have no byte in common.
abbrev pub CellsAreApart : Type 0
CellsAreApart =
    (shape : Shape) (a b : BlockId) → IsBlockOf shape a → IsBlockOf shape b → a ≢ b → home_file shape a ≡ home_file shape b
    → (home_place shape a + cell_size shape ≤ home_place shape b) ⊎ (home_place shape b + cell_size shape ≤ home_place shape a)

-- A home ends within the rows of an archive that has the block's node.
abbrev pub HomesAreInRows : Type 0
HomesAreInRows =
    (shape : Shape) (n : ℕ) (b : BlockId) → IsBlockOf shape b → b.node ≤ n → home_place shape b + cell_size shape ≤ site_bytes shape n

-- More nodes have no fewer rows.
abbrev pub RowsGrow : Type 0
RowsGrow = (shape : Shape) (n m : ℕ) → n ≤ m → site_bytes shape n ≤ site_bytes shape m

-- An archive has a site, and the file of a home is one of its sites'.
abbrev pub HomesAreOnItsSites : Type 0
HomesAreOnItsSites =
    (shape : Shape) → (1 ≤ shape.sites) × ((b : BlockId) → (1 ≤ home_file shape b) × (home_file shape b ≤ shape.sites))
