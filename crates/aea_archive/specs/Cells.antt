-- What changes of an archive's files leave of its blocks, and the space that they need.
use Rattle.std.specs.Prelude.{◌≡◌, ◌⊎◌, ℕ, ◌<◌, ◌≤◌, List, length, max}
use Rattle.aea_lattice.specs.declared.blocks.BlockId.{BlockId}
use Rattle.aea_lattice.specs.declared.shape.Shape.{Shape}
use Rattle.aea_envelope.specs.Cells.{cell_of}
use Rattle.aea_disk.specs.Files.{Files, KeepsFiles}
use Rattle.aea_disk.specs.State.{State, HasRoomTo, IsReady}
use Rattle.aea_disk.specs.Frames.{OnlyWrites}
use Rattle.aea_shelf.specs.Places.{site_bytes, HasAtHome}
use Rattle.aea_shelf.specs.Writes.{KeepsHomes}
use Rattle.aea_archive.specs.Blocks.{IsBlockOn}

-- the file is neither the ledger nor one of the archive's sites
abbrev pub IsBesides : Shape → ℕ → Type 0
IsBesides shape f = shape.sites < f

-- no cell of the archive is in the file: it is the ledger, or not one of the archive
abbrev pub IsNoSite : Shape → ℕ → Type 0
IsNoSite shape f = (f ≡ 0) ⊎ IsBesides shape f

-- A change of the files that leaves these blocks and these files: each home that is to stay has the bytes that were there,
-- each file that is to stay is as it was, and no site's file grows past the rows of so many nodes.
pub record ChangesArchive (shape : Shape) (nodes : ℕ) (blocks : BlockId → Type 0) (files : ℕ → Type 0) (old new : Files) : Type 0 where
  pub homes : KeepsHomes shape blocks old new
  pub stay : KeepsFiles files old new
  pub long : (f : ℕ) → 1 ≤ f → length (new f) ≤ max (length (old f)) (site_bytes shape nodes)

-- the sites have space for the rows of so many nodes
abbrev pub HaveSitesRoom : Shape → ℕ → State → Type 0
HaveSitesRoom shape nodes s = (f : ℕ) → 1 ≤ f → f ≤ shape.sites → HasRoomTo s f (site_bytes shape nodes)

-- the sites have space for the rows of so many nodes, and the disk has the space to sync
pub record FitsRows (shape : Shape) (nodes : ℕ) (s : State) : Type 0 where
  pub sites : HaveSitesRoom shape nodes s
  pub sync : s.keeps (s.files 0)

-- Cells were written, in the rows of so many nodes: the homes of these blocks have the bytes that were there, each file
-- without cells is as it was, and no site's file has grown past these rows; so it is in every image too. Within the space of
-- these rows it does not fail.
abbrev pub WritesCells : Type 0 → Shape → ℕ → (BlockId → Type 0) → Type 0 → State → State → Type 0
WritesCells reveals shape nodes keep fault old new =
    OnlyWrites reveals (IsReady old) (FitsRows shape nodes old) fault (ChangesArchive shape nodes keep (IsNoSite shape)) old new

-- the blocks of these nodes have their cells at their homes
abbrev pub AreAtHome : Shape → ℕ → ℕ → (BlockId → List ℕ) → Files → Type 0
AreAtHome shape before last payload c = (b : BlockId) → IsBlockOn shape before last b → HasAtHome shape b (cell_of b (payload b)) c
