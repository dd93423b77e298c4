-- What writes of some blocks' cells leave of the others. The blocks that are to stay are given by a test of their own.
use Rattle.std.specs.Prelude.{◌≡◌, ℕ, ◌≤◌, List, length}
use Rattle.aea_lattice.specs.declared.blocks.BlockId.{BlockId}
use Rattle.aea_lattice.specs.declared.shape.Shape.{Shape}
use Rattle.aea_lattice.specs.Shapes.{IsBlockOf}
use Rattle.aea_disk.specs.Files.{Files, ChangesFile, Torn}
use Rattle.aea_disk.specs.State.{State}
use Rattle.aea_shelf.specs.Places.{cell_size, home_file, home_place, HasAtHome, padded_home}
use Rattle.aea_shelf.specs.Intact.{IsIntact}

-- A change that stays within one home, and what lies past the end of its file: what a write of the block's cell may leave.
abbrev pub ChangesHome : Shape → BlockId → Files → Files → Type 0
ChangesHome shape b = ChangesFile (home_file shape b) (Torn (home_place shape b) (cell_size shape))

-- Each home that is to stay has the bytes that were there, also where the file had only the first of them.
abbrev pub KeepsHomes : Shape → (BlockId → Type 0) → Files → Files → Type 0
KeepsHomes shape keep old new =
    (a : BlockId) (bytes : List ℕ) → IsBlockOf shape a → keep a → length bytes ≤ cell_size shape
    → HasAtHome shape a bytes old → HasAtHome shape a bytes new

-- each block that is to stay and was intact is intact, whatever its digest
abbrev pub KeepsIntact : Shape → (BlockId → Type 0) → Files → Files → Type 0
KeepsIntact shape keep old new =
    (a : BlockId) (recorded : List ℕ) → IsBlockOf shape a → keep a → IsIntact shape a recorded old → IsIntact shape a recorded new

-- each home that is to stay reads as before, where the bytes past the end of its file are taken as zeros
abbrev pub KeepsPadded : Shape → (BlockId → Type 0) → Files → Files → Type 0
KeepsPadded shape keep old new =
    (a : BlockId) → IsBlockOf shape a → keep a → padded_home shape a new ≡ padded_home shape a old

-- The homes and the intact blocks that are to stay, as they read; and as each image of a moment of a call has them, from
-- some image from before the call.
pub record KeepsShelf (reveals : Type 0) (shape : Shape) (keep : BlockId → Type 0) (old new : State) : Type 0 where
  pub homes : reveals → KeepsHomes shape keep old.files new.files
  pub intact : reveals → KeepsIntact shape keep old.files new.files
  pub images : (t : ℕ) (c : Files) → old.moment ≤ t → t ≤ new.moment → new.image t c
      → (d : Files) × old.image old.moment d × KeepsHomes shape keep d c × KeepsIntact shape keep d c
