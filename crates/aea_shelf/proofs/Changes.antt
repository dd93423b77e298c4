-- What a change at one home leaves of the others, in the files as they read and in the images.
use Rattle.std.proofs.Common.{◌≡◌, ◌≢◌, ℕ, List, length, subst}
use Rattle.aea_lattice.specs.declared.blocks.BlockId.{BlockId}
use Rattle.aea_lattice.specs.declared.shape.Shape.{Shape}
use Rattle.aea_lattice.specs.Shapes.{IsBlockOf}
use Rattle.aea_place.specs.Facts.{RowsGoOverSites}
use Rattle.aea_disk.specs.Files.{Files, ChangesFile, Torn, Holds}
use Rattle.aea_disk.specs.Steps.{holds_torn, changes_wider}
use Rattle.aea_disk.specs.State.{State, Follows}
use Rattle.aea_shelf.specs.Places.{cell_size, home_file, home_place}
use Rattle.aea_shelf.specs.Writes.{ChangesHome, KeepsShelf}
use Rattle.aea_shelf.proofs.Homes.{some_sites, keeps_homes}
use Rattle.aea_shelf.proofs.Cells.{keeps_intact}

-- a cell written whole is such a change
pub written_home : (shape : Shape) (b : BlockId) (bytes : List ℕ) (old new : Files) → length bytes ≡ cell_size shape
    → ChangesFile (home_file shape b) (Holds (home_place shape b) bytes) old new → ChangesHome shape b old new
written_home shape b bytes old new size changes =
    subst (λ (n : ℕ). ChangesFile (home_file shape b) (Torn (home_place shape b) n) old new) size
    (changes_wider (home_file shape b) (Holds (home_place shape b) bytes) (Torn (home_place shape b) (length bytes)) old new (λ xs ys. holds_torn (home_place shape b) bytes xs ys) changes)

-- calls that change the home of one block alone keep the homes and the intact blocks of all others,
-- as they read and in the images
pub keeps_shelf : RowsGoOverSites → (reveals : Type 0) (shape : Shape) (b : BlockId) (old new : State) → IsBlockOf shape b
    → Follows (ChangesHome shape b) old new → (reveals → ChangesHome shape b old.files new.files) → KeepsShelf reveals shape (λ a. a ≢ b) old new
keeps_shelf rows reveals shape b old new has_b follows changes =
    let homes = λ (d c : Files) (step : ChangesHome shape b d c). keeps_homes rows shape b d c (some_sites shape) has_b step in
    record {
      homes = λ revealed. homes old.files new.files (changes revealed);
      intact = λ revealed. keeps_intact shape (λ a. a ≢ b) old.files new.files (homes old.files new.files (changes revealed));
      images = λ t c from to here.
          let was = follows t c from to here in
          (was.0, was.1, homes was.0 c was.2, keeps_intact shape (λ a. a ≢ b) was.0 c (homes was.0 c was.2));
    }
