-- “Intact”: the home of a block holds its cell, with the digest that is recorded.
use Rattle.std.specs.Prelude.{◌≡◌, ℕ, ◌+◌, ◌≤◌, List, length, take, drop}
use Rattle.aea_lattice.specs.declared.blocks.BlockId.{BlockId}
use Rattle.aea_lattice.specs.declared.shape.Shape.{Shape}
use Rattle.aea_envelope.specs.Cells.{block_digest, cell_of}
use Rattle.aea_disk.specs.Files.{Files}
use Rattle.aea_disk.specs.State.{State, EveryImage}
use Rattle.aea_shelf.specs.Places.{cell_size, home_file, home_place, home_bytes, HasAtHome}

-- the bytes are a cell of this block, and its digest is the recorded one
pub record IsRecorded (b : BlockId) (recorded bytes : List ℕ) : Type 0 where
  pub payload : List ℕ
  pub cell : bytes ≡ cell_of b payload
  pub digest : block_digest b payload ≡ recorded

-- “Intact”: the bytes at the block's home, all within the file, are a cell of this block with the recorded digest
pub record IsIntact (shape : Shape) (b : BlockId) (recorded : List ℕ) (c : Files) : Type 0 where
  pub within : home_place shape b + cell_size shape ≤ length (c (home_file shape b))
  pub here : IsRecorded b recorded (home_bytes shape b c)

-- “held”: the block is intact, and every image of now has at its home the bytes that the disk reads there
pub record IsBlockHeld (shape : Shape) (b : BlockId) (recorded : List ℕ) (s : State) : Type 0 where
  pub intact : IsIntact shape b recorded s.files
  pub images : EveryImage s (HasAtHome shape b (home_bytes shape b s.files))

-- “held at a moment”: in every image of it the home has the same bytes, and these are a cell of this block with the
-- recorded digest
pub record IsHeldIn (shape : Shape) (b : BlockId) (recorded : List ℕ) (image : Files → Type 0) : Type 0 where
  pub bytes : List ℕ
  pub size : length bytes ≡ cell_size shape
  pub cell : IsRecorded b recorded bytes
  pub images : (c : Files) → image c → HasAtHome shape b bytes c

-- the payload in a cell: bytes 16 to 15+B
abbrev pub payload_in : Shape → List ℕ → List ℕ
payload_in shape cell = take shape.block (drop 16 cell)

-- what is at a block's home in the place of its payload
abbrev pub payload_at : Shape → Files → BlockId → List ℕ
payload_at shape c b = payload_in shape (home_bytes shape b c)
