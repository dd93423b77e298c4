-- The stages of a rehearsal: what is there when the archive is made, and when its blocks are altered. The payloads of the blocks
-- are given by a function.
use Rattle.std.specs.Prelude.{◌≡◌, ℕ, ◌+◌, ◌<◌, ◌≤◌, Bool, not, ◌&&◌, cond, List, [], ◌∷◌, length}
use Rattle.aea_lattice.specs.declared.blocks.BlockId.{BlockId}
use Rattle.aea_lattice.specs.declared.grid.Lattice.{Lattice}
use Rattle.aea_lattice.specs.Blocks.{HasBlock, number_of}
use Rattle.aea_lattice.specs.Data.{value_of}
use Rattle.aea_disk.specs.Files.{Files}
use Rattle.aea_envelope.specs.Cells.{block_digest, cell_of}
use Rattle.aea_shelf.specs.Places.{HasAtHome}
use Rattle.aea_records.specs.Format.{Stored, Object, nodes_for}
use Rattle.aea_ledger.specs.Recorded.{AreRecordsOf}
use Rattle.aea_ledger.specs.Values.{Opened, HasRecords}
use Rattle.aea_ledger.specs.Stops.{HasLedger}
use Rattle.aea_archive.specs.Blocks.{recorded_in}
use Rattle.aea_archive.specs.Next.{object_blocks}
use Rattle.aea_rehearse.specs.Generator.{state_after, strikes}
use Rattle.aea_rehearse.specs.Rehearsed.{IsRehearsalShape, IsRehearsalRecord, flipped_cell, keeps_digest}

-- The blocks have these payloads: each of the block size, with the digest that the ledger keeps.
pub record AreRecordedPayloads (v : Opened) (payload : BlockId → List ℕ) : Type 0 where
  pub wide : (b : BlockId) → HasBlock v.lattice b → length (payload b) ≡ v.shape.block
  pub digests : (b : BlockId) → HasBlock v.lattice b → block_digest b (payload b) ≡ recorded_in v.shape v.digests b

-- their cells are at their homes
pub record AreWoven (v : Opened) (payload : BlockId → List ℕ) (c : Files) : Type 0 where
  pub recorded : AreRecordedPayloads v payload
  pub cells : (b : BlockId) → HasBlock v.lattice b → HasAtHome v.shape b (cell_of b (payload b)) c

-- The archive was made: it has the object of these bytes, and nothing else.
pub record IsBuilt (bytes : List ℕ) (v : Opened) (c : Files) : Type 0 where
  pub shape : IsRehearsalShape v.shape
  pub nodes : v.lattice.n ≡ nodes_for v.shape (length bytes)
  pub stored : Stored
  pub is_stored : IsRehearsalRecord bytes stored
  pub has : HasRecords v (Object stored ∷ [])
  pub ledger : HasLedger v.shape (Object stored ∷ []) (c 0)
  pub recorded : AreRecordsOf v.shape (Object stored ∷ []) (object_blocks v.shape bytes)
  pub woven : AreWoven v (value_of v.lattice v.shape.block (object_blocks v.shape bytes)) c

-- whether a block is altered, where the generator has this state before the first block
abbrev pub is_hit : Lattice → ℕ → ℕ → (BlockId → List ℕ) → BlockId → Bool
is_hit l x permille payload b = strikes permille (state_after x (number_of l b + 1)) && not (keeps_digest b (payload b))

-- what is at its home then
abbrev pub cell_by : Lattice → ℕ → ℕ → (BlockId → List ℕ) → BlockId → List ℕ
cell_by l x permille payload b = cond (is_hit l x permille payload b) (flipped_cell b (payload b)) (cell_of b (payload b))

-- The blocks with numbers below k were gone through, and the others are as they were woven.
pub record AreGoneThrough (v : Opened) (x permille k : ℕ) (payload : BlockId → List ℕ) (c : Files) : Type 0 where
  pub done : (b : BlockId) → HasBlock v.lattice b → number_of v.lattice b < k → HasAtHome v.shape b (cell_by v.lattice x permille payload b) c
  pub rest : (b : BlockId) → HasBlock v.lattice b → k ≤ number_of v.lattice b → HasAtHome v.shape b (cell_of b (payload b)) c

-- all were gone through
abbrev pub AreLeft : Opened → ℕ → ℕ → (BlockId → List ℕ) → Files → Type 0
AreLeft v x permille payload c = (b : BlockId) → HasBlock v.lattice b → HasAtHome v.shape b (cell_by v.lattice x permille payload b) c
