-- “Repair”: what a call that writes restored blocks leaves on the disk. Which blocks it restores is given by a test of
-- their own, `mends`.
use Rattle.std.specs.Prelude.{◌≡◌, ◌≢◌, ◌⊎◌, Result, Ok, Err, IsTrue}
use Rattle.aea_lattice.specs.declared.blocks.BlockId.{BlockId}
use Rattle.aea_lattice.specs.declared.grid.Lattice.{Lattice}
use Rattle.aea_lattice.specs.Blocks.{HasBlock}
use Rattle.aea_disk.specs.Files.{Files}
use Rattle.aea_disk.specs.State.{State}
use Rattle.aea_shelf.specs.Places.{home_file, padded_home}
use Rattle.aea_shelf.specs.Writes.{KeepsHomes, KeepsPadded}
use Rattle.aea_view.specs.Marked.{Marked, is_marked}
use Rattle.aea_ledger.specs.Values.{Opened}
use Rattle.aea_archive.specs.Blocks.{IsIntactBy}
use Rattle.aea_archive.specs.Cells.{WritesCells}
use Rattle.aea_restore.specs.declared.fault.RestoreFault.{RestoreFault}
use Rattle.aea_restore.specs.declared.fault.RestoreFault.TheVariants.{Clash, DiskFault}

-- what a call that restores returns
abbrev pub Answer : Type 0
Answer = Result (Unit {0}) RestoreFault

-- Each block that is not restored is left alone: the known ones, the lost ones, and those past the lattice.
abbrev pub IsLeft : (BlockId → Type 0) → BlockId → Type 0
IsLeft mends b = mends b → ⊥

-- cells of the archive's nodes were written, none of these blocks
abbrev pub WritesBlocks : Type 0 → Opened → (BlockId → Type 0) → Type 0 → State → State → Type 0
WritesBlocks reveals v keep fault old new = WritesCells reveals v.shape v.lattice.n keep fault old new

-- What holds when all is written: each block that is restored is intact, and each that is left alone reads as before,
-- with zeros past the end of its file, where the file may have grown.
pub record IsRepaired (v : Opened) (mends : BlockId → Type 0) (old new : Files) : Type 0 where
  pub grown : KeepsPadded v.shape (IsLeft mends) old new
  pub restored : (b : BlockId) → mends b → IsIntactBy v.shape v.digests new b

-- the block is intact, or its home reads as before, with zeros past the end of its file
abbrev pub IsIntactOrAsBefore : Opened → Files → Files → BlockId → Type 0
IsIntactOrAsBefore v old new b = IsIntactBy v.shape v.digests new b ⊎ (padded_home v.shape b new ≡ padded_home v.shape b old)

-- What holds where the writing has stopped before a write: each block that is restored is intact or as before.
pub record IsPartlyRepaired (v : Opened) (mends : BlockId → Type 0) (old new : Files) : Type 0 where
  pub grown : KeepsPadded v.shape (IsLeft mends) old new
  pub restored : (b : BlockId) → mends b → IsIntactOrAsBefore v old new b

-- What holds where a write has failed, that of the block `torn`: each other block that is restored is intact or as
-- before; but past the old end of the file of this block there may be any bytes, so that a home there has the bytes that it
-- had and no more is said of it.
pub record IsTornRepair (v : Opened) (mends : BlockId → Type 0) (torn : BlockId) (old new : Files) : Type 0 where
  pub one : mends torn
  pub grown : KeepsPadded v.shape (λ b. IsLeft mends b × (home_file v.shape b ≢ home_file v.shape torn)) old new
  pub restored : (b : BlockId) → mends b → b ≢ torn → IsIntactBy v.shape v.digests new b ⊎ KeepsHomes v.shape (λ a. a ≡ b) old new
  pub elsewhere : (b : BlockId) → mends b → home_file v.shape b ≢ home_file v.shape torn → IsIntactOrAsBefore v old new b

-- what holds after a fault of the disk
abbrev pub IsStopped : Opened → (BlockId → Type 0) → Files → Files → Type 0
IsStopped v mends old new = IsPartlyRepaired v mends old new ⊎ ((torn : BlockId) × IsTornRepair v mends torn old new)

-- what each result says of the files before and after it
abbrev pub Leaves : Opened → (BlockId → Type 0) → Files → Files → Answer → Type 0
Leaves v mends old new (Ok done) = IsRepaired v mends old new
Leaves v mends old new (Err (Clash b revealed computed)) = IsPartlyRepaired v mends old new
Leaves v mends old new (Err DiskFault) = IsStopped v mends old new

-- What marks have more than others: those stay, and what is marked newly is restored.
pub record MarksSome (l : Lattice) (mends : BlockId → Type 0) (old new : Marked) : Type 0 where
  pub stay : (b : BlockId) → HasBlock l b → IsTrue (is_marked old b) → IsTrue (is_marked new b)
  pub more : (b : BlockId) → HasBlock l b → IsTrue (is_marked new b) → IsTrue (is_marked old b) ⊎ mends b

-- The marks afterwards: those before, and all blocks that are restored, or, after a fault, none or some or all of them.
abbrev pub MarksMore : Lattice → (BlockId → Type 0) → Marked → Marked → Answer → Type 0
MarksMore l mends old new (Ok done) = MarksSome l mends old new × ((b : BlockId) → mends b → IsTrue (is_marked new b))
MarksMore l mends old new (Err fault) = MarksSome l mends old new
