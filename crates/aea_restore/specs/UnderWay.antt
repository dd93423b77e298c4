-- What holds while blocks are restored, described by the files at first and now, by the blocks that were known at first, and
-- by those that can be read now: the known ones and those that were restored since.
use Rattle.std.specs.Prelude.{◌≡◌, ◌≢◌, ◌||◌, Bool, false, IsTrue}
use Rattle.aea_lattice.specs.declared.blocks.BlockId.{BlockId}
use Rattle.aea_lattice.specs.Blocks.{HasBlock, same_block}
use Rattle.aea_lattice.specs.declared.grid.Lattice.{Lattice}
use Rattle.aea_disk.specs.Files.{Files}
use Rattle.aea_shelf.specs.Places.{home_file}
use Rattle.aea_shelf.specs.Writes.{KeepsHomes, KeepsPadded}
use Rattle.aea_ledger.specs.Values.{Opened}
use Rattle.aea_archive.specs.Blocks.{IsIntactBy}
use Rattle.aea_shelf.specs.Intact.{payload_at}
use Rattle.aea_restore.specs.Drawn.{IsDrawn, AreAllIntact}

-- the block was restored: it can be read, and was not known
pub record IsDone (v : Opened) (known ready : BlockId → Bool) (b : BlockId) : Type 0 where
  pub block : HasBlock v.lattice b
  pub now : IsTrue (ready b)
  pub fresh : known b ≡ false

-- The blocks that were restored are intact, and each other block reads as at first, with zeros past the end of its file.
pub record IsUnderWay (v : Opened) (known ready : BlockId → Bool) (first now : Files) : Type 0 where
  pub within : (b : BlockId) → HasBlock v.lattice b → IsTrue (known b) → IsTrue (ready b)
  pub homes : KeepsHomes v.shape (λ b. IsDone v known ready b → ⊥) first now
  pub grown : KeepsPadded v.shape (λ b. IsDone v known ready b → ⊥) first now
  pub written : (b : BlockId) → IsDone v known ready b → IsIntactBy v.shape v.digests now b

-- The same where a write has failed, that of the block `torn`: it has not been restored, and the blocks in its file, but
-- those restored, have the bytes that they had.
pub record IsTorn (v : Opened) (known ready : BlockId → Bool) (torn : BlockId) (first now : Files) : Type 0 where
  pub unready : ready torn ≡ false
  pub homes : KeepsHomes v.shape (λ b. (IsDone v known ready b → ⊥) × (b ≢ torn)) first now
  pub grown : KeepsPadded v.shape (λ b. (IsDone v known ready b → ⊥) × (home_file v.shape b ≢ home_file v.shape torn)) first now
  pub written : (b : BlockId) → IsDone v known ready b → IsIntactBy v.shape v.digests now b

-- The known blocks were intact at first, and each block that can be read is intact and has a payload that is drawn from
-- what was there at first.
pub record AreDrawn (v : Opened) (known ready : BlockId → Bool) (first now : Files) : Type 0 where
  pub known_intact : AreAllIntact v known first
  pub intact : AreAllIntact v ready now
  pub drawn : (b : BlockId) → HasBlock v.lattice b → IsTrue (ready b) → IsDrawn v known first b (payload_at v.shape now b)

-- Calls by which the blocks that can be read become more: what was under way before them is so after them,
abbrev pub GoesOn : Opened → (BlockId → Bool) → (BlockId → Bool) → Files → Files → Type 0
GoesOn v before after old new =
    (known : BlockId → Bool) (first : Files) → IsUnderWay v known before first old → IsUnderWay v known after first new

-- is torn at a block that is to be restored,
abbrev pub IsTornAfter : Opened → (BlockId → Type 0) → (BlockId → Bool) → (BlockId → Bool) → Files → Files → Type 0
IsTornAfter v mends before after old new =
    (known : BlockId → Bool) (first : Files) → IsUnderWay v known before first old
    → (torn : BlockId) × mends torn × IsTorn v known after torn first new

-- and payloads that were drawn are so.
abbrev pub StaysDrawn : Opened → (BlockId → Bool) → (BlockId → Bool) → Files → Files → Type 0
StaysDrawn v before after old new =
    (known : BlockId → Bool) (first : Files) → AreDrawn v known before first old → AreDrawn v known after first new

-- the second marks have this block and those of the first
abbrev pub AddsBlock : Lattice → BlockId → (BlockId → Bool) → (BlockId → Bool) → Type 0
AddsBlock l b before after = (d : BlockId) → HasBlock l d → after d ≡ (before d || same_block d b)
