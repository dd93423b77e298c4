-- “Repair”: what a repair of an archive leaves on the disk. The blocks that were intact when it began are given by a test.
use Rattle.std.specs.Prelude.{◌≡◌, ◌⊎◌, ℕ, Bool, List, Result, Err, MatchResult, IsOk}
use Rattle.aea_lattice.specs.declared.blocks.BlockId.{BlockId}
use Rattle.aea_lattice.specs.Blocks.{HasBlock}
use Rattle.aea_lattice.specs.Data.{value_of, Determines}
use Rattle.aea_disk.specs.Files.{Files}
use Rattle.aea_disk.specs.State.{State}
use Rattle.aea_records.specs.Format.{Record}
use Rattle.aea_ledger.specs.Recorded.{AreRecordsOf}
use Rattle.aea_ledger.specs.Values.{Opened, HasRecords}
use Rattle.aea_archive.specs.Blocks.{IsIntactBy}
use Rattle.aea_archive.specs.Data.{AreSurvivorsHonest, IsDamagePlain}
use Rattle.aea_restore.specs.declared.fault.RestoreFault.{RestoreFault}
use Rattle.aea_restore.specs.declared.fault.RestoreFault.TheVariants as stage
use Rattle.aea_restore.specs.Laws.{IsRestorable}
use Rattle.aea_shelf.specs.Intact.{payload_at}
use Rattle.aea_restore.specs.Drawn.{IsClash}
use Rattle.aea_restore.specs.Repairs.{IsLeft, WritesBlocks, IsRepaired, IsPartlyRepaired, IsStopped}
use Rattle.aea_repair.specs.declared.fault.RepairFault.{RepairFault}
use Rattle.aea_repair.specs.declared.fault.RepairFault.TheVariants.{Clash, DiskFault, WriteFault, NoMemory}

-- the fault of a repair whose writing stage has this one
abbrev pub fault_of : RestoreFault → RepairFault
fault_of (stage.Clash b revealed computed) = Clash b revealed computed
fault_of stage.DiskFault = DiskFault

-- What each fault says of the files before and after it: after a clash each restorable block is intact or as before; after a
-- fault of the disk so is each but the one whose write failed; where the output failed all is restored; and without memory
-- nothing was written.
abbrev pub LeavesAt : Opened → (BlockId → Type 0) → Files → Files → RepairFault → Type 0
LeavesAt v mends old new (Clash b revealed computed) = IsPartlyRepaired v mends old new
LeavesAt v mends old new DiskFault = IsStopped v mends old new
LeavesAt v mends old new WriteFault = IsRepaired v mends old new
LeavesAt v mends old new NoMemory = new ≡ old

-- what each result says of them
abbrev pub Leaves : {T : Type 0} → Opened → (BlockId → Type 0) → Files → Files → Result T RepairFault → Type 0
Leaves v mends old new result = MatchResult result (λ _. IsRepaired v mends old new) (LeavesAt v mends old new)

-- all that can be restored was written and synced: the result is Ok, or the output failed after that
abbrev pub IsWritten : {T : Type 0} → Result T RepairFault → Type 0
IsWritten result = IsOk result ⊎ (result ≡ Err WriteFault)

-- What a call that repairs leaves of the files, where the known blocks are exactly those that were intact when it began:
pub record Restores {T : Type 0} (v : Opened) (known : BlockId → Bool) (old new : Files) (result : Result T RepairFault) : Type 0 where
  -- what holds of the blocks that are damaged and determined, and of all others
  pub left : Leaves v (IsRestorable v.lattice known) old new result
  -- Once all is written, each block that the known ones determine is intact; and where the damage was plain, no other is.
  pub determined : IsWritten result → (b : BlockId) → HasBlock v.lattice b → Determines v.lattice known b → IsIntactBy v.shape v.digests new b
  pub plain : IsWritten result → IsDamagePlain v.shape v.lattice v.digests old → (b : BlockId) → HasBlock v.lattice b → IsIntactBy v.shape v.digests new b → Determines v.lattice known b
  -- For each data list that the ledger records, and for which the known blocks are honest, the determined blocks have the
  -- payloads of its lattice.
  pub honest : IsWritten result → (records : List Record) (datas : List (List ℕ)) → HasRecords v records → AreRecordsOf v.shape records datas
      → AreSurvivorsHonest v.shape v.lattice v.digests datas old
      → (b : BlockId) → HasBlock v.lattice b → Determines v.lattice known b → payload_at v.shape new b ≡ value_of v.lattice v.shape.block datas b
  -- A clash is one of a block that could be restored: a sum of known blocks, which is this block in every lattice, has another
  -- digest than the ledger keeps.
  pub clash : (b : BlockId) (revealed computed : List ℕ) → result ≡ Err (Clash b revealed computed) → IsRestorable v.lattice known b × IsClash v known old b revealed computed

-- Of such a call, with the disk before and after it: that, and at every moment, in every image, the homes of all other
-- blocks, and each file but those of the sites.
pub record Repairs {T : Type 0} (reveals : Type 0) (v : Opened) (known : BlockId → Bool) (old new : State) (result : Result T RepairFault) : Type 0 where
  pub restores : Restores v known old.files new.files result
  pub alone : WritesBlocks reveals v (IsLeft (IsRestorable v.lattice known)) (result ≡ Err DiskFault) old new
