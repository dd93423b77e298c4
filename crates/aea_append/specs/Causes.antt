-- The causes of what `put` returns, in the order in which they are met.
use Rattle.std.specs.Prelude.{◌≡◌, ◌≢◌, ◌⊎◌, ◌≤◌, ℕ, ◌+◌, ◌*◌, List, length, Option, None, Result, Err}
use Rattle.std.specs.FinMap.{get, len}
use Rattle.aea_lattice.specs.declared.blocks.BlockId.{BlockId}
use Rattle.aea_disk.specs.Files.{Files}
use Rattle.aea_disk.specs.State.{State}
use Rattle.aea_catalog.specs.Names.{IsName}
use Rattle.aea_records.specs.Format.{greatest_objects, nodes_for, limit_when}
use Rattle.aea_ledger.specs.Taking.{FitsAdding}
use Rattle.aea_ledger.specs.Values.{Opened}
use Rattle.aea_archive.specs.Cells.{FitsRows}
use Rattle.aea_archive.specs.Lasts.{IsDamagedLast, AreLastsIntact}
use Rattle.aea_archive.specs.Next.{NewObject}
use Rattle.aea_append.specs.Puts.{IsWanted}
use Rattle.aea_append.specs.declared.fault.PutFault.{PutFault}
use Rattle.aea_append.specs.declared.fault.PutFault.TheVariants.{BadName, NameTaken, CatalogFull, HeadDamaged, DiskFault, NoMemory}

-- an object has the name
abbrev pub IsTaken : Opened → List ℕ → Type 0
IsTaken v name = get v.objects name ≢ None

-- the name is one, no object has it, and there are not the most objects
pub record MayEnter (v : Opened) (name : List ℕ) : Type 0 where
  pub named : IsName name
  pub free : get v.objects name ≡ None
  pub few : len v.objects ≢ greatest_objects

-- a refusal before the source is read
abbrev pub IsEarly : {T : Type 0} → Result T PutFault → Type 0
IsEarly result = (result ≡ Err BadName) ⊎ ((result ≡ Err NameTaken) ⊎ (result ≡ Err CatalogFull))

-- a fault of the disk, or lack of memory
abbrev pub IsOutside : {T : Type 0} → Result T PutFault → Type 0
IsOutside result = (result ≡ Err DiskFault) ⊎ (result ≡ Err NoMemory)

-- some last parity is damaged, but for a fault of the disk and lack of memory
abbrev pub IsHeadRefused : {T : Type 0} → Result T PutFault → Type 0
IsHeadRefused result = ((b : BlockId) × (result ≡ Err (HeadDamaged b))) ⊎ IsOutside result

-- where a ledger that ends at this place ends with one more record: that of a name of so many bytes and so many digests
abbrev pub next_end : ℕ → ℕ → ℕ → ℕ
next_end end long digests = end + 56 + long + 32 * digests

-- the ledger has space for the record of an object of so many bytes under this name, where it may enter, every last parity is
-- intact, and its nodes fit
abbrev pub HasRecordRoom : Opened → List ℕ → ℕ → State → Type 0
HasRecordRoom v name size s =
    MayEnter v name → AreLastsIntact v.shape v.lattice v.digests s.files → v.lattice.n + nodes_for v.shape size ≤ limit_when v.raised
    → FitsAdding s 1 (next_end v.end (length name) (nodes_for v.shape size * (1 + v.shape.alpha)))

-- The disk has space for all that may be written for what is wanted of a source: for the rows of the sites, and for the record
-- of each object that can have been given whole.
pub record HasWantedRoom (v : Opened) (name : List ℕ) (want : Option ℕ) (left rest : Option (List ℕ)) (s : State) : Type 0 where
  pub sites : FitsRows v.shape (limit_when v.raised) s
  pub ledger : (o : NewObject) → IsWanted want name left rest o → HasRecordRoom v name (length o.bytes) s

-- the same where all that a source has is wanted
abbrev pub HasPutRoom : Opened → List ℕ → Option (List ℕ) → Option (List ℕ) → State → Type 0
HasPutRoom v name left rest s = HasWantedRoom v name None left rest s

-- a reason for a refusal before the source is read: the object may not enter, or a last parity is damaged
abbrev pub HasEarlyReason : Opened → List ℕ → Files → Type 0
HasEarlyReason v name files = (MayEnter v name → ⊥) ⊎ ((a : BlockId) × IsDamagedLast v.shape v.lattice v.digests files a)
