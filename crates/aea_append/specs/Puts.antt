-- What is left where an object was stored, and what may be left where the disk failed.
use Rattle.std.specs.Prelude.{◌≡◌, ◌≢◌, ◌⊎◌, ◌≤◌, ℕ, ◌+◌, max, List, [], ◌∷◌, ◌++◌, length, Option, None, Some, true, All}
use Rattle.std.specs.List.{flat_map, sum_by}
use Rattle.std.specs.Io.KnownBytes.{Consumes, IsAtEnd}
use Rattle.sha2.specs.Sha256.{sha256}
use Rattle.aea_lattice.specs.declared.blocks.BlockId.{BlockId}
use Rattle.aea_lattice.specs.declared.grid.Lattice.{Lattice}
use Rattle.aea_disk.specs.State.{State, During}
use Rattle.aea_records.specs.Format.{Stored as StoredRecord, Record, Object, nodes_for, body, entry}
use Rattle.aea_records.specs.Grammar.{AreRecords}
use Rattle.aea_ledger.specs.Values.{Opened, HasRecords, IsThisOne}
use Rattle.aea_ledger.specs.Next.{AreItsRecords}
use Rattle.aea_ledger.specs.Recorded.{AreRecordsOf}
use Rattle.aea_ledger.specs.Stops.{committed}
use Rattle.aea_lattice.specs.declared.shape.Shape.{Shape}
use Rattle.aea_records.specs.TableLaws.{AreBytes}
use Rattle.aea_archive.specs.Blocks.{IsBlockOn}
use Rattle.aea_archive.specs.Cells.{AreAtHome}
use Rattle.aea_archive.specs.Lasts.{IsLastParity, AreLastsRecorded, AreLastsAtHome, AreLastsHonest}
use Rattle.aea_archive.specs.Next.{NewObject, object_blocks, IsNextStored, AreNextRecords}
use Rattle.aea_archive.specs.Stretches.{Adds, HasAdded}
use Rattle.aea_archive.specs.Data.{AreSurvivorsHonest, IsDamagePlain, RecordsMore}
use Rattle.aea_append.specs.declared.store.Stored.{Stored}

-- the payloads of the last parities are of a block's size
abbrev pub AreLastsWide : Shape → Lattice → (BlockId → List ℕ) → Type 0
AreLastsWide shape l payload = (b : BlockId) → IsLastParity l b → length (payload b) ≡ shape.block

-- and so are those of the blocks of these nodes
abbrev pub AreBlocksWide : Shape → ℕ → ℕ → (BlockId → List ℕ) → Type 0
AreBlocksWide shape before last payload = (b : BlockId) → IsBlockOn shape before last b → length (payload b) ≡ shape.block

-- The object was stored: with which payloads of its blocks, and by which record.
pub record HasStored (reveals : Type 0) (v w : Opened) (o : NewObject) (old new : State) (stored : Stored) : Type 0 where
  -- what is returned to the caller
  pub count : stored.nodes ≡ nodes_for v.shape (length o.bytes)
  pub size : stored.length ≡ length o.bytes
  pub digest : stored.digest ≡ sha256 o.bytes
  -- the payloads: of the last parities as they are recorded and are at their homes, of the new blocks as they are woven
  pub payload : BlockId → List ℕ
  pub lasts : AreLastsRecorded v.shape v.lattice v.digests payload
  pub homes : reveals → AreLastsAtHome v.shape v.lattice payload old.files
  pub lasts_wide : AreLastsWide v.shape v.lattice payload
  pub wide : AreBlocksWide v.shape v.lattice.n w.lattice.n payload
  pub bytes : AreBytes o.bytes
  pub r : StoredRecord
  pub next : IsNextStored v.shape v.lattice w.lattice payload o.name o.bytes r
  -- the opened ledger has the record after those that it had
  pub value : (records : List Record) → HasRecords v records → HasRecords w (records ++ Object r ∷ [])
  pub live : w.live ≡ true
  pub same_shape : w.shape ≡ v.shape
  pub this_one : reveals → IsThisOne w (new.files 0)
  -- the disk: what each image of each moment has, and what is there in the end
  pub adds : reveals → (records : List Record) → AreItsRecords v records (old.files 0) → Adds v.shape records (Object r ∷ []) payload old new
  pub added : reveals → (records : List Record) → AreItsRecords v records (old.files 0) → HasAdded v.shape records (Object r ∷ []) new
  -- the ledger's file is the old one, byte for byte, with the body of the record and a closed gate written after its ending
  -- gate, and that gate opened
  pub exactly : reveals → new.files 0 ≡ committed (old.files 0) v.end (body (Object r) ++ 0 ∷ [])
  -- the cells of the new blocks, as the disk reads
  pub cells : reveals → AreAtHome v.shape v.lattice.n w.lattice.n payload new.files
  -- each data list that was recorded, and for which the last parities are honest, is recorded with the object's blocks
  pub records_more : reveals → (records : List Record) (datas : List (List ℕ)) → HasRecords v records
      → AreRecordsOf v.shape records datas → AreLastsHonest v.shape v.lattice v.digests datas old.files
      → RecordsMore v.shape records (Object r ∷ []) datas (object_blocks v.shape o.bytes) v.lattice w.lattice payload
  -- survivors that are honest, in plain damage, are so afterwards
  pub honest : reveals → (records : List Record) (datas : List (List ℕ)) → HasRecords v records → AreRecordsOf v.shape records datas
      → AreSurvivorsHonest v.shape v.lattice v.digests datas old.files → IsDamagePlain v.shape v.lattice v.digests old.files
      → AreSurvivorsHonest w.shape w.lattice w.digests (datas ++ object_blocks v.shape o.bytes) new.files
      × IsDamagePlain w.shape w.lattice w.digests new.files

-- The object is the one under this name with all that the source had.
pub record IsWhole (name : List ℕ) (left rest : Option (List ℕ)) (o : NewObject) : Type 0 where
  pub name_is : o.name ≡ name
  pub taken : Consumes left rest o.bytes
  pub end : IsAtEnd rest

-- The object is the one under this name with so many bytes that the source began with.
pub record IsCut (name : List ℕ) (want : ℕ) (left rest : Option (List ℕ)) (o : NewObject) : Type 0 where
  pub name_is : o.name ≡ name
  pub taken : Consumes left rest o.bytes
  pub long : length o.bytes ≡ want

-- the object is the one under this name with what was wanted: a number of bytes, or all that the source had
abbrev pub IsWanted : Option ℕ → List ℕ → Option (List ℕ) → Option (List ℕ) → NewObject → Type 0
IsWanted None name left rest o = IsWhole name left rest o
IsWanted (Some want) name left rest o = IsCut name want left rest o

-- what was wanted of the source was stored under the name
abbrev pub HasKept : Type 0 → Opened → Opened → List ℕ → Option ℕ → Option (List ℕ) → Option (List ℕ) → State → State → Stored → Type 0
HasKept reveals v w name want left rest old new stored = (o : NewObject) × IsWanted want name left rest o × HasStored reveals v w o old new stored

-- all that the source had was stored under the name
abbrev pub HasPut : Type 0 → Opened → Opened → List ℕ → Option (List ℕ) → Option (List ℕ) → State → State → Stored → Type 0
HasPut reveals v w name left rest old new stored = (o : NewObject) × IsWhole name left rest o × HasStored reveals v w o old new stored

-- The disk failed: the archive is the one before, or that with an object of which the fact holds.
pub record MayHaveStored (v : Opened) (Fits : NewObject → Type 0) (old new : State) : Type 0 where
  pub objects : List NewObject
  pub most : (objects ≡ []) ⊎ ((o : NewObject) × Fits o × (objects ≡ o ∷ []))
  pub payload : BlockId → List ℕ
  pub homes : objects ≢ [] → AreLastsAtHome v.shape v.lattice payload old.files
  pub lasts_wide : objects ≢ [] → AreLastsWide v.shape v.lattice payload
  pub bytes : All (λ o. AreBytes o.bytes) objects
  pub added : List Record
  pub lattice : Lattice
  pub next : AreNextRecords v.shape v.lattice lattice payload objects added
  pub adds : (records : List Record) → AreItsRecords v records (old.files 0) → Adds v.shape records added payload old new
  -- where the ledger has the record, each data list that was recorded, and for which the last parities are honest, is recorded with
  -- the object's blocks
  pub records_more : (records : List Record) (datas : List (List ℕ)) → HasRecords v records → AreRecords v.shape (records ++ added)
      → AreRecordsOf v.shape records datas → AreLastsHonest v.shape v.lattice v.digests datas old.files
      → RecordsMore v.shape records added datas (flat_map (λ o. object_blocks v.shape o.bytes) objects) v.lattice lattice payload
  -- no write went past the gate that would end the new ledger
  pub long : length (new.files 0) ≤ max (length (old.files 0)) (v.end + sum_by (λ r. length (entry r)) added + 1)

-- The ledger file stays: each image of each moment has it as it was, and it reads so.
pub record LeavesLedger (old new : State) : Type 0 where
  pub images : During old new (λ c. c 0 ≡ old.files 0)
  pub reads : new.files 0 ≡ old.files 0
