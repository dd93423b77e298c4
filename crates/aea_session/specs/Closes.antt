-- What a message leaves of the ledger: that of a close adds its record, and no other does.
use Rattle.std.specs.Prelude.{◌≡◌, ◌⊎◌, ◌≤◌, ℕ, ◌+◌, ◌*◌, max, List, [], ◌∷◌, ◌++◌, length}
use Rattle.std.specs.List.{flat_map, sum_by}
use Rattle.sha2.specs.Sha256.{sha256}
use Rattle.aea_lattice.specs.declared.blocks.BlockId.{BlockId}
use Rattle.aea_lattice.specs.declared.grid.Lattice.{Lattice}
use Rattle.aea_lattice.specs.declared.shape.Shape.{Shape}
use Rattle.aea_disk.specs.State.{State}
use Rattle.aea_records.specs.Format.{Stored, Record, Joined, body, entry, raised_limit}
use Rattle.aea_records.specs.Grammar.{AreRecords}
use Rattle.aea_ledger.specs.Values.{Opened, HasRecords}
use Rattle.aea_ledger.specs.Next.{AreItsRecords}
use Rattle.aea_ledger.specs.Recorded.{AreRecordsOf}
use Rattle.aea_ledger.specs.Stops.{committed}
use Rattle.aea_ledger.specs.Taking.{FitsAdding}
use Rattle.aea_archive.specs.Cells.{HaveSitesRoom}
use Rattle.aea_archive.specs.Stretches.{Adds, HasAdded}
use Rattle.aea_machine.specs.Closings.{Closing, closing_in, AreClosedRecords}
use Rattle.aea_machine.specs.Machine.{Machine, runs_of}
use Rattle.aea_messages.specs.declared.message.Message.TheVariants.{Close}
use Rattle.aea_append.specs.Puts.{AreBlocksWide}
use Rattle.aea_append.specs.Weaving.{IsWovenOf}
use Rattle.aea_session.specs.declared.work.Work.{Work}
use Rattle.aea_session.specs.Stands.{KeepsMachine}

-- Records of these closes, none or one, were added after those of the session's ledger, or may have been: what each image of each
-- moment has, and what each data list that was recorded then goes on with.
pub record AddsCloses (v : Work) (m : Machine) (closings : List Closing) (added : List Record) (old new : State) : Type 0 where
  pub payload : BlockId → List ℕ
  pub longer : Lattice
  pub are : AreClosedRecords v.ledger.shape v.ledger.lattice longer payload closings added
  -- the payloads of the new blocks are of a block's size
  pub wide : AreBlocksWide v.ledger.shape v.ledger.lattice.n longer.n payload
  pub adds : (records : List Record) → AreItsRecords v.ledger records (old.files 0) → Adds v.ledger.shape records added payload old new
  pub more : (records : List Record) → HasRecords v.ledger records → AreRecordsOf v.ledger.shape records m.datas
      → IsWovenOf v.ledger.shape v.ledger.lattice v.heads m.datas m.woven v.digests.items → AreRecords v.ledger.shape (records ++ added)
      → AreRecordsOf v.ledger.shape (records ++ added) (m.datas ++ flat_map (λ c. c.blocks) closings)
  -- no write went past the gate that would end the new ledger
  pub long : length (new.files 0) ≤ max (length (old.files 0)) (v.ledger.end + sum_by (λ r. length (entry r)) added + 1)

-- The close was made: its record is the one that was added, everything is synced, and the ledger's file is the old one, byte for
-- byte, with the body of the record and a closed gate written after its ending gate, and that gate opened.
pub record HasClosed (v w : Work) (m : Machine) (closings : List Closing) (old new : State) : Type 0 where
  pub r : Record
  pub adds : AddsCloses v m closings (r ∷ []) old new
  pub added : (records : List Record) → AreItsRecords v.ledger records (old.files 0) → HasAdded v.ledger.shape records (r ∷ []) new
  pub value : (records : List Record) → HasRecords v.ledger records → HasRecords w.ledger (records ++ r ∷ [])
  pub exactly : new.files 0 ≡ committed (old.files 0) v.ledger.end (body r ++ 0 ∷ [])

-- The disk failed: the archive is the one before, or that with the close.
abbrev pub MayHaveClosed : Work → Machine → List Closing → State → State → Type 0
MayHaveClosed v m closings old new =
    AddsCloses v m [] [] old new ⊎ ((r : Record) × AddsCloses v m closings (r ∷ []) old new)

-- the record of a close: its name, how many bytes it has and their SHA-256, its parts, and the number of nodes that it adds
abbrev pub IsRecordOfClose : Closing → Record → Type 0
IsRecordOfClose c r =
    (o : Stored) × (r ≡ Joined o (runs_of c.nodes)) × (o.name ≡ c.name) × (o.size ≡ length c.bytes) × (o.digest ≡ sha256 c.bytes) × (o.count ≡ length c.blocks)

-- those of these closes, in order
abbrev pub AreRecordsOfCloses : List Closing → List Record → Type 0
AreRecordsOfCloses [] [] = Unit {0}
AreRecordsOfCloses [] (r ∷ records) = ⊥
AreRecordsOfCloses (c ∷ closings) [] = ⊥
AreRecordsOfCloses (c ∷ closings) (r ∷ records) = IsRecordOfClose c r × AreRecordsOfCloses closings records

-- The ledger goes on by these closes: after the records that it had it has theirs.
pub record GoesOn (v w : Opened) (closings : List Closing) (records : List Record) : Type 0 where
  pub added : List Record
  pub are : AreRecordsOfCloses closings added
  pub has : HasRecords w (records ++ added)

-- how many bytes the entry of a close has: 60, those of the name, 8 for each part, and 32 for each digest
abbrev pub close_entry : Shape → Closing → ℕ
close_entry shape c = 60 + length c.name + 8 * length (runs_of c.nodes) + 32 * (length c.blocks * (1 + shape.alpha))

-- The disk has the space for the close of a slot: the sites for the rows of all nodes that there may be, the ledger for the record
-- of the close of one state that the session keeps, whichever it is.
pub record HasCloseRoom (v : Work) (slot : ℕ) (s : State) : Type 0 where
  pub sites : HaveSitesRoom v.ledger.shape raised_limit s
  pub sync : s.keeps (s.files 0)
  pub machine : Machine
  pub keeps : KeepsMachine v machine
  pub ledger : (c : Closing) → closing_in v.ledger.shape machine (Close slot) ≡ c ∷ [] → FitsAdding s 1 (v.ledger.end + close_entry v.ledger.shape c)
