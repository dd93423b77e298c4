-- What is read of a ledger, record by record.
use Rattle.std.specs.Prelude.{◌≡◌, ◌≤◌, ◌+◌, ◌*◌, ℕ, List, ◌++◌, length, take, drop}
use Rattle.std.specs.List.{list_any}
use Rattle.sha2.specs.Hashers.{Holds256}
use Rattle.aea_catalog.specs.declared.objects.Extent.{Extent}
use Rattle.aea_records.specs.TableLaws.{AreBytes}
use Rattle.aea_records.specs.Format.{Record, is_raise, nodes_of, fences_of, digests_of, spelled}
use Rattle.aea_records.specs.Known.{known_of}
use Rattle.aea_records.specs.Fields.{pieces, extents}
use Rattle.aea_records.specs.Grammar.{AreRecords, IsLedger}
use Rattle.aea_records.specs.Faults.{IsBadAt}
use Rattle.aea_records.specs.Catalogued.{objects_of}
use Rattle.aea_records.specs.Reads.{found_at, head_end, IsSmall, GoesOn, IsHead}
use Rattle.aea_records.specs.declared.heads.Found.{Found}
use Rattle.aea_ledger.specs.Recorded.{IsLatticeOf}
use Rattle.aea_ledger.specs.Reads.{IsAhead}
use Rattle.aea_ledger.specs.declared.open.OpenFault.{OpenFault}
use Rattle.aea_ledger.specs.declared.open.OpenFault.TheVariants.{NoArchive, LedgerBad, DiskFault, NoMemory}
use Rattle.aea_ledger.specs.declared.input.Input.{Input}
use Rattle.aea_ledger.specs.declared.reader.Reader.{Reader}

-- The fault is of the disk, or of memory, and none of the ledger's bytes.
abbrev pub IsOutside : OpenFault → Type 0
IsOutside NoArchive = ⊥
IsOutside (LedgerBad at) = ⊥
IsOutside DiskFault = Unit {0}
IsOutside NoMemory = Unit {0}

-- If the fault says that the ledger is bad at a place, it is.
abbrev pub IsBadAsSaid : List ℕ → OpenFault → Type 0
IsBadAsSaid file NoArchive = ⊥
IsBadAsSaid file (LedgerBad at) = IsBadAt file at
IsBadAsSaid file DiskFault = Unit {0}
IsBadAsSaid file NoMemory = Unit {0}

-- The input went on over these bytes, which are those of the file at its place, where its contents are known.
pub record HasPassed (reveals : Type 0) (file : List ℕ) (old new : Input) (text : List ℕ) : Type 0 where
  pub are : AreBytes text
  pub holds : (message : List ℕ) → Holds256 old.hasher message → Holds256 new.hasher (message ++ text)
  pub place : new.cursor.place ≡ old.cursor.place + length text
  pub ahead : reveals → IsAhead new.cursor file
  pub bytes : reveals → drop old.cursor.place file ≡ text ++ drop new.cursor.place file

-- The input went on over so many digests, which were put after others.
pub record HasDigests (reveals : Type 0) (file : List ℕ) (old new : Input) (count : ℕ) (before after : List (List ℕ)) : Type 0 where
  pub text : List ℕ
  pub long : length text ≡ 32 * count
  pub passed : HasPassed reveals file old new text
  pub digests : after ≡ before ++ pieces 32 count text

-- The input went on over so many parts, which were put after others.
pub record HasParts (reveals : Type 0) (file : List ℕ) (old new : Input) (count : ℕ) (before after : List Extent) : Type 0 where
  pub text : List ℕ
  pub long : length text ≡ 8 * count
  pub passed : HasPassed reveals file old new text
  pub parts : after ≡ before ++ extents count text

-- The reader has read these records, and is at the gate after them.
pub record HasRead (r : Reader) (records : List Record) : Type 0 where
  pub valid : AreRecords r.shape records
  pub lattice : IsLatticeOf r.shape (nodes_of records) (fences_of records) r.lattice
  pub objects : r.catalog.objects ≡ objects_of records
  pub raised : r.raised ≡ list_any is_raise records
  pub digests : r.digests.items ≡ digests_of records
  pub holds : Holds256 r.input.hasher (spelled r.shape records)
  pub place : r.input.cursor.place ≡ length (spelled r.shape records)

-- the records are those of the file
pub record AreIn (r : Reader) (records : List Record) (file : List ℕ) : Type 0 where
  pub long : 18 ≤ length file
  pub spelling : file ≡ spelled r.shape records ++ drop r.input.cursor.place file
  pub ahead : IsAhead r.input.cursor file

-- The reader has read some records; they are those of the file, where its contents are known.
pub record IsReading (reveals : Type 0) (file : List ℕ) (r : Reader) : Type 0 where
  pub records : List Record
  pub read : HasRead r records
  pub revealed : reveals → AreIn r records file

-- The reader has read all records; they are those of the file, where its contents are known.
pub record IsWhole (reveals : Type 0) (file : List ℕ) (r : Reader) : Type 0 where
  pub records : List Record
  pub read : HasRead r records
  pub revealed : reveals → IsLedger file r.shape records r.input.cursor.place

-- The reader has read some records, and at its place are an open gate and a head, which its window has whole.
pub record IsAtHead (reveals : Type 0) (file : List ℕ) (r : Reader) (found : Found) : Type 0 where
  pub records : List Record
  pub read : HasRead r records
  pub revealed : reveals → AreIn r records file
  pub stands : IsHead r.shape (known_of records) (take 315 r.input.cursor.bytes) (found_at (take 315 r.input.cursor.bytes) found) (head_end found.fields)
  pub within : head_end found.fields ≤ length r.input.cursor.bytes
  pub small : IsSmall found.fields
  pub goes : GoesOn r.lattice found.fields
  pub window : reveals → take 315 r.input.cursor.bytes ≡ take 315 (drop r.input.cursor.place file)
