-- What stops leave of a ledger file that is being made or added to.
use Rattle.std.specs.Prelude.{◌≡◌, ◌≢◌, ◌⊎◌, ℕ, ◌+◌, ◌≤◌, List, [], ◌∷◌, ◌++◌, length}
use Rattle.aea_lattice.specs.declared.shape.Shape.{Shape}
use Rattle.aea_disk.specs.Files.{Files, ChangesOnly, overwritten}
use Rattle.aea_disk.specs.State.{State, KeepsImages}
use Rattle.aea_records.specs.Format.{Record, open_gate, header, body, spelled}
use Rattle.aea_records.specs.Grammar.{IsNext, AreRecords, IsLedger}
use Rattle.aea_records.specs.Faults.{HasOpenHeader, IsNoArchive}

-- the ledger without records: the header, and a gate that is not open
abbrev pub empty_ledger : Shape → List ℕ
empty_ledger shape = header shape ++ 0 ∷ []

-- there is no archive, or the empty one of this shape
abbrev pub IsNoneOrEmpty : Shape → List ℕ → Type 0
IsNoneOrEmpty shape bytes = IsNoArchive bytes ⊎ (bytes ≡ empty_ledger shape)

-- What may be left of a ledger file by a stop while an archive of this shape is being made: an archive that was there
-- stays byte for byte, and where there was none, there is none or the empty one.
pub record IsBeingMade (shape : Shape) (old new : List ℕ) : Type 0 where
  pub occupied : HasOpenHeader old → new ≡ old
  pub free : IsNoArchive old → IsNoneOrEmpty shape new

-- the same of a disk's files: no other file changes
pub record MakesArchive (shape : Shape) (old new : Files) : Type 0 where
  pub ledger : IsBeingMade shape (old 0) (new 0)
  pub others : ChangesOnly 0 old new

-- The file with bytes written past the gate at this place, and then the gate opened. Everything else stays.
abbrev pub committed : List ℕ → ℕ → List ℕ → List ℕ
committed file end behind = overwritten (overwritten file (end + 1) behind) end (open_gate ∷ [])

-- what follows the gate of the last record, whose body is in two pieces: the body, and a gate that is not open
abbrev pub closed : List ℕ → List ℕ → List ℕ
closed front rest = front ++ (rest ++ 0 ∷ [])

-- The file has these records, whatever follows its ending gate.
abbrev pub HasLedger : Shape → List Record → List ℕ → Type 0
HasLedger shape records bytes = IsLedger bytes shape records (length (spelled shape records))

-- the old records, or those with one more
abbrev pub HasOldOrNew : Shape → List Record → Record → List ℕ → Type 0
HasOldOrNew shape records r bytes = HasLedger shape records bytes ⊎ HasLedger shape (records ++ r ∷ []) bytes

-- To the ledger with these records, which ends at this place, the record is added by these bytes after its ending gate:
-- it may follow, and the bytes are its body and a gate that is not open.
pub record IsAdded (shape : Shape) (records : List Record) (r : Record) (old : List ℕ) (end : ℕ) (behind : List ℕ) : Type 0 where
  pub ledger : IsLedger old shape records end
  pub next : IsNext shape records r
  pub bytes : behind ≡ body r ++ 0 ∷ []

-- The body is staged: it follows the closed gate that ends the ledger, and a closed gate follows it.
pub record IsStaged (shape : Shape) (records : List Record) (r : Record) (bytes : List ℕ) (end : ℕ) : Type 0 where
  pub valid : AreRecords shape records
  pub next : IsNext shape records r
  pub gate : ℕ
  pub closed : gate ≢ open_gate
  pub more : List ℕ
  pub spelling : bytes ≡ spelled shape records ++ gate ∷ (body r ++ 0 ∷ more)
  pub place : end ≡ length (spelled shape records)

-- Of a call that begins with a sync. At some moment of the call it has succeeded: up to then the images are those at the
-- entry, at that moment each has every file as it read at the entry, and from then on each has the fact.
pub record IsOpened (old new : State) (P : Files → Type 0) : Type 0 where
  pub moment : ℕ
  pub from : old.moment ≤ moment
  pub to : moment ≤ new.moment
  pub before : (t : ℕ) (c : Files) → old.moment ≤ t → t ≤ moment → new.image t c → old.image old.moment c
  pub sure : (c : Files) → new.image moment c → (f : ℕ) → c f ≡ old.files f
  pub later : (t : ℕ) (c : Files) → moment ≤ t → t ≤ new.moment → new.image t c → P c

-- The sync failed, and all images are those at the entry; or it has succeeded.
abbrev pub HasOpening : State → State → (Files → Type 0) → Type 0
HasOpening old new P = KeepsImages old new ⊎ IsOpened old new P

-- every file is as it was
abbrev pub StaysAll : Files → Files → Type 0
StaysAll old new = (f : ℕ) → new f ≡ old f
