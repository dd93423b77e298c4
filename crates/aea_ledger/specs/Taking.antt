-- What of a ledger's calls a disk takes, and what it has space for.
use Rattle.std.specs.Prelude.{◌≡◌, ◌≤◌, ℕ, ◌+◌, List, length, take}
use Rattle.aea_lattice.specs.declared.shape.Shape.{Shape}
use Rattle.aea_disk.specs.Ends.{EndsAt}
use Rattle.aea_disk.specs.Files.{overwritten}
use Rattle.aea_disk.specs.State.{State, TakesFrom, HasRoomTo}
use Rattle.aea_records.specs.Format.{Record}
use Rattle.aea_ledger.specs.Stops.{empty_ledger, committed}

-- A ledger's records end at this place by its gates and the lengths after these alone, and as many are counted there as it
-- has.
pub record LedgerEnds (bytes : List ℕ) (records : List Record) (end : ℕ) : Type 0 where
  pub ends : EndsAt bytes end
  pub count : ends.records ≡ length records

-- the disk takes a write of these bytes, and then a sync
pub record TakesThrough (s : State) (at : ℕ) (bytes : List ℕ) : Type 0 where
  pub here : TakesFrom s 0 at
  pub then : (a : ℕ) × s.takes 0 (overwritten (s.files 0) at bytes) a

-- it has space for so many bytes of the ledger file, and to sync these
pub record FitsTo (s : State) (end : ℕ) (bytes : List ℕ) : Type 0 where
  pub room : HasRoomTo s 0 end
  pub sync : s.keeps bytes

-- it has space for a write of these bytes, and for a sync of what it leaves
abbrev pub FitsThrough : State → ℕ → List ℕ → Type 0
FitsThrough s at bytes = FitsTo s (at + length bytes) (overwritten (s.files 0) at bytes)

-- it has the space to make an empty ledger of this shape
pub record FitsMaking (s : State) (shape : Shape) : Type 0 where
  pub room : HasRoomTo s 0 18
  pub now : s.keeps (s.files 0)
  pub made : s.keeps (empty_ledger shape)

-- it has the space to commit these bytes past the gate at `end`
pub record FitsCommit (s : State) (end : ℕ) (behind : List ℕ) : Type 0 where
  pub room : HasRoomTo s 0 (end + 1 + length behind)
  pub body : s.keeps (overwritten (s.files 0) (end + 1) behind)
  pub done : s.keeps (committed (s.files 0) end behind)

-- It has space for so many records more, which then end at this place: for their bytes and the gate, and to sync the ledger
-- as it is and with them.
pub record FitsAdding (s : State) (more end : ℕ) : Type 0 where
  pub room : HasRoomTo s 0 (end + 1)
  pub now : s.keeps (s.files 0)
  pub then : (bytes : List ℕ) (last : ℕ) (one : EndsAt (s.files 0) last) (two : EndsAt bytes end) → two.records ≡ one.records + more → s.keeps bytes

-- Whatever lies past some place at or before this one, the disk takes writes from there on, and syncs.
pub record TakesBehind (s : State) (at : ℕ) : Type 0 where
  pub from : ℕ
  pub before : from ≤ at
  pub there : from ≤ length (s.files 0)
  pub behind : (bytes : List ℕ) → from ≤ length bytes → take from bytes ≡ take from (s.files 0) → s.takes 0 bytes from

-- The disk takes a commit of these bytes past the gate at `end`: their writes, that of the gate, and both syncs.
pub record TakesCommit (s : State) (end : ℕ) (behind : List ℕ) : Type 0 where
  pub body : TakesBehind s (end + 1)
  pub gate : s.takes 0 (overwritten (s.files 0) (end + 1) behind) end
  pub done : (a : ℕ) × s.takes 0 (committed (s.files 0) end behind) a
