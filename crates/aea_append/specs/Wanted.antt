-- What is left where what was wanted of a source was to be stored, by how that ended.
use Rattle.std.specs.Prelude.{◌≡◌, ◌<◌, ◌≤◌, ℕ, ◌+◌, ◌*◌, max, List, length, Option, None, Some, Result, Ok, Err, false}
use Rattle.aea_lattice.specs.declared.blocks.BlockId.{BlockId}
use Rattle.aea_disk.specs.State.{State}
use Rattle.aea_disk.specs.Frames.{OnlyReads}
use Rattle.aea_shelf.specs.Writes.{KeepsPadded}
use Rattle.aea_records.specs.Format.{nodes_for, limit_when}
use Rattle.aea_ledger.specs.Values.{Opened}
use Rattle.aea_archive.specs.Blocks.{IsBlockIn}
use Rattle.aea_archive.specs.Lasts.{IsLastParity, IsFirstDamagedLast, AreLastsIntact}
use Rattle.aea_append.specs.declared.fault.PutFault.{PutFault}
use Rattle.aea_append.specs.declared.fault.PutFault.TheVariants.{HeadDamaged, Full, ReadFault, DiskFault, NoMemory}
use Rattle.aea_append.specs.declared.store.Stored.{Stored}
use Rattle.aea_append.specs.Taking.{room_left, IsOver, HasEnded}
use Rattle.aea_append.specs.Puts.{IsWanted, HasKept, MayHaveStored, LeavesLedger}
use Rattle.aea_append.specs.Causes.{next_end}

-- each home of the archive's blocks reads with zeros past the end of its file as it did
abbrev pub KeepsHomes : Type 0 → Opened → State → State → Type 0
KeepsHomes reveals v old new = reveals → KeepsPadded v.shape (IsBlockIn v.shape v.lattice.n) old.files new.files

-- every last parity was intact
abbrev pub HadHeads : Type 0 → Opened → State → Type 0
HadHeads reveals v old = reveals → AreLastsIntact v.shape v.lattice v.digests old.files

-- Nothing was stored.
pub record StoresNone (reveals : Type 0) (v w : Opened) (old new : State) : Type 0 where
  -- the opened ledger and its file are what they were
  pub same : w ≡ v
  pub leaves : reveals → LeavesLedger old new
  pub padded : KeepsHomes reveals v old new

-- What was wanted was stored, and is this.
pub record KeepsWanted (reveals : Type 0) (v w : Opened) (name : List ℕ) (want : Option ℕ) (left rest : Option (List ℕ)) (before after : ℕ) (old new : State) (stored : Stored) : Type 0 where
  pub kept : HasKept reveals v w name want left rest old new stored
  -- its bytes were taken and no others
  pub exact : after ≡ before + stored.length
  -- no reason for a refusal held
  pub heads : HadHeads reveals v old
  pub fits : v.lattice.n + nodes_for v.shape stored.length ≤ limit_when v.raised
  pub padded : KeepsHomes reveals v old new
  -- no write went past the gate that ends the new ledger
  pub long : reveals → length (new.files 0) ≤ max (length (old.files 0)) (next_end v.end (length name) (stored.nodes * (1 + v.shape.alpha)) + 1)

-- The source ended before the number of bytes that was wanted.
pub record EndsBefore (reveals : Type 0) (v w : Opened) (want : Option ℕ) (left rest : Option (List ℕ)) (old new : State) : Type 0 where
  pub ended : HasEnded want left rest
  pub heads : HadHeads reveals v old
  pub fits : (n : ℕ) → want ≡ Some n → n ≤ room_left v
  pub none : StoresNone reveals v w old new

-- A last parity was damaged: of those that were, this one has the least number. No byte was taken, and nothing was written.
pub record RefusesHead (reveals untaken : Type 0) (v w : Opened) (before after : ℕ) (old new : State) (b : BlockId) : Type 0 where
  pub last : IsLastParity v.lattice b
  pub first : reveals → IsFirstDamagedLast v.shape v.lattice v.digests old.files b
  pub untaken_is : untaken
  pub counts : after ≡ before
  pub reads : OnlyReads reveals ⊥ old new
  pub none : StoresNone reveals v w old new

-- More was wanted than the nodes that are left can hold. Where that was a number of bytes, none was taken.
pub record RefusesMore (reveals untaken : Type 0) (v w : Opened) (want : Option ℕ) (left rest : Option (List ℕ)) (before after : ℕ) (old new : State) (nodes : ℕ) : Type 0 where
  pub nodes_is : nodes ≡ v.lattice.n
  pub over : IsOver v want left rest
  pub heads : HadHeads reveals v old
  pub untaken_is : (n : ℕ) → want ≡ Some n → untaken × (after ≡ before)
  pub none : StoresNone reveals v w old new

-- A read failed: before all bytes were taken, where a number was wanted.
pub record FailsReading (reveals : Type 0) (v w : Opened) (want : Option ℕ) (before after : ℕ) (old new : State) : Type 0 where
  pub short : (n : ℕ) → want ≡ Some n → after < before + n
  pub heads : HadHeads reveals v old
  pub fits : (n : ℕ) → want ≡ Some n → n ≤ room_left v
  pub none : StoresNone reveals v w old new

-- The disk failed: the opened ledger is dead, and the archive is the one before or that with the object.
pub record Stops (reveals : Type 0) (v w : Opened) (name : List ℕ) (want : Option ℕ) (left rest : Option (List ℕ)) (old new : State) : Type 0 where
  pub dead : w ≡ record v { live = false }
  pub stopped : reveals → MayHaveStored v (IsWanted want name left rest) old new

-- what is left, by how it ended
abbrev pub EndsBy : (reveals untaken : Type 0) → Opened → Opened → List ℕ → Option ℕ → Option (List ℕ) → Option (List ℕ) → ℕ → ℕ → State → State → Result (Option Stored) PutFault → Type 0
EndsBy reveals untaken v w name want left rest before after old new (Ok (Some stored)) = KeepsWanted reveals v w name want left rest before after old new stored
EndsBy reveals untaken v w name want left rest before after old new (Ok None) = EndsBefore reveals v w want left rest old new
EndsBy reveals untaken v w name want left rest before after old new (Err (HeadDamaged b)) = RefusesHead reveals untaken v w before after old new b
EndsBy reveals untaken v w name want left rest before after old new (Err (Full nodes)) = RefusesMore reveals untaken v w want left rest before after old new nodes
EndsBy reveals untaken v w name want left rest before after old new (Err ReadFault) = FailsReading reveals v w want before after old new
EndsBy reveals untaken v w name want left rest before after old new (Err DiskFault) = Stops reveals v w name want left rest old new
EndsBy reveals untaken v w name want left rest before after old new (Err NoMemory) = StoresNone reveals v w old new
EndsBy reveals untaken v w name want left rest before after old new (Err early) = ⊥

-- What was wanted of a source was to be stored under a name that may enter: `want` bytes, or all that it has. `untaken` is that
-- the source is what it was; `left` and `rest` are the bytes that it had and has, `before` and `after` how many were taken,
-- `v` and `w` the opened ledger, `old` and `new` the disk, before the call and after it.
pub record StoresWanted (reveals untaken : Type 0) (v w : Opened) (name : List ℕ) (want : Option ℕ) (left rest : Option (List ℕ)) (before after : ℕ) (old new : State) (result : Result (Option Stored) PutFault) : Type 0 where
  pub ended : EndsBy reveals untaken v w name want left rest before after old new result
