-- Which calls a Mirror refuses, and how calls are counted.
use Rattle.std.specs.Prelude.{◌≡◌, ◌⊎◌, ◌<◌, ◌≤◌, ℕ, Bool, true, List, Result, IsErr}
use Rattle.aea_faults.specs.Faults.{HasCause}
use Rattle.aea_disk.specs.Count.{one_more}
use Rattle.aea_disk.specs.Ends.{EndsAt}
use Rattle.aea_disk.specs.State.{State, KeepsImages}

-- A write of this file from this place on is refused: the file is a copy's, or the Mirror is dead, or copies are on and it
-- begins before the end of the kept text.
abbrev pub RefusesWrite : (on : Bool) (end : ℕ) (dead : Bool) → (file at : ℕ) → Type 0
RefusesWrite on end dead file at = (64 < file) ⊎ ((dead ≡ true) ⊎ ((on ≡ true) × ((file ≡ 0) × (at < end))))

-- A cut of this file to this length is refused: the file is a copy's, or the Mirror is dead, or copies are on and the kept
-- text would be cut off, or what is after it.
abbrev pub RefusesCut : (on : Bool) (end : ℕ) (dead : Bool) → (file len : ℕ) → Type 0
RefusesCut on end dead file len = (64 < file) ⊎ ((dead ≡ true) ⊎ ((on ≡ true) × ((file ≡ 0) × (len ≤ end))))

-- The call was refused: it failed, the lent disk is as it was, since it was not called, and the Mirror counts one more.
pub record IsRefused {D T E : Type 0} (old new : D) (own now : ℕ) (result : Result T E) : Type 0 where
  pub failed : IsErr result
  pub beneath : new ≡ old
  pub counted : now ≡ one_more own

-- A call is counted once: by the lent disk, to which it was handed on, and then the Mirror's own count stays; or, a fault, by
-- the Mirror, and then the count of the lent disk stays.
abbrev pub IsCounted : {T E : Type 0} → (own now : ℕ) → (old new : State) → Result T E → Type 0
IsCounted own now old new result = ((now ≡ own) × HasCause old.faults new.faults result) ⊎ (IsErr result × (now ≡ one_more own) × (new.faults ≡ old.faults))

-- nothing was written: the lent disk reads as it did, and no image of it is new
pub record WritesNone (reveals : Type 0) (old new : State) : Type 0 where
  pub reads : reveals → new.files ≡ old.files
  pub images : KeepsImages old new

-- the ledger is no header with whole records up to a gate that is not open
abbrev pub NeverEnds : List ℕ → Type 0
NeverEnds ledger = (last : ℕ) → EndsAt ledger last → ⊥
