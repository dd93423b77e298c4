-- A disk in memory: its files' bytes and capacities, in the order of their numbers, and its count of faults.
use Rattle.std.specs.Prelude.{◌≡◌, ℕ, ◌≤◌, ◌<◌, List, [], length, slice_index_or, if◌then◌else◌, ◌==◌, nat_le, ◌||◌, ◌&&◌}
use Rattle.std.proofs.Common.{le_trans}
use Rattle.aea_disk.specs.Files.{Files}
use Rattle.aea_disk.specs.Space.{Extent, empty_extent}
use Rattle.aea_disk.specs.State.{State, no_lent}

pub record Memory : Type 0 where
  pub spaces : List Extent
  pub faults : ℕ

-- each file's bytes, and none past the list
abbrev pub files_of : List Extent → Files
files_of spaces f = (slice_index_or spaces f empty_extent).bytes

-- how many bytes the file has space for
abbrev pub room_of : List Extent → ℕ → ℕ
room_of spaces f = (slice_index_or spaces f empty_extent).room

-- no images of it are known, and no call fails that stays within the capacities
abbrev pub sure_state : Memory → State
sure_state m = record { files = files_of m.spaces; moment = 0; image = λ t c. ⊥; faults = m.faults; room = λ f n. n ≤ room_of m.spaces f; beneath = m.faults; takes = λ f b at. Unit {0}; keeps = λ b. Unit {0}; free = Unit {0}; lent = no_lent }

-- the ledger's capacity for file 0 and the last two, a site's for 1 to `sites`, and none for the others
abbrev pub room_for : ℕ → ℕ → ℕ → ℕ → ℕ
room_for sites ledger site f = if f == 0 || (nat_le 65 f && nat_le f 66) then ledger else (if nat_le f sites then site else 0)

-- files without bytes, their capacities, and no fault yet
pub record IsFresh (sites ledger site : ℕ) (m : Memory) : Type 0 where
  pub empty : (f : ℕ) → files_of m.spaces f ≡ []
  pub rooms : (f : ℕ) → f < 67 → room_of m.spaces f ≡ room_for sites ledger site f
  pub count : m.faults ≡ 0

-- the same of the first files, in order
pub record AreFresh (sites ledger site : ℕ) (spaces : List Extent) : Type 0 where
  pub empty : (f : ℕ) → files_of spaces f ≡ []
  pub rooms : (f : ℕ) → f < length spaces → room_of spaces f ≡ room_for sites ledger site f

-- a law of the disk: what is within a smaller range is within the capacity
pub room_smaller : (m : Memory) (f a b : ℕ) → a ≤ b → (sure_state m).room f b → (sure_state m).room f a
room_smaller m f a b le has = le_trans le has
