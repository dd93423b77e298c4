-- Parts of files, as they were read.
use Rattle.std.specs.Prelude.{◌≡◌, ◌⊎◌, ◌↔◌, ◌≤◌, ◌+◌, ℕ, Bool, true, List, length, take, drop}
use Rattle.aea_disk.specs.Files.{Files}
use Rattle.aea_copy_reader.specs.declared.range.Along.{Along}

-- A part of a file: from a place on these bytes; and whether the file has none after them.
pub record Seen : Type 0 where
  pub place : ℕ
  pub bytes : List ℕ
  pub ended : Bool

-- The file has these bytes there, and none after them where it is said.
pub record IsSeen (file : List ℕ) (w : Seen) : Type 0 where
  pub same : w.bytes ≡ take (length w.bytes) (drop w.place file)
  pub last : w.ended ≡ true → length file ≤ w.place + length w.bytes

-- So many bytes from a place on were read, as far as the file has them.
pub record Covers (w : Seen) (at n : ℕ) : Type 0 where
  pub from : w.place ≤ at
  pub within : at ≤ w.place + length w.bytes
  pub whole : (at + n ≤ w.place + length w.bytes) ⊎ (w.ended ≡ true)

-- what was read of a copy, of the other one and of the ledger
pub record AreSeen (files : Files) (file other : ℕ) (one two three : Seen) : Type 0 where
  pub own : IsSeen (files file) one
  pub twin : IsSeen (files other) two
  pub ledger : IsSeen (files 0) three

-- The other copy has the same bytes as before it, and so has the ledger: each does after so many bytes more where it did before
-- them, and has these too.
pub record GoAlong (bytes others ledger : List ℕ) (at from n : ℕ) (old new : Along) : Type 0 where
  pub same : new.same ≡ true ↔ ((old.same ≡ true) × (take n (drop at others) ≡ take n (drop at bytes)))
  pub in_ledger : new.in_ledger ≡ true ↔ ((old.in_ledger ≡ true) × (take n (drop from ledger) ≡ take n (drop at bytes)))
