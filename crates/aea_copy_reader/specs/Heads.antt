-- What is seen at a gate: the first bytes of what is there.
use Rattle.std.specs.Prelude.{◌≡◌, ◌≢◌, ◌≤◌, ◌+◌, ℕ, Bool, true, false, List, length, take, drop, slice_index}
use Rattle.std.specs.Int.{w32, from_be_bytes}
use Rattle.aea_records.specs.Format.{open_gate}
use Rattle.aea_copy_reader.specs.declared.heads.Opening.{Opening}
use Rattle.aea_copy_reader.specs.declared.heads.Opening.TheVariants.{Missing, Closed, Broken, Piece}

-- the piece whose first 6 bytes follow the length may be one of its kind
abbrev pub IsSized : Bool → List ℕ → ℕ → Type 0
IsSized true head len = len ≡ 17
IsSized false head len = from_be_bytes w32 (take 4 (drop 7 head)) + 6 ≡ len

-- the bytes from an open gate on, 11 of them, begin an entry with a piece of this length
pub record IsHead (first : Bool) (head : List ℕ) (len : ℕ) : Type 0 where
  pub long : 11 ≤ length head
  pub gate : slice_index head 0 ≡ open_gate
  pub size : from_be_bytes w32 (take 4 (drop 1 head)) ≡ len
  pub inner : slice_index head 5 ≡ open_gate
  pub kind : IsSized first head len

-- what was found at a gate
abbrev pub IsFound : Bool → List ℕ → Opening → Type 0
IsFound first head Missing = length head ≡ 0
IsFound first head Closed = (1 ≤ length head) × (slice_index head 0 ≢ open_gate)
IsFound first head Broken = (1 ≤ length head) × (slice_index head 0 ≡ open_gate) × ((len : ℕ) → IsHead first head len → ⊥)
IsFound first head (Piece len) = IsHead first head len
