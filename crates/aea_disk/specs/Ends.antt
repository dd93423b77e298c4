-- Where the records of the ledger file end, by their gates and the lengths after these alone.
use Rattle.std.specs.Prelude.{◌≡◌, ◌≢◌, ◌⊎◌, ◌<◌, ◌≤◌, ◌+◌, ◌*◌, ◌^◌, ℕ, zero, suc, List, length, take, drop, get_or}
use Rattle.std.specs.Int.{w32, from_be_bytes}

-- the number in the four bytes at a place, the high byte first
abbrev pub number_at : List ℕ → ℕ → ℕ
number_at bytes at = from_be_bytes w32 (take 4 (drop at bytes))

-- where the record after the gate at this place ends, by the number at its second byte
abbrev pub behind : List ℕ → ℕ → ℕ
behind bytes gate = gate + 6 + number_at bytes (gate + 2)

-- where a copy of a ledger ends: of so many pieces, which are the header and the records, with so many bytes in all
abbrev pub copied_end : (pieces text : ℕ) → ℕ
copied_end pieces text = 9 + 37 * pieces + text

-- the most bytes that a record's field may say: with gate, kind and field, six more, they fit a number of four bytes
abbrev pub greatest_length : ℕ
greatest_length = 4294967289

-- the greatest place at which a record, or what a copy gets for it, may end
abbrev pub greatest_place : ℕ
greatest_place = 2 ^ 58

-- A whole record is after the gate at this place, where so many records are before it: the gate is open, the field says
-- no more than it may, a gate follows, and what a copy would get for the record ends in time, and so does the record.
pub record IsWhole (bytes : List ℕ) (before gate : ℕ) : Type 0 where
  pub opened : get_or bytes gate 0 ≡ 1
  pub short : number_at bytes (gate + 2) ≤ greatest_length
  pub followed : behind bytes gate < length bytes
  pub near : copied_end (before + 2) (behind bytes gate) ≤ greatest_place

-- From one gate, with so many records before it, one comes to another by so many whole records.
abbrev pub Reaches : List ℕ → (before more : ℕ) → (from last : ℕ) → Type 0
Reaches bytes before zero from last = from ≡ last
Reaches bytes before (suc more) from last = IsWhole bytes before from × Reaches bytes (suc before) more (behind bytes from) last

-- The header's gate is open, and the records after the header, so many, end at the gate at this place, which is not open.
pub record EndsAt (bytes : List ℕ) (last : ℕ) : Type 0 where
  pub header : get_or bytes 0 0 ≡ 1
  pub records : ℕ
  pub reaches : Reaches bytes 0 records 17 last
  pub there : last < length bytes
  pub shut : get_or bytes last 0 ≢ 1

-- no ledger: fewer than 18 bytes, or the gate at the start is not open
abbrev pub IsBare : List ℕ → Type 0
IsBare bytes = (length bytes < 18) ⊎ (get_or bytes 0 0 ≢ 1)
