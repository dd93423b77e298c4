-- Bad ledgers, and the place at which one is bad.
use Rattle.std.specs.Prelude.{◌≡◌, ◌≢◌, ◌⊎◌, ℕ, ◌+◌, ◌<◌, ◌≤◌, ◌||◌, ◌&&◌, ◌==◌, nat_le, Bool, if◌then◌else◌, List, [], ◌∷◌, ◌++◌, length, codes, slice_index, Option, None, Some, Result, Ok, Err}
use Rattle.std.specs.Str.{bytes_eq}
use Rattle.std.specs.Int.{Width, w32, byte_len, from_be_bytes}
use Rattle.aea_lattice.specs.declared.shape.Shape.{Shape}
use Rattle.aea_records.specs.Tables.{judge, bytes_at}
use Rattle.aea_records.specs.Format.{Record, open_gate, greatest_objects, spelled}
use Rattle.aea_records.specs.Known.{Known, known_of}
use Rattle.aea_records.specs.Fields.{record_fields}
use Rattle.aea_records.specs.Grammar.{AreRecords}

-- the place of what is bad, if anything is
abbrev pub bad_of : {A : Type 0} → Result (A × ℕ) ℕ → Option ℕ
bad_of (Ok found) = None
bad_of (Err at) = Some at

-- after an open gate is the kind of a record of an object, and the ledger has the most objects already
abbrev pub is_full : Known → List ℕ → Bool
is_full known bytes =
    known.objects == greatest_objects && (slice_index bytes 1 == 1 || (slice_index bytes 1 == 3 && known.raised))

-- What is bad from a gate on, if anything is, by what is known of the records before it: the gate where it is missing, or
-- where it is open before an object past the most; and after an open gate the first bad field. The bytes begin at the
-- gate, and the place counts from it.
abbrev pub gate_fault : Shape → Known → List ℕ → Option ℕ
gate_fault shape known [] = Some 0
gate_fault shape known (gate ∷ after) =
    if gate == open_gate
    then (if is_full known (gate ∷ after) then Some 0 else bad_of (judge (record_fields shape known) 1 (gate ∷ after)))
    else None

-- the place of the first field in a list of them that fails its test
abbrev pub first_bad : List (ℕ × Bool) → Option ℕ
first_bad [] = None
first_bad (field ∷ fields) = if field.1 then first_bad fields else Some field.0

-- the number of this width at the place
abbrev pub number_at : Width → ℕ → List ℕ → ℕ
number_at w at bytes = from_be_bytes w (bytes_at (byte_len w) at bytes)

-- α, and s and p beside it, are those of a lattice
abbrev pub is_alpha : ℕ → Bool
is_alpha alpha = nat_le 1 alpha && nat_le alpha 3

abbrev pub is_s : ℕ → ℕ → Bool
is_s alpha s = if alpha == 1 then s == 1 else (nat_le 2 s && nat_le s 16)

abbrev pub is_p : ℕ → ℕ → ℕ → Bool
is_p alpha s p = if alpha == 1 then p == 0 else (nat_le s p && nat_le p 64)

-- The fields of the header after its gate: the mark, α, s, p, the number of sites, and the block size. A file of 18
-- bytes has all of them.
abbrev pub header_fields : List ℕ → List (ℕ × Bool)
header_fields bytes =
    (1, bytes_eq (bytes_at 8 1 bytes) (codes "AEALEDG1"))
    ∷ (9, is_alpha (slice_index bytes 9))
    ∷ (10, is_s (slice_index bytes 9) (slice_index bytes 10))
    ∷ (11, is_p (slice_index bytes 9) (slice_index bytes 10) (slice_index bytes 11))
    ∷ (12, nat_le 1 (slice_index bytes 12) && nat_le (slice_index bytes 12) 64)
    ∷ (13, nat_le 16 (number_at w32 13 bytes) && nat_le (number_at w32 13 bytes) 65536)
    ∷ []

-- the file has at least the 18 bytes of a ledger without records, and the gate of its header is open
pub record HasOpenHeader (bytes : List ℕ) : Type 0 where
  pub long : 18 ≤ length bytes
  pub gate : slice_index bytes 0 ≡ open_gate

-- the file is no archive: the bytes of a header are not all there, or its gate is not open
abbrev pub IsNoArchive : List ℕ → Type 0
IsNoArchive bytes = (length bytes < 18) ⊎ (slice_index bytes 0 ≢ open_gate)

-- a field of the header is bad, and it is the one at this place
abbrev pub IsBadHeaderAt : List ℕ → ℕ → Type 0
IsBadHeaderAt bytes at = first_bad (header_fields bytes) ≡ Some at

-- After the header and these records the file is bad, at this place: that of the gate, or of a field after it.
pub record IsBadRecordAt (bytes : List ℕ) (at : ℕ) : Type 0 where
  pub shape : Shape
  pub records : List Record
  pub valid : AreRecords shape records
  pub rest : List ℕ
  pub spelling : bytes ≡ spelled shape records ++ rest
  pub fault : ℕ
  pub bad : gate_fault shape (known_of records) rest ≡ Some fault
  pub place : at ≡ length (spelled shape records) + fault

-- “bad at”: the ledger is bad at this place
pub record IsBadAt (bytes : List ℕ) (at : ℕ) : Type 0 where
  pub header : HasOpenHeader bytes
  pub bad : IsBadHeaderAt bytes at ⊎ IsBadRecordAt bytes at
