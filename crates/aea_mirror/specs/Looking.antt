-- What the ledger has after the kept text, as it is looked at gate by gate.
use Rattle.std.specs.Prelude.{◌≡◌, ◌≢◌, ◌⊎◌, ◌<◌, ◌≤◌, ◌+◌, ◌^◌, ℕ, suc, List, length, get_or}
use Rattle.aea_disk.specs.Ends.{Reaches, number_at, greatest_length}
use Rattle.aea_mirror.specs.declared.further.Further.{Further}
use Rattle.aea_mirror.specs.declared.further.Further.TheVariants.{Nothing, Until, Broken}
use Rattle.aea_mirror.specs.declared.further.Look.{Look}
use Rattle.aea_mirror.specs.declared.further.Look.TheVariants.{Closed, Record, NoRecord}

-- Of the bytes from a gate on: the gate is there and not open; or it is open, and what follows says that the record has so
-- many bytes; or there is no gate, or no record after an open one.
abbrev pub IsLook : List ℕ → Look → Type 0
IsLook bytes Closed = (1 ≤ length bytes) × (get_or bytes 0 0 ≢ 1)
IsLook bytes (Record size) = (6 ≤ length bytes) × (get_or bytes 0 0 ≡ 1) × (number_at bytes 2 ≤ greatest_length) × (size ≡ 6 + number_at bytes 2)
IsLook bytes NoRecord = (length bytes < 1) ⊎ ((get_or bytes 0 0 ≡ 1) × ((length bytes < 6) ⊎ (greatest_length < number_at bytes 2)))

-- Whole records lead from one gate, with so many records before it, to another, which is not open.
pub record LeadTo (bytes : List ℕ) (before more from last : ℕ) : Type 0 where
  pub reaches : Reaches bytes before more from last
  pub there : last < length bytes
  pub shut : get_or bytes last 0 ≢ 1

-- After the gate at this place, with so many records before it, the ledger has no more: the gate is not open; or whole
-- records, one at least, up to a gate that is not open; or else something that is no list of whole records.
abbrev pub IsFurther : List ℕ → (before from : ℕ) → Further → Type 0
IsFurther bytes before from Nothing = LeadTo bytes before 0 from from
IsFurther bytes before from (Until last) = (more : ℕ) × LeadTo bytes before (suc more) from last
IsFurther bytes before from Broken = (more last : ℕ) → LeadTo bytes before more from last → ⊥

-- what is said of a record's size is no more than a record may have
abbrev pub IsWithin : Look → Type 0
IsWithin Closed = Unit {0}
IsWithin (Record size) = (6 ≤ size) × (size ≤ 6 + greatest_length)
IsWithin NoRecord = Unit {0}

-- records lead further, and not too far
abbrev pub IsOn : ℕ → Further → Type 0
IsOn from Nothing = Unit {0}
IsOn from (Until last) = (from < last) × (last ≤ 2 ^ 58)
IsOn from Broken = Unit {0}
