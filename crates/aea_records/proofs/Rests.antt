-- What follows the header of a ledger, and what can be concluded from it.
use Rattle.std.specs.Prelude.{◌≡◌, ◌≢◌, ◌⊎◌, ◌≤◌, ◌+◌, ℕ, List, ◌∷◌, ◌++◌, length, take, Some}
use Rattle.std.specs.List.{flat_map}
use Rattle.aea_lattice.specs.declared.shape.Shape.{Shape}
use Rattle.aea_records.specs.Tables.{judge}
use Rattle.aea_records.specs.TableLaws.{AreBytes}
use Rattle.aea_records.specs.Format.{Record, open_gate, entry}
use Rattle.aea_records.specs.Known.{Known, known_of}
use Rattle.aea_records.specs.Fields.{head_fields}
use Rattle.aea_records.specs.Grammar.{AreRecords}
use Rattle.aea_records.specs.Faults.{gate_fault}

-- What follows the header: these records, and then a gate that is not open.
pub record AreBehind (shape : Shape) (records : List Record) (rest : List ℕ) : Type 0 where
  pub valid : AreRecords shape records
  pub gate : ℕ
  pub closed : gate ≢ open_gate
  pub after : List ℕ
  pub spelling : rest ≡ flat_map entry records ++ gate ∷ after

-- What follows the header is bad at this place in it.
pub record IsBadBehind (shape : Shape) (rest : List ℕ) (at : ℕ) : Type 0 where
  pub records : List Record
  pub valid : AreRecords shape records
  pub more : List ℕ
  pub spelling : rest ≡ flat_map entry records ++ more
  pub fault : ℕ
  pub bad : gate_fault shape (known_of records) more ≡ Some fault
  pub place : at ≡ length (flat_map entry records) + fault

-- No bytes have two lists of records, none with a list of records are bad, none are bad at two places, and each are one or
-- the other.
abbrev pub HaveOneReading : Type 0
HaveOneReading = (shape : Shape) (records others : List Record) (rest : List ℕ) → AreBehind shape records rest → AreBehind shape others rest → records ≡ others

abbrev pub RecordsAreNotBad : Type 0
RecordsAreNotBad = (shape : Shape) (records : List Record) (rest : List ℕ) (at : ℕ) → AreBehind shape records rest → IsBadBehind shape rest at → ⊥

abbrev pub AreBadAtOnePlace : Type 0
AreBadAtOnePlace = (shape : Shape) (rest : List ℕ) (at other : ℕ) → IsBadBehind shape rest at → IsBadBehind shape rest other → at ≡ other

abbrev pub EachAreOneOrBad : Type 0
EachAreOneOrBad =
    (shape : Shape) (rest : List ℕ) → AreBytes rest → ((records : List Record) × AreBehind shape records rest) ⊎ ((at : ℕ) × IsBadBehind shape rest at)

-- A head is judged by the first 315 bytes from its gate on, or more of them.
abbrev pub HeadsAreShort : Type 0
HeadsAreShort =
    (shape : Shape) (known : Known) (bytes : List ℕ) (size : ℕ) → 315 ≤ size
    → judge (head_fields shape known) 1 (take size bytes) ≡ judge (head_fields shape known) 1 bytes
