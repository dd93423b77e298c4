-- What follows of the grammar: spelling and table of fields agree; each file has one reading at most; and a file with an
-- open header is a ledger or bad at one place.
use Rattle.std.specs.Prelude.{◌≡◌, ◌≢◌, ◌↔◌, ◌⊎◌, ◌+◌, ◌*◌, ◌<◌, ◌≤◌, ◌^◌, ℕ, List, ◌∷◌, ◌++◌, length, take, false, Some, None, is_some, IsTrue, All}
use Rattle.std.specs.List.{list_any, Contains}
use Rattle.std.specs.FinMap.{len, get}
use Rattle.aea_lattice.specs.declared.shape.Shape.{Shape}
use Rattle.aea_lattice.specs.Fences.{greatest_fences, are_fences, last_fence}
use Rattle.aea_catalog.specs.Catalogs.{Placed}
use Rattle.aea_records.specs.Tables.{Spells, judge}
use Rattle.aea_records.specs.TableLaws.{AreBytes}
use Rattle.aea_records.specs.Format.{Record, Fence, open_gate, greatest_objects, stored_of, nodes_of, digests_of, fences_of, limit_of, is_raise, rest_of, body, entry, spelled}
use Rattle.aea_records.specs.Known.{Known, known_of, is_taken}
use Rattle.aea_records.specs.Fields.{Head, tail_fields, record_fields}
use Rattle.aea_records.specs.Grammar.{IsNext, AreRecords, IsLedger}
use Rattle.aea_records.specs.Faults.{bad_of, is_full, gate_fault, HasOpenHeader, IsNoArchive, IsBadAt}
use Rattle.aea_records.specs.Catalogued.{objects_of, PlacesUnder}
use Rattle.aea_records.specs.Reads.{known_in, IsHead}

-- The fields of a record that may follow are those of its body.
abbrev pub NextIsSpelled : Type 0
NextIsSpelled = (shape : Shape) (earlier : List Record) (r : Record) → IsNext shape earlier r → Spells (record_fields shape (known_of earlier)) (body r) r

-- What the fields spell is the body of a record that may follow, where it is no object past the most.
abbrev pub SpelledIsNext : Type 0
SpelledIsNext =
    (shape : Shape) (earlier : List Record) (text : List ℕ) (r : Record) → length (stored_of earlier) ≤ greatest_objects
    → is_full (known_of earlier) (open_gate ∷ text) ≡ false → AreBytes text → Spells (record_fields shape (known_of earlier)) text r
    → IsNext shape earlier r × (text ≡ body r)

-- No file is a ledger of two shapes, of two lists of records, or with two ends.
abbrev pub HasOneReading : Type 0
HasOneReading =
    (bytes : List ℕ) (shape other : Shape) (records others : List Record) (end last : ℕ)
    → IsLedger bytes shape records end → IsLedger bytes other others last
    → (shape ≡ other) × ((records ≡ others) × (end ≡ last))

-- A ledger is bad at no place.
abbrev pub LedgersAreNotBad : Type 0
LedgersAreNotBad =
    (bytes : List ℕ) (shape : Shape) (records : List Record) (end at : ℕ)
    → IsLedger bytes shape records end → IsBadAt bytes at → ⊥

-- No file is bad at two places.
abbrev pub IsBadAtOnePlace : Type 0
IsBadAtOnePlace = (bytes : List ℕ) (at other : ℕ) → IsBadAt bytes at → IsBadAt bytes other → at ≡ other

-- A ledger is an archive, and one that is bad too.
abbrev pub LedgersAreArchives : Type 0
LedgersAreArchives =
    (bytes : List ℕ) → IsNoArchive bytes
    → ((shape : Shape) (records : List Record) (end : ℕ) → IsLedger bytes shape records end → ⊥)
    × ((at : ℕ) → IsBadAt bytes at → ⊥)

-- the file is a ledger
pub record IsSomeLedger (bytes : List ℕ) : Type 0 where
  pub shape : Shape
  pub records : List Record
  pub end : ℕ
  pub ledger : IsLedger bytes shape records end

-- A file whose header is open is a ledger, or bad at some place.
abbrev pub EachIsOneOrBad : Type 0
EachIsOneOrBad =
    (bytes : List ℕ) → AreBytes bytes → HasOpenHeader bytes → IsSomeLedger bytes ⊎ ((at : ℕ) × IsBadAt bytes at)

-- There are as many objects as records of one.
abbrev pub ObjectsAreCounted : Type 0
ObjectsAreCounted =
    (shape : Shape) (records : List Record) → AreRecords shape records → len (objects_of records) ≡ length (stored_of records)

-- A name is found exactly where a record has it.
abbrev pub NamesAreFound : Type 0
NamesAreFound = (records : List Record) (name : List ℕ) → is_some (get (objects_of records) name) ≡ is_taken records name

-- A name is new exactly where nothing is found under it.
abbrev pub NewNamesAreFree : Type 0
NewNamesAreFree =
    (records : List Record) (name : List ℕ) → All (λ o. o.name ≢ name) (stored_of records) ↔ (get (objects_of records) name ≡ None)

-- What is found under a name is what one of the records places there.
abbrev pub ObjectsAreOfRecords : Type 0
ObjectsAreOfRecords =
    (records : List Record) (name : List ℕ) (placed : Placed) → get (objects_of records) name ≡ Some placed
    → (r : Record) × Contains records r × PlacesUnder name placed r

-- What a reader knows by the objects is what is known of the records.
abbrev pub ReadersKnow : Type 0
ReadersKnow =
    (shape : Shape) (records : List Record) → AreRecords shape records
    → known_in (objects_of records) (nodes_of records) (fences_of records) (list_any is_raise records) ≡ known_of records

-- Records have not too many objects, nodes and fences; their fences are those of a lattice with their nodes; and so many
-- objects have a spelling that is not longer than this.
pub record AreFew (shape : Shape) (records : List Record) : Type 0 where
  pub objects : length (stored_of records) ≤ greatest_objects
  pub nodes : nodes_of records ≤ limit_of records
  pub fences : IsTrue (are_fences (nodes_of records) (fences_of records))
  pub short : length (spelled shape records) ≤ 2 ^ 28 * (length (stored_of records) + 18)

abbrev pub RecordsAreFew : Type 0
RecordsAreFew = (shape : Shape) (records : List Record) → AreRecords shape records → AreFew shape records

-- What follows the length of each record is shorter than this, and there are not more records than may be of objects,
-- 16 of fences and one of a raise.
pub record AreShort (records : List Record) : Type 0 where
  pub each : All (λ r. length (rest_of r) < 2 ^ 28) records
  pub few : length records ≤ greatest_objects + 18

abbrev pub RecordsAreShort : Type 0
RecordsAreShort = (shape : Shape) (records : List Record) → AreRecords shape records → AreShort records

-- A fence may come after the last node where the last fence is before it and there are not too many.
abbrev pub FencesMayFollow : Type 0
FencesMayFollow =
    (shape : Shape) (records : List Record) → AreRecords shape records → last_fence (fences_of records) < nodes_of records → length (fences_of records) < greatest_fences
    → IsNext shape records (Fence (nodes_of records))

-- There is a digest for each block of the nodes of all records.
abbrev pub DigestsAreCounted : Type 0
DigestsAreCounted =
    (shape : Shape) (records : List Record) → AreRecords shape records → length (digests_of records) ≡ nodes_of records * (1 + shape.alpha)

-- Where the bytes from a gate on begin with a head that is valid, what is bad in them is what is bad in the fields after it.
abbrev pub TailsAreJudged : Type 0
TailsAreJudged =
    (shape : Shape) (known : Known) (window rest : List ℕ) (v : ℕ × Head) (end : ℕ) → IsHead shape known window v end → window ≡ take 315 rest
    → gate_fault shape known rest ≡ bad_of (judge (tail_fields shape known v) end rest)

-- A gate and a head that are valid, with the fields after them, are the entry of a record that may follow.
abbrev pub TailsAreSpelled : Type 0
TailsAreSpelled =
    (shape : Shape) (earlier : List Record) (window back : List ℕ) (v : ℕ × Head) (end : ℕ) (r : Record) → AreRecords shape earlier
    → IsHead shape (known_of earlier) window v end → AreBytes back → Spells (tail_fields shape (known_of earlier) v) back r
    → IsNext shape earlier r × (take end window ++ back ≡ entry r)
