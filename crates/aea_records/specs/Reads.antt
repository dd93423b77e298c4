-- What the steps of a reader give.
use Rattle.std.specs.Prelude.{◌≡◌, ◌≢◌, ◌+◌, ◌<◌, ◌≤◌, ℕ, Bool, is_some, false, List, length, take, slice_index, Result, Ok, Err, Some}
use Rattle.std.specs.FinMap as map
use Rattle.aea_lattice.specs.declared.shape.Shape.{Shape}
use Rattle.aea_lattice.specs.declared.grid.Lattice.{Lattice}
use Rattle.aea_lattice.specs.Profile.{greatest_nodes}
use Rattle.aea_lattice.specs.Fences.{greatest_fences, last_fence}
use Rattle.aea_catalog.specs.Catalogs.{Objects}
use Rattle.aea_records.specs.Tables.{Table, judge, bytes_at}
use Rattle.aea_records.specs.TableLaws.{AreBytes}
use Rattle.aea_records.specs.Format.{Stored, Fence, Raise, open_gate, raised_limit}
use Rattle.aea_records.specs.Known.{Known}
use Rattle.aea_records.specs.Fields.{Head, ObjectHead, JoinedHead, Whole, stored_with, front_fields, head_fields}
use Rattle.aea_records.specs.Faults.{is_full, gate_fault}
use Rattle.aea_records.specs.declared.fields.Front.{Front}
use Rattle.aea_records.specs.declared.heads.ObjectFields.{ObjectFields}
use Rattle.aea_records.specs.declared.heads.HeadFields.{HeadFields}
use Rattle.aea_records.specs.declared.heads.HeadFields.TheVariants.{Alone, InParts, Fenced, Raised}
use Rattle.aea_records.specs.declared.heads.Found.{Found}

-- what a reader knows of the records before one: the objects by their names, the nodes, the fences, and the raise
abbrev pub known_in : Objects → ℕ → List ℕ → Bool → Known
known_in objects nodes fences raised = record {
  taken = λ name. is_some (map.get objects name);
  objects = map.len objects;
  nodes = nodes;
  fences = fences;
  raised = raised;
}

-- What a function returned, seen by the view, is what is judged, up to its end.
abbrev pub IsJudged : {X Y : Type 0} → (X → Y) → (X → ℕ) → Result X ℕ → Result (Y × ℕ) ℕ → Type 0
IsJudged view end (Ok x) judged = judged ≡ Ok (view x, end x)
IsJudged view end (Err at) judged = judged ≡ Err at

-- What a function returned is what is judged of the first fields of an object, whatever is judged after them.
abbrev pub IsFrontJudged : Known → List ℕ → Result Front ℕ → Type 0
IsFrontJudged known window (Ok f) =
    (next : Stored → Table (ℕ × Head))
    → judge (front_fields known next) 6 window ≡ judge (next (stored_with (bytes_at f.long 8 window) f.size f.digest f.first)) (8 + f.long + 8 + 32 + 4) window
IsFrontJudged known window (Err at) = (next : Stored → Table (ℕ × Head)) → judge (front_fields known next) 6 window ≡ Err at

-- the object that these fields are of, whose name is in the window
abbrev pub stored_at : List ℕ → ObjectFields → Stored
stored_at window o = record (stored_with (bytes_at o.long 8 window) o.size o.digest o.first) { count = o.count }

-- the head that these fields are
abbrev pub head_at : List ℕ → HeadFields → Head
head_at window (Alone o) = ObjectHead (stored_at window o)
head_at window (InParts o parts) = JoinedHead (stored_at window o) parts
head_at window (Fenced node) = Whole (Fence node)
head_at window Raised = Whole Raise

-- the place after the fields of an object up to its number of new nodes
abbrev pub object_end : ObjectFields → ℕ
object_end o = 8 + o.long + 8 + 32 + 4 + 4

-- the place after a head
abbrev pub head_end : HeadFields → ℕ
head_end (Alone o) = object_end o
head_end (InParts o parts) = object_end o + 4
head_end (Fenced node) = 10
head_end Raised = 10

-- what is found of a head: the value of the number of bytes, and its fields
abbrev pub found_at : List ℕ → Found → ℕ × Head
found_at window f = (f.bytes, head_at window f.fields)

-- the numbers of a head are small
abbrev pub IsSmall : HeadFields → Type 0
IsSmall (Alone o) = (o.long ≤ 255) × (o.count ≤ raised_limit)
IsSmall (InParts o parts) = ((o.long ≤ 255) × (o.count ≤ raised_limit)) × (parts ≤ raised_limit)
IsSmall (Fenced node) = Unit {0}
IsSmall Raised = Unit {0}

-- the lattice can go on with the record of the head
abbrev pub GoesOn : Lattice → HeadFields → Type 0
GoesOn l (Alone o) = l.n + o.count ≤ greatest_nodes
GoesOn l (InParts o parts) = l.n + o.count ≤ greatest_nodes
GoesOn l (Fenced node) = (last_fence l.fences < l.n) × (length l.fences < greatest_fences)
GoesOn l Raised = Unit {0}

-- The window begins with a gate that is not open.
pub record IsClosed (window : List ℕ) : Type 0 where
  pub there : 1 ≤ length window
  pub gate : slice_index window 0 ≢ open_gate

-- The window begins with an open gate and a head that is valid and says this, up to the end.
pub record IsHead (shape : Shape) (known : Known) (window : List ℕ) (v : ℕ × Head) (end : ℕ) : Type 0 where
  pub there : 1 ≤ length window
  pub bytes : AreBytes window
  pub gate : slice_index window 0 ≡ open_gate
  pub room : is_full known window ≡ false
  pub judged : judge (head_fields shape known) 1 window ≡ Ok (v, end)

-- Bytes from a gate on that begin with this window are bad at this place.
abbrev pub IsBadWindow : Shape → Known → List ℕ → ℕ → Type 0
IsBadWindow shape known window at = (rest : List ℕ) → window ≡ take 315 rest → gate_fault shape known rest ≡ Some at
