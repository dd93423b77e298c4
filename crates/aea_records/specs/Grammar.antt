-- “Ledger grammar”: which bytes are a ledger of which shape and records, and where it ends.
use Rattle.std.specs.Prelude.{◌≡◌, ◌≢◌, ℕ, ◌+◌, ◌*◌, ◌<◌, ◌≤◌, ◌^◌, List, [], ◌∷◌, ◌++◌, length, All, IsTrue}
use Rattle.aea_lattice.specs.declared.shape.Shape.{Shape}
use Rattle.aea_lattice.specs.Data.{IsBytes}
use Rattle.aea_catalog.specs.declared.objects.Extent.{Extent}
use Rattle.aea_catalog.specs.Names.{IsName}
use Rattle.aea_records.specs.Format.{Stored, Record, Object, Joined, Fence, Raise, open_gate, greatest_objects, raised_limit, nodes_for, stored_of, nodes_of, fences_of, limit_of, spelled}
use Rattle.aea_lattice.specs.Fences.{greatest_fences}
use Rattle.aea_records.specs.Fields.{are_parts}

-- The object may follow these earlier records: its name is a name and none of theirs; its new nodes come after theirs
-- and fit the limit; and it has a digest for each of the new blocks.
pub record MayBeStored (shape : Shape) (earlier : List Record) (o : Stored) : Type 0 where
  pub few : length (stored_of earlier) < greatest_objects
  pub name : IsName o.name
  pub new : All (λ e. e.name ≢ o.name) (stored_of earlier)
  pub size : o.size < 2 ^ 64
  pub digest : IsBytes 32 o.digest
  pub first : o.first ≡ nodes_of earlier + 1
  pub fits : nodes_of earlier + o.count ≤ limit_of earlier
  pub digests : length o.digests ≡ o.count * (1 + shape.alpha)
  pub each : All (IsBytes 32) o.digests

-- its nodes are all new: as many as its length takes
pub record IsNextObject (shape : Shape) (earlier : List Record) (o : Stored) : Type 0 where
  pub stored : MayBeStored shape earlier o
  pub count : o.count ≡ nodes_for shape o.size

-- it is in parts, which the raised limit allows: they lie apart, in order, within the nodes with the new ones, and have as
-- many nodes as its length takes
pub record IsNextJoined (shape : Shape) (earlier : List Record) (o : Stored) (parts : List Extent) : Type 0 where
  pub raised : limit_of earlier ≡ raised_limit
  pub stored : MayBeStored shape earlier o
  pub apart : IsTrue (are_parts shape o.size (nodes_of earlier + o.count) parts)

-- the fence comes after the last node, no other is there, and there are not too many
pub record IsNextFence (earlier : List Record) (node : ℕ) : Type 0 where
  pub last : node ≡ nodes_of earlier
  pub some : 1 ≤ node
  pub small : node < 2 ^ 32
  pub new : All (λ f. f ≢ node) (fences_of earlier)
  pub few : length (fences_of earlier) < greatest_fences

-- The record may follow these earlier ones.
abbrev pub IsNext : Shape → List Record → Record → Type 0
IsNext shape earlier (Object o) = IsNextObject shape earlier o
IsNext shape earlier (Joined o parts) = IsNextJoined shape earlier o parts
IsNext shape earlier (Fence node) = IsNextFence earlier node
IsNext shape earlier Raise = limit_of earlier ≢ raised_limit

-- each of the records may follow those before it, the first of them these earlier ones
abbrev pub MayFollow : Shape → List Record → List Record → Type 0
MayFollow shape earlier [] = Unit {0}
MayFollow shape earlier (r ∷ records) = IsNext shape earlier r × MayFollow shape (earlier ++ r ∷ []) records

-- the records may be in a ledger of this shape
abbrev pub AreRecords : Shape → List Record → Type 0
AreRecords shape records = MayFollow shape [] records

-- The file is a ledger of this shape with these records, and ends at this place: it begins with the header and, for each
-- record, an open gate and its body, and the gate after these is not open. What follows that gate has no meaning.
pub record IsLedger (bytes : List ℕ) (shape : Shape) (records : List Record) (end : ℕ) : Type 0 where
  pub valid : AreRecords shape records
  pub gate : ℕ
  pub closed : gate ≢ open_gate
  pub after : List ℕ
  pub spelling : bytes ≡ spelled shape records ++ gate ∷ after
  pub place : end ≡ length (spelled shape records)
