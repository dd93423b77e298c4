-- The fields of a record after its gate, and which values are valid.
use Rattle.std.specs.Prelude.{ℕ, ◌+◌, ◌-◌, ◌*◌, zero, suc, Bool, true, ◌&&◌, ◌||◌, ◌==◌, not, nat_le, nat_lt, if◌then◌else◌, List, [], ◌∷◌, length, take, drop}
use Rattle.std.specs.List.{sum_by, list_any}
use Rattle.std.specs.Int.{w8, w16, w32, w64, from_be_bytes}
use Rattle.aea_lattice.specs.declared.shape.Shape.{Shape}
use Rattle.aea_catalog.specs.declared.objects.Extent.{Extent}
use Rattle.aea_catalog.specs.Names.{is_name}
use Rattle.aea_records.specs.Tables.{Table, Part, Late, End, number, any, and_then, bytes_at}
use Rattle.aea_records.specs.Format.{Stored, Record, Object, Joined, Fence, Raise, raised_limit, limit_when, nodes_for}
use Rattle.aea_lattice.specs.Fences.{greatest_fences}
use Rattle.aea_records.specs.Known.{Known}

-- so many pieces of so many bytes each
abbrev pub pieces : ℕ → ℕ → List ℕ → List (List ℕ)
pieces width zero bytes = []
pieces width (suc n) bytes = take width bytes ∷ pieces width n (drop width bytes)

-- so many parts
abbrev pub extents : ℕ → List ℕ → List Extent
extents zero bytes = []
extents (suc n) bytes = record { first = from_be_bytes w32 (bytes_at 4 0 bytes); count = from_be_bytes w32 (bytes_at 4 4 bytes) } ∷ extents n (drop 8 bytes)

-- each part has a node at least, begins past the end of the one before, the first of them past this node, and ends at
-- this node or before
abbrev pub are_apart : ℕ → ℕ → List Extent → Bool
are_apart after nodes [] = true
are_apart after nodes (e ∷ parts) =
    nat_lt after e.first && nat_le 1 e.count && nat_le (e.first + e.count) (nodes + 1) && are_apart (e.first + e.count - 1) nodes parts

-- the parts of an object of so many bytes, where there are so many nodes
abbrev pub are_parts : Shape → ℕ → ℕ → List Extent → Bool
are_parts shape size nodes parts = are_apart 0 nodes parts && sum_by (λ e. e.count) parts == nodes_for shape size

-- whether a record of this kind may come
abbrev pub is_kind : Known → ℕ → Bool
is_kind known kind = kind == 1 || kind == 2 || kind == 4 || (kind == 3 && known.raised)

-- what is at the head of a record: its kind with the fields up to the first that may be long
pub data Head : Type 0 where
  ObjectHead : Stored → Head
  JoinedHead : Stored → ℕ → Head
  Whole : Record → Head

-- a name has 1 to 255 bytes
abbrev pub is_length : ℕ → Bool
is_length long = nat_le 1 long && nat_le long 255

-- it is a name, and is not taken
abbrev pub is_new_name : Known → List ℕ → Bool
is_new_name known name = is_name name && not (known.taken name)

-- the new nodes come after all others
abbrev pub is_next_node : Known → ℕ → Bool
is_next_node known first = first == known.nodes + 1

-- so many new nodes are within the limit
abbrev pub is_within : Known → ℕ → Bool
is_within known count = nat_le (known.nodes + count) (limit_when known.raised)

-- the fence comes after the last node, no other is there, and there are not too many
abbrev pub is_next_fence : Known → ℕ → Bool
is_next_fence known node = node == known.nodes && not (node == 0) && not (list_any (λ f. f == node) known.fences) && nat_lt (length known.fences) greatest_fences

-- the limit is raised for the first time
abbrev pub is_raise_to : Known → ℕ → Bool
is_raise_to known limit = limit == raised_limit && not known.raised

-- an object of which these fields are known
abbrev pub stored_with : List ℕ → ℕ → List ℕ → ℕ → Stored
stored_with name size digest first = record { name = name; size = size; digest = digest; first = first; count = 0; digests = [] }

-- The first fields of an object, up to its first new node: the length of its name, and the name; its length; its digest;
-- and that node.
abbrev pub front_fields : Known → (Stored → Table (ℕ × Head)) → Table (ℕ × Head)
front_fields known next =
    number w16 is_length (λ long.
    Part long (is_new_name known) (λ name.
    number w64 any (λ size.
    Part 32 any (λ digest.
    number w32 (is_next_node known) (λ first.
    next (stored_with name size digest first))))))

-- after them, of an object with new nodes alone: how many there are, as many as its length takes
abbrev pub object_fields : Shape → Known → ℕ → Stored → Table (ℕ × Head)
object_fields shape known bytes o =
    number w32 (λ count. count == nodes_for shape o.size && is_within known count) (λ count.
    End (bytes, ObjectHead (record o { count = count })))

-- and of one in parts: how many new nodes there are, and how many parts
abbrev pub joined_fields : Known → ℕ → Stored → Table (ℕ × Head)
joined_fields known bytes o =
    number w32 (is_within known) (λ count.
    number w32 (λ parts. nat_le parts raised_limit) (λ parts.
    End (bytes, JoinedHead (record o { count = count }) parts)))

-- the fields of a head after the kind and the number of bytes, which is kept
abbrev pub kind_fields : Shape → Known → ℕ → ℕ → Table (ℕ × Head)
kind_fields shape known bytes kind =
    if kind == 1 then front_fields known (object_fields shape known bytes)
    else if kind == 2 then number w32 (is_next_fence known) (λ node. End (bytes, Whole (Fence node)))
    else if kind == 3 then front_fields known (joined_fields known bytes)
    else number w32 (is_raise_to known) (λ limit. End (bytes, Whole Raise))

-- the head: the kind, the number of bytes after this field, any, and the fields of the kind
abbrev pub head_fields : Shape → Known → Table (ℕ × Head)
head_fields shape known = number w8 (is_kind known) (λ kind. number w32 any (λ bytes. kind_fields shape known bytes kind))

-- the digests of an object's new blocks, and the value of the number of bytes
abbrev pub digest_fields : Shape → ℕ → ℕ → Stored → (Stored → Record) → Table Record
digest_fields shape bytes others o make =
    Part (32 * (o.count * (1 + shape.alpha))) any (λ all.
    Late 2 (bytes == others + length o.name + 32 * (o.count * (1 + shape.alpha)))
    (End (make (record o { digests = pieces 32 (o.count * (1 + shape.alpha)) all }))))

-- The fields after a head: of an object its digests, before them its parts, all of them one field; and last of all the
-- value of the number of bytes.
abbrev pub tail_fields : Shape → Known → ℕ × Head → Table Record
tail_fields shape known (bytes, ObjectHead o) = digest_fields shape bytes 50 o (λ p. Object p)
tail_fields shape known (bytes, JoinedHead o parts) =
    Part (8 * parts) (λ all. are_parts shape o.size (known.nodes + o.count) (extents parts all)) (λ all.
    digest_fields shape bytes (54 + 8 * parts) o (λ p. Joined p (extents parts all)))
tail_fields shape known (bytes, Whole r) = Late 2 (bytes == 4) (End r)

-- all fields of a record
abbrev pub record_fields : Shape → Known → Table Record
record_fields shape known = and_then (head_fields shape known) (tail_fields shape known)
