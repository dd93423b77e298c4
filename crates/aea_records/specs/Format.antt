-- Records of a ledger, and how a ledger is spelled: the header, and the bodies of records. All numbers are written high
-- byte first.
use Rattle.std.specs.Prelude.{ℕ, ◌+◌, ◌-◌, ◌/◌, ◌==◌, Bool, true, false, if◌then◌else◌, List, [], ◌∷◌, ◌++◌, length, codes}
use Rattle.std.specs.List.{flat_map, sum_by, list_any}
use Rattle.std.specs.Int.{w16, w32, w64, to_be_bytes}
use Rattle.aea_lattice.specs.declared.shape.Shape.{Shape}
use Rattle.aea_catalog.specs.declared.objects.Extent.{Extent}

-- What a record says of an object: its name, its length in bytes and its digest; the first of the nodes that are new with
-- it, and how many these are; and the digests of their blocks in number order.
pub record Stored : Type 0 where
  pub name : List ℕ
  pub size : ℕ
  pub digest : List ℕ
  pub first : ℕ
  pub count : ℕ
  pub digests : List (List ℕ)

-- A record: an object whose nodes are all new; an object in parts, which may be of earlier nodes too; a fence after a
-- node; or a raise of the limit on nodes.
pub data Record : Type 0 where
  Object : Stored → Record
  Joined : Stored → List Extent → Record
  Fence : ℕ → Record
  Raise : Record

-- a gate that is open: a record's body follows it
abbrev pub open_gate : ℕ
open_gate = 1

-- the most objects of a ledger
abbrev pub greatest_objects : ℕ
greatest_objects = 65536

-- the most nodes before the limit is raised, and after it
abbrev pub first_limit : ℕ
first_limit = 65536

abbrev pub raised_limit : ℕ
raised_limit = 1048576

-- how many nodes an object of so many bytes takes: its length divided by the block size, rounded up
abbrev pub nodes_for : Shape → ℕ → ℕ
nodes_for shape bytes = (bytes + shape.block - 1) / shape.block

-- the object that a record is of, if it is of one
abbrev pub stored_in : Record → List Stored
stored_in (Object o) = o ∷ []
stored_in (Joined o parts) = o ∷ []
stored_in (Fence node) = []
stored_in Raise = []

-- the objects of records, in order
abbrev pub stored_of : List Record → List Stored
stored_of records = flat_map stored_in records

-- how many nodes the records have
abbrev pub nodes_of : List Record → ℕ
nodes_of records = sum_by (λ o. o.count) (stored_of records)

-- the digests of all blocks of the records, in number order
abbrev pub digests_of : List Record → List (List ℕ)
digests_of records = flat_map (λ o. o.digests) (stored_of records)

-- the parts of an object whose nodes are all new: their range, or none where there is no node
abbrev pub own_parts : Stored → List Extent
own_parts o = if o.count == 0 then [] else record { first = o.first; count = o.count } ∷ []

-- the parts of the object of a record
abbrev pub parts_of : Record → List Extent
parts_of (Object o) = own_parts o
parts_of (Joined o parts) = parts
parts_of (Fence node) = []
parts_of Raise = []

-- the fence that a record is, if it is one
abbrev pub fence_in : Record → List ℕ
fence_in (Object o) = []
fence_in (Joined o parts) = []
fence_in (Fence node) = node ∷ []
fence_in Raise = []

-- the fences of records, in order
abbrev pub fences_of : List Record → List ℕ
fences_of records = flat_map fence_in records

-- whether a record is a raise of the limit
abbrev pub is_raise : Record → Bool
is_raise (Object o) = false
is_raise (Joined o parts) = false
is_raise (Fence node) = false
is_raise Raise = true

-- the limit on nodes, where it was raised or not
abbrev pub limit_when : Bool → ℕ
limit_when raised = if raised then raised_limit else first_limit

-- the limit on nodes after these records
abbrev pub limit_of : List Record → ℕ
limit_of records = limit_when (list_any is_raise records)

-- The header, 17 bytes: its gate, open; the mark; α, s, p and the number of sites, a byte each; and the block size, in
-- 4 bytes.
abbrev pub header : Shape → List ℕ
header shape =
    open_gate ∷ codes "AEALEDG1"
    ++ shape.alpha ∷ shape.s ∷ shape.p ∷ shape.sites
    ∷ to_be_bytes w32 shape.block

-- The first fields of an object: the length of its name, in 2 bytes, and the name; its length, in 8; its digest, in 32;
-- its first new node and the number of these, in 4 each.
abbrev pub front : Stored → List ℕ
front o =
    to_be_bytes w16 (length o.name) ++ o.name ++ to_be_bytes w64 o.size ++ o.digest ++ to_be_bytes w32 o.first ++ to_be_bytes w32 o.count

-- a part: its first node and its number of nodes, in 4 bytes each
abbrev pub part : Extent → List ℕ
part e = to_be_bytes w32 e.first ++ to_be_bytes w32 e.count

-- The kind of a record, and the fields after the number of bytes that they have: of an object with new nodes alone, its
-- first fields and the digests, in 32 bytes each; of one in parts, besides the number of parts, in 4, and the parts before
-- the digests; of a fence its node, in 4; of a raise the new limit, in 4.
abbrev pub kind_of : Record → ℕ
kind_of (Object o) = 1
kind_of (Fence node) = 2
kind_of (Joined o parts) = 3
kind_of Raise = 4

abbrev pub rest_of : Record → List ℕ
rest_of (Object o) = front o ++ flat_map (λ d. d) o.digests
rest_of (Fence node) = to_be_bytes w32 node
rest_of (Joined o parts) = front o ++ to_be_bytes w32 (length parts) ++ flat_map part parts ++ flat_map (λ d. d) o.digests
rest_of Raise = to_be_bytes w32 raised_limit

-- the body of a record: its kind, in 1 byte; the number of bytes that follow this field, in 4; and these
abbrev pub body : Record → List ℕ
body r = kind_of r ∷ to_be_bytes w32 (length (rest_of r)) ++ rest_of r

-- an open gate, and the body after it
abbrev pub entry : Record → List ℕ
entry r = open_gate ∷ body r

-- a ledger up to the gate that ends it: the header and, for each record, an open gate and its body
abbrev pub spelled : Shape → List Record → List ℕ
spelled shape records = header shape ++ flat_map entry records
