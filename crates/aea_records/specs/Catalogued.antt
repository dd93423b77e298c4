-- What a catalogue keeps of records: each object under its name, with its parts.
use Rattle.std.specs.Prelude.{◌≡◌, ℕ, List, [], ◌∷◌}
use Rattle.std.specs.List.{sum_by}
use Rattle.std.specs.FinMap.{empty, insert}
use Rattle.aea_catalog.specs.declared.objects.Extent.{Extent}
use Rattle.aea_catalog.specs.Catalogs.{Placed, Objects, placed_alone}
use Rattle.aea_records.specs.Format.{Stored, Record, Object, Joined, Fence, Raise}

-- the first node of some parts, or 0 where there is none
abbrev pub first_of : List Extent → ℕ
first_of [] = 0
first_of (e ∷ parts) = e.first

-- what is kept of an object whose nodes are all new
abbrev pub placed_object : Stored → Placed
placed_object o = placed_alone (record { first = o.first; count = o.count; length = o.size; digest = o.digest })

-- what is kept of one in parts: its first node is that of its first part, and it has as many nodes as all of them
abbrev pub placed_parts : Stored → List Extent → Placed
placed_parts o parts = record { object = record { first = first_of parts; count = sum_by (λ e. e.count) parts; length = o.size; digest = o.digest }; parts = parts }

-- the objects with that of this record, if it is of one
abbrev pub with_record : Objects → Record → Objects
with_record objects (Object o) = insert objects o.name (placed_object o)
with_record objects (Joined o parts) = insert objects o.name (placed_parts o parts)
with_record objects (Fence node) = objects
with_record objects Raise = objects

-- the objects with those of these records added one by one
abbrev pub objects_from : Objects → List Record → Objects
objects_from objects [] = objects
objects_from objects (r ∷ records) = objects_from (with_record objects r) records

-- the objects of these records
abbrev pub objects_of : List Record → Objects
objects_of records = objects_from empty records

-- the record is of an object under this name, and this is what is kept of it
abbrev pub PlacesUnder : List ℕ → Placed → Record → Type 0
PlacesUnder name placed (Object o) = (o.name ≡ name) × (placed ≡ placed_object o)
PlacesUnder name placed (Joined o parts) = (o.name ≡ name) × (placed ≡ placed_parts o parts)
PlacesUnder name placed (Fence node) = ⊥
PlacesUnder name placed Raise = ⊥
