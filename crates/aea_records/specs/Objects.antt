-- The record of an object that is given by its fields, its name, its digests and its parts.
use Rattle.std.specs.Prelude.{ℕ, List, Option, None, Some}
use Rattle.aea_catalog.specs.declared.objects.Extent.{Extent}
use Rattle.aea_records.specs.Format.{Stored, Record, Object, Joined}
use Rattle.aea_records.specs.declared.heads.ObjectFields.{ObjectFields}

-- the object of these fields, under the name and with the digests
abbrev pub stored_as : List ℕ → ObjectFields → List (List ℕ) → Stored
stored_as name o digests =
    record { name = name; size = o.size; digest = o.digest; first = o.first; count = o.count; digests = digests }

-- the record of an object, which is in parts where there are some
abbrev pub made : Stored → Option (List Extent) → Record
made o None = Object o
made o (Some parts) = Joined o parts
