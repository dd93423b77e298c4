-- “Next record” of an append call, and what the call leaves.
use Rattle.std.specs.Prelude.{◌≡◌, ℕ, ◌+◌, List, Option, None, Some, true, IsTrue}
use Rattle.aea_catalog.specs.declared.objects.Extent.{Extent}
use Rattle.aea_records.specs.Format.{Stored, Record, nodes_for}
use Rattle.aea_records.specs.Fields.{are_parts}
use Rattle.aea_records.specs.Grammar.{IsLedger}
use Rattle.aea_ledger.specs.Values.{Opened, HasRecords}

-- the object of these arguments, after the nodes that the ledger has
abbrev pub next_stored : Opened → List ℕ → ℕ → List ℕ → ℕ → List (List ℕ) → Stored
next_stored v name size digest count digests =
    record { name = name; size = size; digest = digest; first = v.lattice.n + 1; count = count; digests = digests }

-- So many new nodes, with the parts where there are some, are what an object of this size takes after the opened ledger.
abbrev pub HasNodes : Opened → ℕ → ℕ → Option (List Extent) → Type 0
HasNodes v size count None = count ≡ nodes_for v.shape size
HasNodes v size count (Some parts) = (v.raised ≡ true) × IsTrue (are_parts v.shape size (v.lattice.n + count) parts)

-- these are the records of the opened ledger, and of the bytes that it was read from
pub record AreItsRecords (v : Opened) (records : List Record) (bytes : List ℕ) : Type 0 where
  pub has : HasRecords v records
  pub ledger : IsLedger bytes v.shape records v.end
