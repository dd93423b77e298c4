-- Sessions over these archives, once the limit on nodes was raised.
use Rattle.std.specs.Prelude.{ℕ, [], ◌∷◌}
use Rattle.aea_lattice.specs.declared.grid.Lattice.{Lattice}
use Rattle.aea_lattice.specs.declared.shape.Shape.{Shape}
use Rattle.aea_disk.specs.Files.{Files, ChangesOnly}
use Rattle.aea_disk.specs.Spaces.{Memory}
use Rattle.aea_shelf.specs.Places.{site_bytes}
use Rattle.aea_records.specs.Format.{Stored, Object, Raise, raised_limit}
use Rattle.aea_ledger.specs.Stops.{HasLedger}
use Rattle.aea_archive.specs.Next.{NewObject}
use Rattle.aea_dispatch.specs.declared.command.Command.TheVariants.{Session}
use Rattle.aea_run_laws.specs.Meeting.{HasFiles, Meets}
use Rattle.aea_run_laws.specs.Standing.{IsOneBlock, HasTheObject}

-- The limit was raised: after the record of the object the ledger has that of the raise, and no other file changed.
pub record IsRaisedFrom (shape : Shape) (r : Stored) (c e : Files) : Type 0 where
  pub ledger : HasLedger shape (Object r ∷ Raise ∷ []) (e 0)
  pub others : ChangesOnly 0 c e

-- Of each object of one block there are such an archive and the same with a raised limit; and on disks in memory with space for all rows
-- that the sites may then have, a session over an input without messages meets all that is asked, and prints nothing.
abbrev pub SessionsAreMet : Type 0
SessionsAreMet =
    (o : NewObject) → IsOneBlock o
    → (shape : Shape) × (l : Lattice) × (r : Stored) × (c : Files) × (e : Files) × HasTheObject shape l r o c × IsRaisedFrom shape r c e
    × ((room : ℕ) → (m : Memory) × HasFiles e room m) × Meets e (site_bytes shape raised_limit) 0 Session []
