-- The data that an archive records, and what its survivors have of them.
use Rattle.std.specs.Prelude.{◌≡◌, ℕ, List, ◌++◌, Bool}
use Rattle.aea_lattice.specs.declared.blocks.BlockId.{BlockId}
use Rattle.aea_lattice.specs.declared.grid.Lattice.{Lattice}
use Rattle.aea_lattice.specs.declared.shape.Shape.{Shape}
use Rattle.aea_lattice.specs.Data.{value_of}
use Rattle.aea_disk.specs.Files.{Files}
use Rattle.aea_shelf.specs.Honest.{IsHonest, IsHonestOn, IsPlain}
use Rattle.aea_records.specs.Format.{Record}
use Rattle.aea_ledger.specs.Recorded.{AreRecordsOf}
use Rattle.aea_archive.specs.Blocks.{IsBlockOn, recorded_in}

-- the survivors of the archive with these digests are honest for the data list
abbrev pub AreSurvivorsHonest : Shape → Lattice → List (List ℕ) → List (List ℕ) → Files → Type 0
AreSurvivorsHonest shape l digests datas c = IsHonest l shape (recorded_in shape digests) datas c

-- those that a test picks are
abbrev pub AreSomeHonest : (BlockId → Bool) → Shape → Lattice → List (List ℕ) → List (List ℕ) → Files → Type 0
AreSomeHonest picks shape l digests datas c = IsHonestOn picks l shape (recorded_in shape digests) datas c

-- its damage is plain
abbrev pub IsDamagePlain : Shape → Lattice → List (List ℕ) → Files → Type 0
IsDamagePlain shape l digests c = IsPlain l shape (recorded_in shape digests) c

-- The records, with one more, record the first data and the others after them; and the blocks of the nodes after those
-- of l have these payloads in the lattice m of all.
pub record RecordsMore (shape : Shape) (records added : List Record) (datas more : List (List ℕ)) (l m : Lattice) (payload : BlockId → List ℕ) : Type 0 where
  pub recorded : AreRecordsOf shape (records ++ added) (datas ++ more)
  pub values : (b : BlockId) → IsBlockOn shape l.n m.n b → payload b ≡ value_of m shape.block (datas ++ more) b
