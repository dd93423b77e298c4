-- The intact blocks of an archive that are honest.
use Rattle.std.specs.Prelude.{ℕ, List}
use Rattle.aea_lattice.specs.declared.grid.Lattice.{Lattice}
use Rattle.aea_lattice.specs.declared.shape.Shape.{Shape}
use Rattle.aea_disk.specs.Files.{Files}
use Rattle.aea_records.specs.Format.{Record, nodes_of, fences_of, digests_of}
use Rattle.aea_ledger.specs.Recorded.{IsLatticeOf, AreRecordsOf}
use Rattle.aea_ledger.specs.Stops.{HasLedger}
use Rattle.aea_archive.specs.Data.{AreSurvivorsHonest}

-- the intact blocks of the archive in these files are honest for a data list that its ledger records
pub record HasHonestSurvivors (files : Files) : Type 0 where
  pub shape : Shape
  pub records : List Record
  pub ledger : HasLedger shape records (files 0)
  pub lattice : Lattice
  pub is_lattice : IsLatticeOf shape (nodes_of records) (fences_of records) lattice
  pub datas : List (List ℕ)
  pub recorded : AreRecordsOf shape records datas
  pub honest : AreSurvivorsHonest shape lattice (digests_of records) datas files
