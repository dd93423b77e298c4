-- “Records”: the data list that a ledger records.
use Rattle.std.specs.Prelude.{◌≡◌, ℕ, List, map}
use Rattle.aea_lattice.specs.declared.shape.Shape.{Shape}
use Rattle.aea_lattice.specs.declared.grid.Lattice.{Lattice}
use Rattle.aea_lattice.specs.Blocks.{blocks_of}
use Rattle.aea_lattice.specs.Data.{IsDataList, value_of}
use Rattle.aea_envelope.specs.Cells.{block_digest}
use Rattle.aea_records.specs.Format.{Record, nodes_of, fences_of, digests_of}
use Rattle.aea_records.specs.Grammar.{AreRecords}
use Rattle.aea_records.specs.Recorded.{HoldsRecords}

-- the lattice is the one of this shape with so many nodes and these fences
pub record IsLatticeOf (shape : Shape) (nodes : ℕ) (fences : List ℕ) (l : Lattice) : Type 0 where
  pub alpha : l.alpha ≡ shape.alpha
  pub s : l.s ≡ shape.s
  pub p : l.p ≡ shape.p
  pub n : l.n ≡ nodes
  pub fences_are : l.fences ≡ fences

-- The records record the data list: it has as many blocks as the objects' new nodes, each of the block size; the fences of
-- its lattice are theirs; the digests are those of the blocks of this lattice, in number order; and it holds the objects.
pub record AreRecordsOf (shape : Shape) (records : List Record) (datas : List (List ℕ)) : Type 0 where
  pub valid : AreRecords shape records
  pub lattice : Lattice
  pub is_lattice : IsLatticeOf shape (nodes_of records) (fences_of records) lattice
  pub is_data : IsDataList lattice shape.block datas
  pub digests : digests_of records ≡ map (λ b. block_digest b (value_of lattice shape.block datas b)) (blocks_of lattice)
  pub objects : HoldsRecords datas records
