-- Objects that were put one after the other, the records that are made of them, and the data list that they are.
use Rattle.std.specs.Prelude.{◌≡◌, ℕ, List, [], ◌∷◌, ◌++◌, length, Some}
use Rattle.std.specs.List.{flat_map}
use Rattle.std.specs.FinMap.{get}
use Rattle.sha2.specs.Sha256.{sha256}
use Rattle.aea_lattice.specs.declared.blocks.BlockId.{BlockId}
use Rattle.aea_lattice.specs.declared.grid.Lattice.{Lattice}
use Rattle.aea_lattice.specs.declared.shape.Shape.{Shape}
use Rattle.aea_catalog.specs.Catalogs.{Placed}
use Rattle.aea_records.specs.Catalogued.{objects_of}
use Rattle.aea_records.specs.Format.{Stored, Record, Object, Joined, Fence, Raise}
use Rattle.aea_ledger.specs.Recorded.{AreRecordsOf}
use Rattle.aea_archive.specs.Next.{NewObject, object_blocks, IsNextStored}
use Rattle.aea_archive.specs.Objects.{object_in}

-- The records are those of these objects, put one after the other, each with its name and its length; fences and raises of
-- the limit may come between them.
abbrev pub AreOfPuts : List Record → List NewObject → Type 0
AreOfPuts [] [] = Unit {0}
AreOfPuts [] (o ∷ puts) = ⊥
AreOfPuts (Object r ∷ records) [] = ⊥
AreOfPuts (Object r ∷ records) (o ∷ puts) = (r.name ≡ o.name) × (r.size ≡ length o.bytes) × AreOfPuts records puts
AreOfPuts (Joined r parts ∷ records) puts = ⊥
AreOfPuts (Fence node ∷ records) puts = AreOfPuts records puts
AreOfPuts (Raise ∷ records) puts = AreOfPuts records puts

-- the data list that they are: the blocks of each, one object after the other
abbrev pub datas_of : Shape → List NewObject → List (List ℕ)
datas_of shape puts = flat_map (λ o. object_blocks shape o.bytes) puts

-- The bytes of an object in a data list that is recorded have the length and the digest that are kept of it.
abbrev pub RecordedObjectsHaveTheirDigests : Type 0
RecordedObjectsHaveTheirDigests =
    (shape : Shape) (records : List Record) (datas : List (List ℕ)) (name : List ℕ) (p : Placed)
    → AreRecordsOf shape records datas → get (objects_of records) name ≡ Some p
    → (length (object_in p datas) ≡ p.object.length) × (sha256 (object_in p datas) ≡ p.object.digest)

-- Records of objects that were put, with the next record after them, are those of these objects and of that one.
abbrev pub PutsGoOn : Type 0
PutsGoOn =
    (shape : Shape) (records : List Record) (puts : List NewObject) (l m : Lattice) (payload : BlockId → List ℕ) (o : NewObject) (r : Stored)
    → AreOfPuts records puts → IsNextStored shape l m payload o.name o.bytes r
    → AreOfPuts (records ++ Object r ∷ []) (puts ++ o ∷ []) × (datas_of shape (puts ++ o ∷ []) ≡ datas_of shape puts ++ object_blocks shape o.bytes)
