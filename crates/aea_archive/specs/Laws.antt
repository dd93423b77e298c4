-- What follows of the definitions.
use Rattle.std.specs.Prelude.{◌≡◌, Bool, ◌+◌, ◌*◌, ◌≤◌, ◌++◌, length, ℕ, List, [], ◌∷◌, All}
use Rattle.std.specs.List.{flat_map}
use Rattle.aea_lattice.specs.declared.blocks.BlockId.{BlockId}
use Rattle.aea_lattice.specs.declared.grid.Lattice.{Lattice}
use Rattle.aea_lattice.specs.declared.shape.Shape.{Shape}
use Rattle.aea_catalog.specs.declared.objects.Extent.{Extent}
use Rattle.aea_records.specs.TableLaws.{AreBytes}
use Rattle.aea_records.specs.Format.{Stored, Record, Object, Joined, nodes_of, fences_of}
use Rattle.aea_records.specs.Grammar.{IsNext, MayFollow, AreRecords}
use Rattle.aea_ledger.specs.Recorded.{IsLatticeOf, AreRecordsOf}
use Rattle.aea_lattice.specs.Data.{IsDataList, value_of}
use Rattle.aea_lattice.specs.Growth.{IsGrown}
use Rattle.aea_disk.specs.Files.{Files}
use Rattle.aea_shelf.specs.Writes.{KeepsPadded, KeepsIntact}
use Rattle.aea_archive.specs.Blocks.{IsBlockOn, IsBlockIn, RevealsSurvivors}
use Rattle.aea_archive.specs.Cells.{AreAtHome}
use Rattle.aea_archive.specs.Lasts.{IsLastParity, AreLastsHonest, AreLastsRecorded, AreLastsAtHome, AreLastsOf}
use Rattle.aea_archive.specs.Next.{AreDigestsOn, object_blocks, IsNextStored, IsNextInParts, NewObject, AreNextRecords}
use Rattle.aea_archive.specs.Data.{AreSurvivorsHonest, IsDamagePlain, RecordsMore}

-- An archive without records records no data.
abbrev pub NoneRecordNone : Type 0
NoneRecordNone = (shape : Shape) → AreRecordsOf shape [] []

-- Where records record a data list, and the payloads of the last parities are those of its lattice, the records with the
-- next one record the list followed by the object's blocks, and the new blocks have the payloads of that lattice.
abbrev pub NextRecordsMore : Type 0
NextRecordsMore =
    (shape : Shape) (records : List Record) (datas : List (List ℕ)) (l m : Lattice) (payload : BlockId → List ℕ)
    (name bytes : List ℕ) (o : Stored)
    → AreRecordsOf shape records datas → IsLatticeOf shape (nodes_of records) (fences_of records) l
    → AreLastsOf shape l datas payload → AreBytes bytes
    → IsNext shape records (Object o) → IsNextStored shape l m payload name bytes o
    → RecordsMore shape records (Object o ∷ []) datas (object_blocks shape bytes) l m payload

-- The same of several objects, put one after the other: the records then record the list followed by the blocks of all.
abbrev pub ObjectsRecordMore : Type 0
ObjectsRecordMore =
    (shape : Shape) (records added : List Record) (datas : List (List ℕ)) (l m : Lattice) (payload : BlockId → List ℕ)
    (objects : List NewObject)
    → AreRecordsOf shape records datas → IsLatticeOf shape (nodes_of records) (fences_of records) l
    → AreLastsOf shape l datas payload → All (λ o. AreBytes o.bytes) objects
    → MayFollow shape records added → AreNextRecords shape l m payload objects added
    → RecordsMore shape records added datas (flat_map (λ o. object_blocks shape o.bytes) objects) l m payload

-- So an archive that was made, and into which objects were put, records their blocks.
abbrev pub PutsRecord : Type 0
PutsRecord =
    (shape : Shape) (records : List Record) (l m : Lattice) (payload : BlockId → List ℕ) (objects : List NewObject)
    → IsLatticeOf shape 0 [] l → All (λ o. AreBytes o.bytes) objects
    → AreRecords shape records → AreNextRecords shape l m payload objects records
    → AreRecordsOf shape records (flat_map (λ o. object_blocks shape o.bytes) objects)

-- Where records record a data list, the records with that of an object in parts after them record the list followed by the
-- blocks that were woven after it, also where some of these belong to no object.
abbrev pub PartsRecordMore : Type 0
PartsRecordMore =
    (shape : Shape) (records : List Record) (datas more : List (List ℕ)) (l m : Lattice)
    (name bytes : List ℕ) (parts : List Extent) (o : Stored)
    → AreRecordsOf shape records datas → IsLatticeOf shape (nodes_of records) (fences_of records) l
    → IsDataList m shape.block (datas ++ more)
    → IsNext shape records (Joined o parts) → IsNextInParts shape l m datas more name bytes parts o
    → AreRecordsOf shape (records ++ Joined o parts ∷ []) (datas ++ more)

-- Last parities whose cells are at their homes, with the digests that are kept, have the payloads of the lattice of each
-- data list for which they are honest.
abbrev pub LastsAreValues : Type 0
LastsAreValues =
    (shape : Shape) (l : Lattice) (digests datas : List (List ℕ)) (payload : BlockId → List ℕ) (c : Files)
    → AreLastsHonest shape l digests datas c → AreLastsRecorded shape l digests payload → AreLastsAtHome shape l payload c
    → ((b : BlockId) → IsLastParity l b → length (payload b) ≡ shape.block)
    → AreLastsOf shape l datas payload

-- Survivors that are honest, in plain damage, are so after blocks were added: where the homes before read the same with
-- zeros past the ends, and those of the new blocks have the cells of the longer lattice.
abbrev pub SurvivorsStayHonest : Type 0
SurvivorsStayHonest =
    (shape : Shape) (l m : Lattice) (digests ds datas more : List (List ℕ)) (payload : BlockId → List ℕ) (c d : Files)
    → IsGrown l m.n m → l.n ≤ m.n → l.alpha ≡ shape.alpha → length datas ≡ l.n → length digests ≡ l.n * (1 + shape.alpha)
    → ((b : BlockId) → IsBlockOn shape l.n m.n b → payload b ≡ value_of m shape.block (datas ++ more) b)
    → ((b : BlockId) → IsBlockOn shape l.n m.n b → length (payload b) ≡ shape.block)
    → AreDigestsOn shape l.n m.n payload ds → AreAtHome shape l.n m.n payload d
    → KeepsPadded shape (IsBlockIn shape l.n) c d → KeepsIntact shape (IsBlockIn shape l.n) c d
    → AreSurvivorsHonest shape l digests datas c → IsDamagePlain shape l digests c
    → AreSurvivorsHonest shape m (digests ++ ds) (datas ++ more) d × IsDamagePlain shape m (digests ++ ds) d

-- Whatever is in the files, some test distinguishes the survivors: what is said of each such test is said of one.
abbrev pub SurvivorsAreRevealed : Type 0
SurvivorsAreRevealed =
    (shape : Shape) (nodes : ℕ) (digests : List (List ℕ)) (c : Files)
    → (known : BlockId → Bool) × RevealsSurvivors shape nodes digests c known
