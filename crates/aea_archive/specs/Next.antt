-- “Next record”: the blocks of an object's data, what is woven of them, and what is recorded. Of an object that is put it is
-- given by the payloads of blocks: those of the last parities, and those of the new nodes. Of one in parts it is given by the
-- data that are recorded and the blocks woven after them.
use Rattle.std.specs.Prelude.{◌≡◌, ℕ, zero, suc, ◌+◌, ◌-◌, ◌*◌, ◌<◌, ◌≤◌, List, [], ◌∷◌, ◌++◌, length, take, drop, replicate, slice_index_or, Option, Some, None}
use Rattle.std.specs.List.{flat_map}
use Rattle.sha2.specs.Sha256.{sha256}
use Rattle.aea_lattice.specs.declared.blocks.Class.{Class}
use Rattle.aea_lattice.specs.declared.blocks.Class.TheVariants.{Datum}
use Rattle.aea_lattice.specs.declared.blocks.BlockId.{BlockId}
use Rattle.aea_lattice.specs.declared.grid.Lattice.{Lattice}
use Rattle.aea_lattice.specs.declared.shape.Shape.{Shape}
use Rattle.aea_lattice.specs.Blocks.{block_of, HasParity}
use Rattle.aea_lattice.specs.Strands.{previous}
use Rattle.aea_lattice.specs.Shapes.{number_in}
use Rattle.aea_lattice.specs.Data.{xor_bytes, value_of}
use Rattle.aea_lattice.specs.Growth.{IsGrown}
use Rattle.aea_envelope.specs.Cells.{block_digest}
use Rattle.aea_catalog.specs.declared.objects.Extent.{Extent}
use Rattle.aea_records.specs.Format.{Stored, Record, Object, nodes_for}
use Rattle.aea_records.specs.Recorded.{blocks_in}
use Rattle.aea_archive.specs.Blocks.{IsBlockOn}

-- the first n blocks of these bytes, the bytes past their end taken as zeros
abbrev pub cut_blocks : ℕ → ℕ → List ℕ → List (List ℕ)
cut_blocks size zero bytes = []
cut_blocks size (suc n) bytes = take size (bytes ++ replicate size 0) ∷ cut_blocks size n (drop size bytes)

-- the data blocks of an object: as many as its bytes take, the last filled with zeros
abbrev pub object_blocks : Shape → List ℕ → List (List ℕ)
object_blocks shape bytes = cut_blocks shape.block (nodes_for shape (length bytes)) bytes

-- a new parity: its datum and, by XOR, the parity that enters its node; the datum alone where none enters
abbrev pub woven_parity : (BlockId → List ℕ) → Class → ℕ → Option ℕ → List ℕ
woven_parity payload c i None = payload (block_of i Datum)
woven_parity payload c i (Some g) = xor_bytes (payload (block_of g c)) (payload (block_of i Datum))

-- The data blocks are those of the nodes after `before`.
abbrev pub HoldsData : ℕ → List (List ℕ) → (BlockId → List ℕ) → Type 0
HoldsData before datas payload =
    (k : ℕ) → k < length datas → payload (block_of (before + 1 + k) Datum) ≡ slice_index_or datas k []

-- Each parity of the nodes after `before` is woven of its datum and the parity that enters. Where that one is older, it
-- is what the payloads say of it.
abbrev pub IsWovenAfter : Lattice → ℕ → (BlockId → List ℕ) → Type 0
IsWovenAfter l before payload =
    (i : ℕ) (c : Class) → before < i → i ≤ l.n → HasParity l c
    → payload (block_of i c) ≡ woven_parity payload c i (previous l c i)

-- The digests are those of the blocks of these nodes with their payloads, in number order.
pub record AreDigestsOn (shape : Shape) (before last : ℕ) (payload : BlockId → List ℕ) (digests : List (List ℕ)) : Type 0 where
  pub long : length digests ≡ (last - before) * (1 + shape.alpha)
  pub each : (b : BlockId) → IsBlockOn shape before last b
      → slice_index_or digests (number_in shape b - before * (1 + shape.alpha)) [] ≡ block_digest b (payload b)

-- “Next record” of an object, put under a name, where the lattice l of the archive grows to m and the blocks have these
-- payloads.
pub record IsNextStored (shape : Shape) (l m : Lattice) (payload : BlockId → List ℕ) (name bytes : List ℕ) (o : Stored) : Type 0 where
  pub name_is : o.name ≡ name
  pub size : o.size ≡ length bytes
  pub digest : o.digest ≡ sha256 bytes
  pub first : o.first ≡ l.n + 1
  pub count : o.count ≡ nodes_for shape (length bytes)
  pub grown : IsGrown l (l.n + o.count) m
  pub blocks : HoldsData l.n (object_blocks shape bytes) payload
  pub woven : IsWovenAfter m l.n payload
  pub digests : AreDigestsOn shape l.n m.n payload o.digests

-- an object that is put: its name and its bytes
pub record NewObject : Type 0 where
  pub name : List ℕ
  pub bytes : List ℕ

-- The records are those of these objects, put one after the other, and the lattice grows from l to m.
abbrev pub AreNextRecords : Shape → Lattice → Lattice → (BlockId → List ℕ) → List NewObject → List Record → Type 0
AreNextRecords shape l m payload [] [] = l ≡ m
AreNextRecords shape l m payload [] (r ∷ records) = ⊥
AreNextRecords shape l m payload (o ∷ objects) [] = ⊥
AreNextRecords shape l m payload (o ∷ objects) (r ∷ records) =
    (next : Lattice) × (stored : Stored) × (r ≡ Object stored) × IsNextStored shape l next payload o.name o.bytes stored
    × AreNextRecords shape next m payload objects records

-- “Next record” of an object, where the lattice l of the archive grows to m by its new nodes and their blocks have these
-- payloads: it has the name, and the length and the SHA-256 of the bytes; its new nodes come after those of l; and it has the
-- digests of all new blocks, also of blocks that belong to no object. There are two kinds, which say what blocks are new and
-- which of them are the object's: that of a put (`IsNextStored`), and that of an object in parts (`IsNextInParts`).
pub record IsNextWoven (shape : Shape) (l m : Lattice) (payload : BlockId → List ℕ) (name bytes : List ℕ) (o : Stored) : Type 0 where
  pub name_is : o.name ≡ name
  pub size : o.size ≡ length bytes
  pub digest : o.digest ≡ sha256 bytes
  pub first : o.first ≡ l.n + 1
  pub grown : IsGrown l (l.n + o.count) m
  pub digests : AreDigestsOn shape l.n m.n payload o.digests

-- “Next record” of an object in parts, where these blocks were woven after the data that were recorded, and the lattice l of
-- the archive grew to m: the blocks in its parts, joined, are its bytes and zeros after them, and its digests are those of the
-- new blocks in the lattice of all data.
pub record IsNextInParts (shape : Shape) (l m : Lattice) (datas more : List (List ℕ)) (name bytes : List ℕ) (parts : List Extent) (o : Stored) : Type 0 where
  pub next : IsNextWoven shape l m (value_of m shape.block (datas ++ more)) name bytes o
  pub count : o.count ≡ length more
  pub zeros : ℕ
  pub blocks : flat_map (λ d. d) (blocks_in parts (datas ++ more)) ≡ bytes ++ replicate zeros 0
