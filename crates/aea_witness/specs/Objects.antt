-- The objects that the witness puts, and what an archive is that has them.
use Rattle.std.specs.Prelude.{◌≡◌, ◌≢◌, ℕ, ◌+◌, ◌*◌, ◌≤◌, List, [], ◌∷◌, ◌++◌, length, take, codes, false, Some, All}
use Rattle.std.specs.FinMap.{get}
use Rattle.aea_lattice.specs.declared.blocks.BlockId.{BlockId}
use Rattle.aea_lattice.specs.Blocks.{HasBlock}
use Rattle.aea_disk.specs.Files.{Files}
use Rattle.aea_catalog.specs.Catalogs.{Placed}
use Rattle.aea_catalog.specs.Names.{IsName}
use Rattle.aea_records.specs.Format.{Record}
use Rattle.aea_ledger.specs.Recorded.{AreRecordsOf}
use Rattle.aea_ledger.specs.Values.{Opened}
use Rattle.aea_ledger.specs.Next.{AreItsRecords}
use Rattle.aea_archive.specs.Blocks.{IsIntactBy}
use Rattle.aea_archive.specs.Data.{AreSurvivorsHonest}
use Rattle.aea_archive.specs.Next.{NewObject}
use Rattle.aea_append.specs.Frames.{frame_of}
use Rattle.aea_fetch.specs.Puts.{AreOfPuts, datas_of}
use Rattle.aea_rehearse.specs.Rehearsed.{IsRehearsalShape}

-- the first object that is put
abbrev pub first_object : NewObject
first_object = record { name = codes "first"; bytes = codes "what was put first" }

-- the second one
abbrev pub second_object : NewObject
second_object = record { name = codes "second"; bytes = codes "what was put after it" }

-- the third one, whose frame is whole in the stream that is ingested
abbrev pub third_object : NewObject
third_object = record { name = codes "third"; bytes = codes "what a frame had" }

-- the fourth one, of whose frame the stream has only the first bytes
abbrev pub fourth_object : NewObject
fourth_object = record { name = codes "fourth"; bytes = codes "what never came whole" }

-- what the stream has of that frame: all but the last 11 bytes
abbrev pub cut_frame : List ℕ
cut_frame = take 26 (frame_of fourth_object)

-- the stream that is ingested
abbrev pub witness_stream : List ℕ
witness_stream = frame_of third_object ++ cut_frame

-- the object with this name and these bytes
abbrev pub object_of : List ℕ → List ℕ → NewObject
object_of name bytes = record { name = name; bytes = bytes }

-- The object is small: its name is one of at most 16 bytes, and it has a byte and no more than one block takes.
pub record IsSmall (o : NewObject) : Type 0 where
  pub name : IsName o.name
  pub named : 1 ≤ length o.name
  pub short : length o.name ≤ 16
  pub some : 1 ≤ length o.bytes
  pub block : length o.bytes ≤ 512

-- no object that was put has this name
abbrev pub IsNewName : List ℕ → List NewObject → Type 0
IsNewName name puts = All (λ o. o.name ≢ name) puts

-- The object is that of the first node: under its name is found its length, and the range of this node alone.
pub record IsFirst (v : Opened) (o : NewObject) : Type 0 where
  pub placed : Placed
  pub found : get v.objects o.name ≡ Some placed
  pub parts : placed.parts ≡ record { first = 1; count = 1 } ∷ []
  pub long : placed.object.length ≡ length o.bytes

-- each block of the archive is intact
abbrev pub AreAllIntact : Opened → Files → Type 0
AreAllIntact v c = (b : BlockId) → HasBlock v.lattice b → IsIntactBy v.shape v.digests c b

-- The archive has the shape of a rehearsal, and these objects, put one after the other, of one node each. Its ledger has their
-- records, which record the data list that they are; all its blocks are intact, and honest for that list.
pub record HasPuts (v : Opened) (puts : List NewObject) (c : Files) : Type 0 where
  pub shape : IsRehearsalShape v.shape
  pub records : List Record
  pub its : AreItsRecords v records (c 0)
  pub are : AreOfPuts records puts
  pub recorded : AreRecordsOf v.shape records (datas_of v.shape puts)
  pub intact : AreAllIntact v c
  pub honest : AreSurvivorsHonest v.shape v.lattice v.digests (datas_of v.shape puts) c
  pub nodes : v.lattice.n ≡ length puts
  pub raised : v.raised ≡ false
  pub long : length (c 0) ≤ 18 + 200 * length puts
  pub first : (o : NewObject) (more : List NewObject) → puts ≡ o ∷ more → IsFirst v o
