-- Archives with one small object, whole and with a lost site, and what is so of them.
use Rattle.std.specs.Prelude.{◌≡◌, ◌≢◌, ◌≤◌, [], ◌∷◌, length}
use Rattle.sha2.specs.Sha256.{sha256}
use Rattle.aea_lattice.specs.declared.blocks.Class.TheVariants.{Datum}
use Rattle.aea_lattice.specs.declared.grid.Lattice.{Lattice}
use Rattle.aea_lattice.specs.declared.shape.Shape.{Shape}
use Rattle.aea_lattice.specs.declared.blocks.BlockId.{BlockId}
use Rattle.aea_lattice.specs.Blocks.{HasBlock, block_of}
use Rattle.aea_catalog.specs.Names.{IsName}
use Rattle.aea_disk.specs.Files.{Files, ChangesFile}
use Rattle.aea_records.specs.Format.{Stored, Object}
use Rattle.aea_records.specs.TableLaws.{AreBytes}
use Rattle.aea_ledger.specs.Recorded.{IsLatticeOf, AreRecordsOf}
use Rattle.aea_ledger.specs.Stops.{HasLedger}
use Rattle.aea_archive.specs.Blocks.{IsIntactBy}
use Rattle.aea_archive.specs.Data.{AreSurvivorsHonest, IsDamagePlain}
use Rattle.aea_archive.specs.Next.{NewObject, object_blocks}

-- The object has a name and a byte, and no more than one block of 512 bytes takes.
pub record IsOneBlock (o : NewObject) : Type 0 where
  pub name : IsName o.name
  pub short : length o.name ≤ 255
  pub some : 1 ≤ length o.bytes
  pub few : length o.bytes ≤ 512
  pub bytes : AreBytes o.bytes

-- An archive of this shape and lattice with the object alone: its ledger has the one record, which records its block; and all its
-- blocks are intact.
pub record HasTheObject (shape : Shape) (l : Lattice) (r : Stored) (o : NewObject) (c : Files) : Type 0 where
  pub name : r.name ≡ o.name
  pub size : r.size ≡ length o.bytes
  pub digest : r.digest ≡ sha256 o.bytes
  pub nodes : l.n ≡ 1
  pub lattice : IsLatticeOf shape 1 [] l
  pub ledger : HasLedger shape (Object r ∷ []) (c 0)
  pub recorded : AreRecordsOf shape (Object r ∷ []) (object_blocks shape o.bytes)
  pub intact : (b : BlockId) → HasBlock l b → IsIntactBy shape r.digests c b

-- Its first site is lost: the datum is damaged, all other blocks are intact, the survivors are honest for the block of the object, and
-- the damage is plain.
pub record HasLostSite (shape : Shape) (l : Lattice) (r : Stored) (o : NewObject) (c d : Files) : Type 0 where
  pub loses : ChangesFile 1 (λ before after. after ≡ []) c d
  pub damaged : IsIntactBy shape r.digests d (block_of 1 Datum) → ⊥
  pub others : (b : BlockId) → HasBlock l b → b ≢ block_of 1 Datum → IsIntactBy shape r.digests d b
  pub honest : AreSurvivorsHonest shape l r.digests (object_blocks shape o.bytes) d
  pub plain : IsDamagePlain shape l r.digests d

-- Of each object of one block there is such an archive, and the same with a lost site.
abbrev pub DamagedArchivesStand : Type 0
DamagedArchivesStand =
    (o : NewObject) → IsOneBlock o
    → (shape : Shape) × (l : Lattice) × (r : Stored) × (c : Files) × (d : Files) × HasTheObject shape l r o c × HasLostSite shape l r o c d
