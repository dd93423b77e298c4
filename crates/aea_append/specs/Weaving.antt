-- The state of weaving: heads, the payloads so far, and what was written.
use Rattle.std.specs.Prelude.{◌≡◌, ◌⊎◌, ℕ, ◌+◌, ◌-◌, ◌*◌, ◌<◌, ◌≤◌, List, [], ◌++◌, length, replicate, slice_index_or, Option, Some, None}
use Rattle.aea_lattice.specs.declared.blocks.Class.{Class}
use Rattle.aea_lattice.specs.declared.blocks.Class.TheVariants.{Datum}
use Rattle.aea_lattice.specs.declared.blocks.BlockId.{BlockId}
use Rattle.aea_lattice.specs.declared.grid.Lattice.{Lattice}
use Rattle.aea_lattice.specs.declared.shape.Shape.{Shape}
use Rattle.aea_lattice.specs.Blocks.{block_of, class_number, HasParity}
use Rattle.aea_lattice.specs.Strands.{strand_of}
use Rattle.aea_lattice.specs.Ends.{strands_of, last_open}
use Rattle.aea_lattice.specs.Growth.{IsGrown}
use Rattle.aea_lattice.specs.Data.{value_of}
use Rattle.aea_lattice.specs.Shapes.{number_in}
use Rattle.aea_envelope.specs.Cells.{block_digest, cell_of}
use Rattle.aea_disk.specs.Files.{Files}
use Rattle.aea_shelf.specs.Places.{HasAtHome}
use Rattle.aea_shelf.specs.Intact.{IsIntact}
use Rattle.aea_weave.specs.Woven.{Woven, head_of}
use Rattle.aea_weave.specs.Sums.{AreStrandSums}
use Rattle.aea_archive.specs.Blocks.{IsBlockOn}
use Rattle.aea_archive.specs.Cells.{AreAtHome}
use Rattle.aea_archive.specs.Lasts.{IsLastParity, AreLastsRecorded, AreLastsAtHome}
use Rattle.aea_archive.specs.Next.{HoldsData, IsWovenAfter, AreDigestsOn}
use Rattle.aea_append.specs.declared.fault.PutFault.{PutFault}
use Rattle.aea_append.specs.declared.fault.PutFault.TheVariants.{ReadFault, DiskFault, NoMemory}

-- the payload of a block of the last node that was woven, whose datum this is
abbrev pub last_payload : Woven → List ℕ → Class → List ℕ
last_payload v datum Datum = datum
last_payload v datum c = head_of v c (strand_of v.lattice c v.lattice.n)

-- the digest of a block of that node
abbrev pub last_digest : Woven → List ℕ → Class → List ℕ
last_digest v datum c = block_digest (block_of v.lattice.n c) (last_payload v datum c)

-- the cells of that node are at their homes
abbrev pub AreLastAtHome : Shape → Woven → List ℕ → Files → Type 0
AreLastAtHome shape v datum c =
    (class : Class) → class_number class ≤ shape.alpha
    → HasAtHome shape (block_of v.lattice.n class) (cell_of (block_of v.lattice.n class) (last_payload v datum class)) c

-- what a head is: the payload of the last open node's parity on its strand, zeros where there is none
abbrev pub head_by : ℕ → (BlockId → List ℕ) → Class → Option ℕ → List ℕ
head_by size payload c None = replicate size 0
head_by size payload c (Some g) = payload (block_of g c)

-- the heads are these payloads
abbrev pub AreHeads : Woven → (BlockId → List ℕ) → Type 0
AreHeads v payload =
    (c : Class) (strand : ℕ) → HasParity v.lattice c → strand < strands_of v.lattice c
    → head_of v c strand ≡ head_by v.size payload c (last_open v.lattice c strand)

-- Nodes were woven after those of a lattice, of these data blocks: with which payloads, and with which digests.
pub record HasWoven (reveals : Type 0) (shape : Shape) (l : Lattice) (recorded : List (List ℕ)) (first files : Files) (v : Woven) (datas digests : List (List ℕ)) : Type 0 where
  pub payload : BlockId → List ℕ
  -- the last parities of the lattice have the recorded digests and, where the disk's contents are known, were at their homes
  pub lasts : AreLastsRecorded shape l recorded payload
  pub homes : reveals → AreLastsAtHome shape l payload first
  pub lasts_wide : (b : BlockId) → IsLastParity l b → length (payload b) ≡ shape.block
  pub grown : IsGrown l (l.n + length datas) v.lattice
  pub heads : AreHeads v payload
  pub blocks : HoldsData l.n datas payload
  pub woven : IsWovenAfter v.lattice l.n payload
  pub digests_are : AreDigestsOn shape l.n v.lattice.n payload digests
  -- the cells of the new blocks are at their homes
  pub cells : reveals → AreAtHome shape l.n v.lattice.n payload files
  pub wide : (b : BlockId) → IsBlockOn shape l.n v.lattice.n b → length (payload b) ≡ shape.block

-- Nodes were woven after those of a lattice of these data, of these further blocks: the heads are the strand sums of all data,
-- and the digests are those of the new blocks in their lattice.
pub record IsWovenOf (shape : Shape) (l : Lattice) (v : Woven) (datas more digests : List (List ℕ)) : Type 0 where
  pub grown : IsGrown l (l.n + length more) v.lattice
  pub size : v.size ≡ shape.block
  pub sums : AreStrandSums v (datas ++ more)
  pub digests_are : AreDigestsOn shape l.n v.lattice.n (value_of v.lattice shape.block (datas ++ more)) digests

-- the block is intact by its digest among these, which are those of the nodes after `before` in number order
abbrev pub IsIntactAmong : Shape → ℕ → List (List ℕ) → Files → BlockId → Type 0
IsIntactAmong shape before digests c b = IsIntact shape b (slice_index_or digests (number_in shape b - before * (1 + shape.alpha)) []) c

-- There is a digest for each block of the nodes after `before` up to `last` and, where the disk's contents are known, each of
-- these blocks is intact by its own.
pub record AreIntactOn (reveals : Type 0) (shape : Shape) (before last : ℕ) (digests : List (List ℕ)) (c : Files) : Type 0 where
  pub long : length digests ≡ (last - before) * (1 + shape.alpha)
  pub each : reveals → (b : BlockId) → IsBlockOn shape before last b → IsIntactAmong shape before digests c b

-- the fault is of the disk, or of memory
abbrev pub IsStopping : PutFault → Type 0
IsStopping fault = (fault ≡ DiskFault) ⊎ (fault ≡ NoMemory)

-- the fault is of the source, of the disk, or of memory
abbrev pub IsBroken : PutFault → Type 0
IsBroken fault = (fault ≡ ReadFault) ⊎ IsStopping fault
