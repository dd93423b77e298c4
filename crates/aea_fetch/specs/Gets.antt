-- What `get` appends, and why it does not.
use Rattle.std.specs.Prelude.{◌≡◌, ◌⊎◌, ℕ, List, length, take, All, Some, Option, None, Result, Err}
use Rattle.std.specs.Io.KnownBytes.{Appends}
use Rattle.aea_io.specs.Streams.{SinkState}
use Rattle.aea_lattice.specs.declared.blocks.BlockId.{BlockId}
use Rattle.aea_lattice.specs.declared.shape.Shape.{Shape}
use Rattle.aea_disk.specs.Files.{Files}
use Rattle.aea_catalog.specs.Catalogs.{Placed}
use Rattle.aea_archive.specs.Blocks.{IsIntactBy}
use Rattle.aea_archive.specs.Objects.{data_of, ArePayloads, joined, IsOneOf}
use Rattle.aea_fetch.specs.Payloads.{IsPayload, IsFirstDamaged}
use Rattle.aea_fetch.specs.Copies.{HasCut}
use Rattle.aea_fetch.specs.declared.fault.GetFault.{GetFault}
use Rattle.aea_fetch.specs.declared.fault.GetFault.TheVariants.{Damaged, DiskFault, NoMemory, WriteFault}

-- what was found among blocks that were read: the first one that is not intact; all are, where none was found
abbrev pub IsFound : Type 0 → Shape → List (List ℕ) → Files → List BlockId → Option BlockId → Type 0
IsFound reveals shape digests c blocks None = reveals → All (IsIntactBy shape digests c) blocks
IsFound reveals shape digests c blocks (Some b) = IsOneOf blocks b × (reveals → IsFirstDamaged shape digests c blocks b)

-- A fault came, and the payloads of the blocks were cut short; a block is damaged only where it is not intact.
pub record HasBroken (reveals : Type 0) (shape : Shape) (digests : List (List ℕ)) (c : Files) (blocks : List BlockId) (most : ℕ) (old : SinkState) (before : List ℕ) (new : SinkState) (fault : GetFault) : Type 0 where
  pub cut : HasCut (IsPayload reveals shape digests c) blocks most old before new (fault ≡ WriteFault)
  pub damaged : (b : BlockId) → fault ≡ Damaged b → IsOneOf blocks b × (reveals → IsIntactBy shape digests c b → ⊥)

-- the fault is of the second pass: a block is damaged, the output failed, or the disk did
abbrev pub IsCopyFault : GetFault → Type 0
IsCopyFault fault = ((b : BlockId) × (fault ≡ Damaged b)) ⊎ ((fault ≡ WriteFault) ⊎ (fault ≡ DiskFault))

-- The object was got: what was appended is its first bytes, as many as its length says, of payloads of its data blocks.
pub record HasGot (reveals : Type 0) (shape : Shape) (digests : List (List ℕ)) (c : Files) (p : Placed) (old new : SinkState) : Type 0 where
  pub payloads : List (List ℕ)
  pub are : ArePayloads (IsPayload reveals shape digests c) (data_of p.parts) payloads
  pub long : length (take p.object.length (joined payloads)) ≡ p.object.length
  pub appended : Appends old.written new.written (take p.object.length (joined payloads))

-- the disk failed, or memory ran out
abbrev pub IsOutside : {T : Type 0} → Result T GetFault → Type 0
IsOutside result = (result ≡ Err DiskFault) ⊎ (result ≡ Err NoMemory)
