-- What `fetch` appends, and why it does not.
use Rattle.std.specs.Prelude.{◌≡◌, ◌⊎◌, ℕ, Bool, List, length, take, replicate, Result, Err, All}
use Rattle.std.specs.Io.KnownBytes.{Appends}
use Rattle.aea_io.specs.Streams.{SinkState}
use Rattle.aea_io.specs.Written.{AppendsPart}
use Rattle.aea_lattice.specs.declared.blocks.BlockId.{BlockId}
use Rattle.aea_lattice.specs.declared.grid.Lattice.{Lattice}
use Rattle.aea_lattice.specs.Blocks.{HasBlock}
use Rattle.aea_lattice.specs.Data.{Determines}
use Rattle.aea_lattice.specs.LeastWord.{IsWord}
use Rattle.aea_disk.specs.Files.{Files}
use Rattle.aea_envelope.specs.Cells.{block_digest}
use Rattle.aea_catalog.specs.Catalogs.{Placed}
use Rattle.aea_ledger.specs.Values.{Opened}
use Rattle.aea_archive.specs.Blocks.{recorded_in, RevealsSurvivors}
use Rattle.aea_archive.specs.Objects.{data_of, joined, ArePayloads, IsFirstWithout, IsFront}
use Rattle.aea_restore.specs.Drawn.{IsDrawn, IsSumOf}
use Rattle.aea_restore.specs.Judged.{IsJudgedSum}
use Rattle.aea_degraded.specs.declared.fault.FetchFault.{FetchFault}
use Rattle.aea_degraded.specs.declared.fault.FetchFault.TheVariants.{Clash, DiskFault, NoMemory}

-- The payload of the block is the XOR of payloads that were read at the homes of these blocks, one of each, each of which has the bytes
-- of a block and the digest that is kept of its block; and in the lattice of every data list the block is the XOR of these blocks.
pub record IsOfReadings (reveals : Type 0) (v : Opened) (c : Files) (b : BlockId) (payload : List ℕ) : Type 0 where
  pub blocks : List BlockId
  pub has : All (HasBlock v.lattice) blocks
  pub sum : IsSumOf v.lattice b blocks
  pub judged : IsJudgedSum reveals v c (replicate v.shape.block 0) blocks payload

-- A payload of the block: it has the bytes of a block, and the digest that is kept of it. It is the XOR of payloads that were read and
-- have their digests, over any disk; and where the disk's contents are known, it is drawn from the intact blocks, whichever test
-- distinguishes them: it is the block's own, or a sum of intact ones.
pub record IsFetched (reveals : Type 0) (v : Opened) (c : Files) (b : BlockId) (payload : List ℕ) : Type 0 where
  pub wide : length payload ≡ v.shape.block
  pub digest : block_digest b payload ≡ recorded_in v.shape v.digests b
  pub readings : IsOfReadings reveals v c b payload
  pub drawn : reveals → (known : BlockId → Bool) → RevealsSurvivors v.shape v.lattice.n v.digests c known → IsDrawn v known c b payload

-- The object was fetched: what was appended is its first bytes, as many as its length says, of payloads of its data blocks.
pub record HasFetched (reveals : Type 0) (v : Opened) (c : Files) (p : Placed) (old new : SinkState) : Type 0 where
  pub payloads : List (List ℕ)
  pub are : ArePayloads (IsFetched reveals v c) (data_of p.parts) payloads
  pub long : length (take p.object.length (joined payloads)) ≡ p.object.length
  pub appended : Appends old.written new.written (take p.object.length (joined payloads))

-- A first part of it was appended: of the payloads of some first ones of its data blocks, cut to its length.
pub record HasFetchedPart (reveals : Type 0) (v : Opened) (c : Files) (p : Placed) (old new : SinkState) : Type 0 where
  pub front : List BlockId
  pub is_front : IsFront front (data_of p.parts)
  pub payloads : List (List ℕ)
  pub are : ArePayloads (IsFetched reveals v c) front payloads
  pub part : AppendsPart old.written new.written (take p.object.length (joined payloads))

-- The first of the blocks that the known ones do not determine, with its listed nodes.
pub record IsFirstOpen (l : Lattice) (known : BlockId → Bool) (blocks : List BlockId) (b : BlockId) (nodes : List ℕ) : Type 0 where
  pub first : IsFirstWithout (Determines l known) blocks b
  pub word : IsWord l known b nodes

-- two digests of a block differ
abbrev pub IsClashing : {T : Type 0} → Result T FetchFault → Type 0
IsClashing result = (b : BlockId) × (revealed : List ℕ) × (computed : List ℕ) × (result ≡ Err (Clash b revealed computed))

-- the disk failed, or memory ran out
abbrev pub IsOutside : {T : Type 0} → Result T FetchFault → Type 0
IsOutside result = (result ≡ Err DiskFault) ⊎ (result ≡ Err NoMemory)
