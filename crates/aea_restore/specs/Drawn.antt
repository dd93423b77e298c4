-- Payloads that are sums of survivors.
use Rattle.std.specs.Prelude.{◌≡◌, ◌≢◌, ◌&&◌, ℕ, Bool, not, List, length, map, filter, fold, All, IsTrue}
use Rattle.std.specs.List.{flat_map}
use Rattle.aea_lattice.specs.declared.blocks.BlockId.{BlockId}
use Rattle.aea_lattice.specs.declared.blocks.EqId.{EqId}
use Rattle.aea_lattice.specs.declared.grid.Lattice.{Lattice}
use Rattle.aea_lattice.specs.declared.shape.Shape.{Shape}
use Rattle.aea_lattice.specs.Blocks.{HasBlock, same_block}
use Rattle.aea_lattice.specs.Equations.{equation_blocks}
use Rattle.aea_lattice.specs.Data.{IsDataList, xor_bytes, xor_all, value_of}
use Rattle.aea_disk.specs.Files.{Files}
use Rattle.aea_envelope.specs.Cells.{block_digest}
use Rattle.aea_shelf.specs.Intact.{payload_at}
use Rattle.aea_ledger.specs.Values.{Opened}
use Rattle.aea_archive.specs.Blocks.{recorded_in, IsIntactBy}

-- In the lattice of every data list the block is the XOR of these blocks.
abbrev pub IsSumOf : Lattice → BlockId → List BlockId → Type 0
IsSumOf l b blocks =
    (w : ℕ) (datas : List (List ℕ)) → IsDataList l w datas → value_of l w datas b ≡ xor_all w (map (value_of l w datas) blocks)

-- the blocks are blocks of the lattice that the test picks
abbrev pub ArePicked : Lattice → (BlockId → Bool) → List BlockId → Type 0
ArePicked l picks blocks = All (λ d. HasBlock l d × IsTrue (picks d)) blocks

-- The payload of the block is drawn from the known blocks: it is the XOR of what is at the homes of some of them, of
-- which the block is the XOR in every lattice.
pub record IsDrawn (v : Opened) (known : BlockId → Bool) (c : Files) (b : BlockId) (payload : List ℕ) : Type 0 where
  pub blocks : List BlockId
  pub survivors : ArePicked v.lattice known blocks
  pub sum : IsSumOf v.lattice b blocks
  pub payload_is : payload ≡ xor_all v.shape.block (map (payload_at v.shape c) blocks)

-- the block is another one than b, and the test picks it
abbrev pub is_other : (BlockId → Bool) → BlockId → BlockId → Bool
is_other picks b d = picks d && not (same_block d b)

-- the other blocks of some equations that the test picks, one equation after another, each as often as it occurs there
abbrev pub other_blocks : Lattice → (BlockId → Bool) → BlockId → List EqId → List BlockId
other_blocks l picks b equations = filter (is_other picks b) (flat_map (equation_blocks l) equations)

-- the bytes, and by XOR what is in the place of the payloads of these blocks
abbrev pub added_up : Shape → Files → List ℕ → List BlockId → List ℕ
added_up shape c start blocks = fold xor_bytes start (map (payload_at shape c) blocks)

-- Two digests of a block of the lattice differ: the one that the ledger keeps of it, and that of another payload, which has the
-- bytes of a block.
pub record IsOtherDigest (v : Opened) (b : BlockId) (revealed computed : List ℕ) : Type 0 where
  pub block : HasBlock v.lattice b
  pub revealed_is : revealed ≡ recorded_in v.shape v.digests b
  pub payload : List ℕ
  pub size : length payload ≡ v.shape.block
  pub computed_is : computed ≡ block_digest b payload
  pub differ : computed ≢ revealed

-- Two digests of a block that is to be restored differ: the one that the ledger keeps of it, and that of a payload which
-- is drawn from the known blocks.
pub record IsClash (v : Opened) (known : BlockId → Bool) (c : Files) (b : BlockId) (revealed computed : List ℕ) : Type 0 where
  pub other : IsOtherDigest v b revealed computed
  pub payload : List ℕ
  pub drawn : IsDrawn v known c b payload
  pub computed_is : computed ≡ block_digest b payload

-- the blocks that the test picks are intact
abbrev pub AreAllIntact : Opened → (BlockId → Bool) → Files → Type 0
AreAllIntact v picks c = (b : BlockId) → HasBlock v.lattice b → IsTrue (picks b) → IsIntactBy v.shape v.digests c b
