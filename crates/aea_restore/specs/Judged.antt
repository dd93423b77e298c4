-- Payloads that are read and judged before they are used: added up to the payload of another block, which is judged as well.
use Rattle.std.specs.Prelude.{◌≡◌, ◌⊎◌, ℕ, List, map, fold, take, length, replicate, Bool, All, IsTrue}
use Rattle.aea_lattice.specs.declared.blocks.BlockId.{BlockId}
use Rattle.aea_lattice.specs.declared.blocks.EqId.{EqId}
use Rattle.aea_lattice.specs.Closure.{is_among}
use Rattle.aea_lattice.specs.Data.{xor_bytes}
use Rattle.aea_disk.specs.Files.{Files}
use Rattle.aea_envelope.specs.Cells.{block_digest}
use Rattle.aea_shelf.specs.Intact.{payload_at}
use Rattle.aea_ledger.specs.Values.{Opened}
use Rattle.aea_archive.specs.Blocks.{recorded_in, IsIntactBy}
use Rattle.aea_restore.specs.Drawn.{other_blocks, IsOtherDigest}

-- The payload was read at the block's home: it has the bytes of a block, and, where the disk's contents are known, begins with
-- what is there in the place of the payload. Where the home lies within its file that is all of it; where the file ends before,
-- no more of it is known.
pub record IsReadAt (reveals : Type 0) (v : Opened) (c : Files) (b : BlockId) (payload : List ℕ) : Type 0 where
  pub size : length payload ≡ v.shape.block
  pub begins : reveals → take (length (payload_at v.shape c b)) payload ≡ payload_at v.shape c b

-- it was read there, and has the digest that the ledger keeps of the block
pub record IsJudged (reveals : Type 0) (v : Opened) (c : Files) (b : BlockId) (payload : List ℕ) : Type 0 where
  pub home : IsReadAt reveals v c b payload
  pub digest : block_digest b payload ≡ recorded_in v.shape v.digests b

-- a block, and the bytes that were read as its payload
pub record Reading : Type 0 where
  pub block : BlockId
  pub payload : List ℕ

-- Payloads of these blocks were read, one of each in their order, and each was judged; with the bytes `start` they add up, by
-- XOR, to the sum.
pub record IsJudgedSum (reveals : Type 0) (v : Opened) (c : Files) (start : List ℕ) (blocks : List BlockId) (sum : List ℕ) : Type 0 where
  pub readings : List Reading
  pub blocks_are : map (λ (r : Reading). r.block) readings ≡ blocks
  pub judged : All (λ (r : Reading). IsJudged reveals v c r.block r.payload) readings
  pub sum_is : sum ≡ fold xor_bytes start (map (λ (r : Reading). r.payload) readings)

-- The payload is the XOR of judged payloads of the other blocks of these equations that can be read.
abbrev pub IsJudgedXor : Type 0 → Opened → Files → (BlockId → Bool) → BlockId → List EqId → List ℕ → Type 0
IsJudgedXor reveals v c ready b equations payload = IsJudgedSum reveals v c (replicate v.shape.block 0) (other_blocks v.lattice ready b equations) payload

-- A payload of the block was computed from judged ones, and has itself the digest that the ledger keeps of the block.
pub record IsComputed (reveals : Type 0) (v : Opened) (c : Files) (ready : BlockId → Bool) (b : BlockId) (equations : List EqId) : Type 0 where
  pub payload : List ℕ
  pub sum : IsJudgedXor reveals v c ready b equations payload
  pub digest : block_digest b payload ≡ recorded_in v.shape v.digests b

-- Two digests of a block differ: the one that the ledger keeps of it, and that of a payload that was read at its home. So it
-- is not intact.
pub record IsReadClash (reveals : Type 0) (v : Opened) (c : Files) (d : BlockId) (revealed computed : List ℕ) : Type 0 where
  pub other : IsOtherDigest v d revealed computed
  pub damaged : reveals → IsIntactBy v.shape v.digests c d → ⊥
  pub payload : List ℕ
  pub home : IsReadAt reveals v c d payload
  pub computed_is : computed ≡ block_digest d payload

-- such a clash of one of these blocks
abbrev pub IsReadClashIn : Type 0 → Opened → Files → List BlockId → BlockId → List ℕ → List ℕ → Type 0
IsReadClashIn reveals v c blocks d revealed computed = IsTrue (is_among blocks d) × IsReadClash reveals v c d revealed computed

-- Two digests of a block differ as well, where the second is that of a payload that was computed from judged ones.
pub record IsComputedClash (reveals : Type 0) (v : Opened) (c : Files) (ready : BlockId → Bool) (b : BlockId) (equations : List EqId) (revealed computed : List ℕ) : Type 0 where
  pub other : IsOtherDigest v b revealed computed
  pub payload : List ℕ
  pub sum : IsJudgedXor reveals v c ready b equations payload
  pub computed_is : computed ≡ block_digest b payload

-- What a clash says that comes while the block b is computed: it is one of a block that was read for it, or of b itself.
abbrev pub IsFound : Type 0 → Opened → Files → (BlockId → Bool) → BlockId → List EqId → BlockId → List ℕ → List ℕ → Type 0
IsFound reveals v c ready b equations d revealed computed =
    IsReadClashIn reveals v c (other_blocks v.lattice ready b equations) d revealed computed
    ⊎ ((d ≡ b) × IsComputedClash reveals v c ready b equations revealed computed)
