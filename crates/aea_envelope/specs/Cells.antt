-- “Cell”: the bytes that are on a disk for a block.
use Rattle.std.specs.Prelude.{◌≡◌, ℕ, List, ◌∷◌, ◌++◌, codes}
use Rattle.std.specs.Int.{w64, to_be_bytes}
use Rattle.sha2.specs.Sha256.{sha256}
use Rattle.aea_lattice.specs.declared.blocks.BlockId.{BlockId}
use Rattle.aea_lattice.specs.Blocks.{class_number}

-- The head of a block, 16 bytes: the mark `AEB1`, the number of its class, three zeros, and its node as 8 bytes,
-- high first.
unfoldable pub head_of : BlockId → List ℕ
head_of b = codes "AEB1" ++ class_number b.class ∷ 0 ∷ 0 ∷ 0 ∷ to_be_bytes w64 b.node

-- the digest of a block with this payload: the SHA-256 of its head and the payload, 32 bytes
abbrev pub block_digest : BlockId → List ℕ → List ℕ
block_digest b payload = sha256 (head_of b ++ payload)

-- the cell of a block with this payload: its head, the payload, and the digest of both
abbrev pub cell_of : BlockId → List ℕ → List ℕ
cell_of b payload = head_of b ++ payload ++ block_digest b payload

-- the bytes are a cell of this block: its cell with some payload
abbrev pub IsCellOf : BlockId → List ℕ → Type 0
IsCellOf b bytes = (payload : List ℕ) × (bytes ≡ cell_of b payload)
