-- Facts of cells.
use Rattle.std.specs.Prelude.{◌≡◌, ℕ, ◌+◌, ◌<◌, ◌^◌, List, length, take, drop}
use Rattle.aea_lattice.specs.declared.blocks.BlockId.{BlockId}
use Rattle.aea_envelope.specs.Cells.{head_of, block_digest, cell_of}

-- A head has 16 bytes and a digest 32, so a cell is 48 bytes longer than its payload.
abbrev pub CellsHaveLengths : Type 0
CellsHaveLengths =
    (b : BlockId) (payload : List ℕ)
    → (length (head_of b) ≡ 16)
    × (length (block_digest b payload) ≡ 32)
    × (length (cell_of b payload) ≡ length payload + 48)

-- Of a cell, the first 16 bytes are the head, the payload follows, and the last 32 bytes are the digest.
abbrev pub CellsHaveParts : Type 0
CellsHaveParts =
    (b : BlockId) (payload : List ℕ)
    → (take 16 (cell_of b payload) ≡ head_of b)
    × (take (length payload) (drop 16 (cell_of b payload)) ≡ payload)
    × (drop (length payload + 16) (cell_of b payload) ≡ block_digest b payload)

-- The cells of a block with two payloads differ.
abbrev pub CellsHaveOnePayload : Type 0
CellsHaveOnePayload = (b : BlockId) (p q : List ℕ) → cell_of b p ≡ cell_of b q → p ≡ q

-- Cells of two blocks differ, whatever the payloads.
abbrev pub CellsRevealBlocks : Type 0
CellsRevealBlocks =
    (a b : BlockId) (p q : List ℕ)
    → a.node < 2 ^ 32 → b.node < 2 ^ 32 → cell_of a p ≡ cell_of b q → a ≡ b
