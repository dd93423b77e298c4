-- Damaged blocks in a range of numbers. The blocks that are intact are given by a test.
use Rattle.std.specs.Prelude.{ℕ, Bool, ◌&&◌, nat_le, nat_lt, not, find, Option}
use Rattle.aea_lattice.specs.declared.blocks.BlockId.{BlockId}
use Rattle.aea_lattice.specs.declared.grid.Lattice.{Lattice}
use Rattle.aea_lattice.specs.Blocks.{blocks_of, number_of}

-- whether the block is damaged, and its number is at least the first of these and below the second
abbrev pub is_missing : Lattice → (BlockId → Bool) → ℕ → ℕ → BlockId → Bool
is_missing l intact least next b = not (intact b) && (nat_le least (number_of l b) && nat_lt (number_of l b) next)

-- the least such block
abbrev pub missing : Lattice → (BlockId → Bool) → ℕ → ℕ → Option BlockId
missing l intact least next = find (is_missing l intact least next) (blocks_of l)
