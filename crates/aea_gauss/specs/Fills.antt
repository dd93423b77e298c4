-- How packed rows are filled.
use Rattle.std.specs.Prelude.{◌≡◌, ◌⊎◌, ℕ, ◌+◌, ◌*◌, ◌<◌, ◌≤◌, Bool, ◌&&◌, nat_lt, List, length, get_or}
use Rattle.aea_lattice.specs.declared.blocks.BlockId.{BlockId}
use Rattle.aea_lattice.specs.Blocks.{same_block}
use Rattle.aea_lattice.specs.Parity.{differ}
use Rattle.aea_gauss_words.specs.Words.{is_bit}
use Rattle.aea_readings.specs.Small.{block_in}

-- in the row that begins at `begin` the bits of the test are flipped, and all other words are as they were
pub record Turns (begin wide : ℕ) (test : ℕ → Bool) (old new : List ℕ) : Type 0 where
  pub long : length new ≡ length old
  pub inside : (k : ℕ) → k < 64 * wide → is_bit new begin k ≡ differ (is_bit old begin k) (test k)
  pub outside : (k : ℕ) → (k < begin) ⊎ (begin + wide ≤ k) → get_or new k 0 ≡ get_or old k 0

-- whether the block is in the list at this place
abbrev pub stands : List BlockId → BlockId → ℕ → Bool
stands blocks b k = nat_lt k (length blocks) && same_block (block_in blocks k) b
