-- The tags of a block: which wanted blocks it is.
use Rattle.std.specs.Prelude.{◌≡◌, ℕ, ◌<◌, List, get_or}
use Rattle.aea_lattice.specs.declared.blocks.BlockId.{BlockId}
use Rattle.aea_lattice.specs.declared.grid.Lattice.{Lattice}
use Rattle.aea_lattice.specs.Blocks.{HasBlock, number_of}
use Rattle.aea_view.specs.Bits.{has_bit}
use Rattle.aea_sums.specs.Places.{is_wanted}

-- bit k of the tags is whether wanted block k is this block
abbrev pub AreTags : List BlockId → BlockId → ℕ → Type 0
AreTags wanted b tags = (k : ℕ) → k < 64 → has_bit tags k ≡ is_wanted wanted k b

-- a table has the tags of each block at its number
abbrev pub HasTags : Lattice → List BlockId → List ℕ → Type 0
HasTags l wanted table = (b : BlockId) → HasBlock l b → AreTags wanted b (get_or table (number_of l b) 0)
