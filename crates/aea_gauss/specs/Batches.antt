-- The sums of some blocks that are not known, ready to be taken.
use Rattle.std.specs.Prelude.{◌≡◌, ℕ, ◌<◌, Bool, [], length, get_or}
use Rattle.aea_lattice.specs.declared.blocks.BlockId.{BlockId}
use Rattle.aea_lattice.specs.declared.grid.Lattice.{Lattice}
use Rattle.aea_lattice.specs.Data.{Determines}
use Rattle.aea_fates.specs.Sums.{IsSum}
use Rattle.aea_sums.specs.Sums.{wanted_at}
use Rattle.aea_gauss.specs.declared.batch.Batch.{Batch}

-- For each wanted block that the known ones determine its listed equations are at its place.
pub record IsBatch (l : Lattice) (known : BlockId → Bool) (b : Batch) : Type 0 where
  pub long : length b.lists.items ≡ length b.wanted.items
  pub sums : (k : ℕ) → k < length b.wanted.items → Determines l known (wanted_at b.wanted.items k)
      → IsSum l known (wanted_at b.wanted.items k) (get_or b.lists.items k [])
