-- What is known of a block beside the disk: the place of its fate in a list, and what a search found out. No public contract cites
-- these.
use Rattle.std.specs.Prelude.{◌≡◌, ℕ, Bool, not, List, Some, slice_get, All}
use Rattle.aea_lattice.specs.declared.blocks.BlockId.{BlockId}
use Rattle.aea_view.specs.Marked.{Marked, is_marked}
use Rattle.aea_disk.specs.Files.{Files}
use Rattle.aea_gauss.specs.declared.fates.Fate.{Fate}
use Rattle.aea_gauss.specs.Fates.{block_of_fate, IsFate}
use Rattle.aea_ledger.specs.Values.{Opened}
use Rattle.aea_archive.specs.Blocks.{RevealsSurvivors}
use Rattle.aea_degraded.specs.Summed.{IsOfEquations}

-- at this place of the list is the fate of the block, and it is listed equations
pub record IsSumAt (fates : List Fate) (b : BlockId) (at : ℕ) : Type 0 where
  pub fate : Fate
  pub here : slice_get fates at ≡ Some fate
  pub block : block_of_fate fate ≡ b
  pub sum : IsOfEquations fate

-- What a search found out is right for the intact blocks, which the test tells: each listed fate is that of its block where these
-- are known, and this block is marked as damaged where it is none of them.
pub record IsFoundBy (v : Opened) (c : Files) (damaged : Marked) (fates : List Fate) (b : BlockId) (known : BlockId → Bool) : Type 0 where
  pub survivors : RevealsSurvivors v.shape v.lattice.n v.digests c known
  pub right : All (IsFate v.lattice known) fates
  pub marked : known b ≡ not (is_marked damaged b)
