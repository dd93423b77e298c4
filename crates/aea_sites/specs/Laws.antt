-- What follows of the definition of a loss.
use Rattle.std.specs.Prelude.{◌≡◌, ℕ, Bool, ◌||◌, List, All, Some, IsTrue}
use Rattle.aea_lattice.specs.declared.blocks.BlockId.{BlockId}
use Rattle.aea_lattice.specs.declared.grid.Lattice.{Lattice}
use Rattle.aea_lattice.specs.Equations.{is_in_codeword}
use Rattle.aea_lattice.specs.Facts.{Misses}
use Rattle.aea_lattice.specs.Lists.{has_node}
use Rattle.aea_sites.specs.declared.lost.FirstLost.{FirstLost}
use Rattle.aea_sites.specs.declared.lost.SiteLoss.{SiteLoss}
use Rattle.aea_sites.specs.Losses.{AreLost, IsLossOf}
use Rattle.aea_sites.specs.Sites.{is_on, is_elsewhere}

-- A lattice and its known blocks have one loss.
abbrev pub LossesAreOne : Type 0
LossesAreOne = (l : Lattice) (known : BlockId → Bool) (x y : SiteLoss) → IsLossOf l known x → IsLossOf l known y → x ≡ y

-- the nodes show that the block is lost: their codeword contains it, and no known block
pub record Shows (l : Lattice) (known : BlockId → Bool) (f : FirstLost) : Type 0 where
  pub contains : IsTrue (is_in_codeword l (has_node f.nodes) f.block)
  pub misses : Misses l known (has_node f.nodes)

-- The nodes of the first lost block show that it is.
abbrev pub FirstWordsShow : Type 0
FirstWordsShow = (l : Lattice) (known : BlockId → Bool) (loss : SiteLoss) (f : FirstLost) → IsLossOf l known loss → loss.first ≡ Some f → Shows l known f

-- Where sites are gone, each lost block has its home on one of them.
abbrev pub LostAreOnSites : Type 0
LostAreOnSites =
    (l : Lattice) (sites a b : ℕ) (blocks : List BlockId) → AreLost l (is_elsewhere l sites a b) blocks → All (λ d. IsTrue (is_on l sites a d || is_on l sites b d)) blocks
