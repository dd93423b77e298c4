use Rattle.std.proofs.Common.{◌≡◌, ℕ, List, length}
use Rattle.aea_lattice.specs.declared.blocks.BlockId.{BlockId}
use Rattle.aea_lattice.specs.declared.blocks.EqId.{EqId}
use Rattle.aea_lattice.specs.declared.grid.Lattice.{Lattice}
use Rattle.aea_gauss.specs.Parts.{AreParents, Follows, JoinsEach}
use Rattle.aea_gauss.proofs.labels.join_each.Given as goal

-- the blocks of the first equations are joined
pub record Joined (l : Lattice) (listed : List BlockId) (equations : List EqId) (at : ℕ) (old new : List ℕ) : Type 0 where
  pub long : length new ≡ length old
  pub parents : AreParents new
  pub follows : (label : ℕ → ℕ) → Follows label new → JoinsEach l listed equations at label

abbrev pub invariant-loop-at : goal.invariant-loop-at
invariant-loop-at l = Joined l.lattice l.blocks l.equations l.at l.fn.parents l.parents
