use Rattle.std.proofs.Common.{◌≡◌, ℕ, ◌<◌, List, length}
use Rattle.aea_gauss.specs.Parts.{AreParents, IsRoot, Follows}
use Rattle.aea_gauss.proofs.labels.find_root.Given as goal

-- the chain was followed so far
pub record Climbed (old new : List ℕ) (from at : ℕ) : Type 0 where
  pub long : length new ≡ length old
  pub inside : at < length new
  pub parents : AreParents new
  pub roots : (r : ℕ) → IsRoot old r → IsRoot new r
  pub follows : (label : ℕ → ℕ) → Follows label new → Follows label old × (label from ≡ label at)

abbrev pub invariant-loop-parents : goal.invariant-loop-parents
invariant-loop-parents l = Climbed l.fn.parents l.parents l.from l.at

abbrev pub decreases-loop-parents : goal.decreases-loop-parents
decreases-loop-parents l = l.at
