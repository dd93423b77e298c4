-- What gives a block from others: the equation of a step, or several equations.
use Rattle.std.specs.Prelude.{◌≡◌, ◌≢◌, ℕ, Bool, false, List, take, slice_get, Some, All, IsTrue}
use Rattle.aea_lattice.specs.declared.blocks.BlockId.{BlockId}
use Rattle.aea_lattice.specs.declared.blocks.EqId.{EqId}
use Rattle.aea_lattice.specs.declared.grid.Lattice.{Lattice}
use Rattle.aea_lattice.specs.Blocks.{HasBlock}
use Rattle.aea_lattice.specs.Equations.{HasEquation, is_in_equation, is_odd_count}
use Rattle.aea_lattice.specs.Closure.{IsForcedBy, is_among}
use Rattle.aea_peel.specs.declared.plan.Step.{Step}
use Rattle.aea_peel.specs.Plans.{blocks_given, is_had}

-- Steps that can be carried out one after the other: each gives a block of the lattice that is not known, by an equation
-- whose other blocks are known or given by an earlier step. A block may be given twice.
pub record AreStepsOn (l : Lattice) (known : BlockId → Bool) (steps : List Step) : Type 0 where
  pub fresh : (b : BlockId) → IsTrue (is_among (blocks_given steps) b) → HasBlock l b × (known b ≡ false)
  pub forced : (k : ℕ) (s : Step) → slice_get steps k ≡ Some s → IsForcedBy l (is_had known (take k steps)) s.block s.by

-- whether the block occurs in an odd number of these equations, each counted as often as it is in the list
abbrev pub is_left_over : Lattice → List EqId → BlockId → Bool
is_left_over l equations b = is_odd_count (λ e. is_in_equation l e b) equations

-- Equations that give a block from others: they add up to the block and to blocks that are had.
pub record Give (l : Lattice) (had : BlockId → Bool) (b : BlockId) (equations : List EqId) : Type 0 where
  pub valid : All (HasEquation l) equations
  pub contains : IsTrue (is_left_over l equations b)
  pub others : (d : BlockId) → HasBlock l d → IsTrue (is_left_over l equations d) → d ≢ b → IsTrue (had d)
