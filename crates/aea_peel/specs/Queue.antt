-- The state of the loop that plans: marks, and equations that wait. No public contract cites these.
use Rattle.std.specs.Prelude.{◌≡◌, ◌≤◌, ◌⊎◌, Contains, ℕ, ◌+◌, Bool, false, List, take, length, slice_get, Some, IsTrue}
use Rattle.std.specs.List.{IsDistinct}
use Rattle.aea_lattice.specs.declared.blocks.BlockId.{BlockId}
use Rattle.aea_lattice.specs.declared.blocks.EqId.{EqId}
use Rattle.aea_lattice.specs.declared.grid.Lattice.{Lattice}
use Rattle.aea_lattice.specs.Blocks.{HasBlock, same_block}
use Rattle.aea_lattice.specs.Equations.{HasEquation}
use Rattle.aea_lattice.specs.Closure.{IsForcedBy, IsReached, is_among}
use Rattle.aea_view.specs.Marked as marked
use Rattle.aea_peel.specs.declared.plan.Step.{Step}
use Rattle.aea_peel.specs.Plans.{blocks_given, is_had}

-- whether the block is marked, by marks of this lattice
abbrev pub is_marked : Lattice → List Bool → BlockId → Bool
is_marked l marks = marked.is_marked (record { lattice = l; marks = marks })

-- what is marked is known or given by a step so far, and the steps so far are the beginning of a plan
pub record IsState (l : Lattice) (known : BlockId → Bool) (steps : List Step) (marks : List Bool) : Type 0 where
  pub marked : (b : BlockId) → HasBlock l b → is_marked l marks b ≡ is_had known steps b
  pub distinct : IsDistinct same_block (blocks_given steps)
  pub given : (b : BlockId) → IsTrue (is_among (blocks_given steps) b) → HasBlock l b × (known b ≡ false) × IsReached l known b
  pub forced : (k : ℕ) (s : Step) → slice_get steps k ≡ Some s → IsForcedBy l (is_had known (take k steps)) s.block s.by

-- the equation forces no block that is not marked, by marks of this lattice
abbrev pub IsSpent : Lattice → List Bool → EqId → Type 0
IsSpent l marks = marked.IsSpent (record { lattice = l; marks = marks })

-- the equation waits, or it forces no unmarked block
abbrev pub WaitsOrIsSpent : Lattice → List Bool → List EqId → EqId → Type 0
WaitsOrIsSpent l marks waiting e = Contains waiting e ⊎ IsSpent l marks e

-- what waits are equations of the lattice, and each equation of the lattice waits or is spent
pub record IsQueue (l : Lattice) (marks : List Bool) (waiting : List EqId) : Type 0 where
  pub inside : (e : EqId) → Contains waiting e → HasEquation l e
  pub rest : (e : EqId) → HasEquation l e → WaitsOrIsSpent l marks waiting e

-- equations of the lattice were added to those that waited, at most n of them
pub record Adds (l : Lattice) (n : ℕ) (old new : List EqId) : Type 0 where
  pub kept : (e : EqId) → Contains old e → Contains new e
  pub inside : (e : EqId) → Contains new e → Contains old e ⊎ HasEquation l e
  pub few : length new ≤ length old + n
