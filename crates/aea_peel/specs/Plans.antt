-- “Peel plan”: steps of single equations that give what the closure adds to a set of blocks.
use Rattle.std.specs.Prelude.{◌≡◌, ◌↔◌, ℕ, Bool, false, ◌||◌, List, map, take, slice_get, Some, IsTrue}
use Rattle.std.specs.List.{IsDistinct}
use Rattle.aea_lattice.specs.declared.blocks.BlockId.{BlockId}
use Rattle.aea_lattice.specs.declared.grid.Lattice.{Lattice}
use Rattle.aea_lattice.specs.Blocks.{HasBlock, same_block}
use Rattle.aea_lattice.specs.Closure.{IsForcedBy, IsReached, is_among}
use Rattle.aea_view.specs.Marked.{Marked, is_marked}
use Rattle.aea_peel.specs.declared.plan.Step.{Step}

-- the blocks that steps give, in order
abbrev pub blocks_given : List Step → List BlockId
blocks_given steps = map (λ s. s.block) steps

-- whether the block is known, or one of the steps gives it
abbrev pub is_had : (BlockId → Bool) → List Step → BlockId → Bool
is_had known steps b = known b || is_among (blocks_given steps) b

-- a plan for a lattice and the set of its blocks that are known
pub record IsPlan (l : Lattice) (known : BlockId → Bool) (steps : List Step) : Type 0 where
  -- no block is given twice
  pub distinct : IsDistinct same_block (blocks_given steps)
  -- what is given is exactly the blocks of the lattice that are not known and that the closure of the known ones has
  pub whole : (b : BlockId) → IsTrue (is_among (blocks_given steps) b) ↔ (HasBlock l b × (known b ≡ false) × IsReached l known b)
  -- the equation of a step contains its block, and its other blocks are known or given by an earlier step
  pub forced : (k : ℕ) (s : Step) → slice_get steps k ≡ Some s → IsForcedBy l (is_had known (take k steps)) s.block s.by

-- the marked blocks are those of the closure of the known ones
abbrev pub AreReached : Marked → (BlockId → Bool) → Type 0
AreReached m known = (b : BlockId) → HasBlock m.lattice b → IsTrue (is_marked m b) ↔ IsReached m.lattice known b
