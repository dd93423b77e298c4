-- “Closure”: what is reached from a set of blocks by single equations.
use Rattle.std.specs.Prelude.{◌≢◌, ◌⊎◌, Bool, List, [], ◌∷◌, IsTrue}
use Rattle.std.specs.List.{list_any}
use Rattle.aea_lattice.specs.declared.blocks.BlockId.{BlockId}
use Rattle.aea_lattice.specs.declared.blocks.EqId.{EqId}
use Rattle.aea_lattice.specs.declared.grid.Lattice.{Lattice}
use Rattle.aea_lattice.specs.Blocks.{same_block}
use Rattle.aea_lattice.specs.Equations.{HasEquation, is_in_equation}

-- the block is in the equation, and each other block of the equation is in the set
pub record IsForcedBy (l : Lattice) (known : BlockId → Bool) (b : BlockId) (e : EqId) : Type 0 where
  pub equation : HasEquation l e
  pub contains : IsTrue (is_in_equation l e b)
  pub others : (d : BlockId) → IsTrue (is_in_equation l e d) → d ≢ b → IsTrue (known d)

-- whether the block is in the list
abbrev pub is_among : List BlockId → BlockId → Bool
is_among blocks b = list_any (same_block b) blocks

-- Each block of the list is in the set, or in an equation whose other blocks are all earlier. The list has its
-- latest block first, so that "earlier" is the rest of the list.
abbrev pub IsDerivation : Lattice → (BlockId → Bool) → List BlockId → Type 0
IsDerivation l known [] = Unit {0}
IsDerivation l known (b ∷ earlier) =
    IsDerivation l known earlier
    × (IsTrue (known b) ⊎ ((e : EqId) × IsForcedBy l (is_among earlier) b e))

-- the closure of a set: the blocks in which some such list ends
abbrev pub IsReached : Lattice → (BlockId → Bool) → BlockId → Type 0
IsReached l known b = (earlier : List BlockId) × IsDerivation l known (b ∷ earlier)
