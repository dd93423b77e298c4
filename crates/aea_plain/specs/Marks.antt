-- Marks of the blocks of a lattice, and what sweeps of its equations keep.
use Rattle.std.specs.Prelude.{◌≡◌, Bool, true, ◌&&◌, nat_le, List, IsTrue}
use Rattle.aea_lattice.specs.declared.blocks.BlockId.{BlockId}
use Rattle.aea_lattice.specs.declared.blocks.EqId.{EqId}
use Rattle.aea_lattice.specs.declared.grid.Lattice.{Lattice}
use Rattle.aea_lattice.specs.Blocks.{class_number, HasBlock}
use Rattle.aea_lattice.specs.Closure.{IsForcedBy, IsReached}
use Rattle.aea_view.specs.Marked as marked

-- whether the block is one of the lattice
abbrev pub is_inside : Lattice → BlockId → Bool
is_inside l b = nat_le 1 b.node && nat_le b.node l.n && nat_le (class_number b.class) l.alpha

-- whether the lattice has the block, and it is marked, by marks of this lattice
abbrev pub is_marked : Lattice → List Bool → BlockId → Bool
is_marked l marks b = is_inside l b && marked.is_marked (record { lattice = l; marks = marks }) b

-- known blocks have marks, and blocks with marks are in the closure
pub record IsState (l : Lattice) (known : BlockId → Bool) (marks : List Bool) : Type 0 where
  pub kept : (b : BlockId) → HasBlock l b → IsTrue (known b) → is_marked l marks b ≡ true
  pub reached : (b : BlockId) → is_marked l marks b ≡ true → IsReached l known b

-- the equation forces no block that has no mark
abbrev pub IsSpent : Lattice → List Bool → EqId → Type 0
IsSpent l marks e = (b : BlockId) → IsForcedBy l (is_marked l marks) b e → is_marked l marks b ≡ true
