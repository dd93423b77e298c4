-- What sets of equations give, and what codewords leave open.
use Rattle.std.specs.Prelude.{◌≢◌, ◌↔◌, ◌⊎◌, ℕ, Bool, IsTrue}
use Rattle.aea_lattice.specs.declared.blocks.BlockId.{BlockId}
use Rattle.aea_lattice.specs.declared.blocks.EqId.{EqId}
use Rattle.aea_lattice.specs.declared.grid.Lattice.{Lattice}
use Rattle.aea_lattice.specs.Blocks.{HasBlock}
use Rattle.aea_lattice.specs.Equations.{adds_up_to, is_in_codeword}
use Rattle.aea_lattice.specs.Data.{Determines}
use Rattle.aea_lattice.specs.Facts.{Misses}

-- The set of equations adds up to blocks that contain b, and whose others are in the set of known ones.
pub record GivesBlock (l : Lattice) (known : BlockId → Bool) (b : BlockId) (equations : EqId → Bool) : Type 0 where
  pub contains : IsTrue (adds_up_to l equations b)
  pub others : (d : BlockId) → HasBlock l d → IsTrue (adds_up_to l equations d) → d ≢ b → IsTrue (known d)

-- The codeword of the nodes contains b and no block of the set of known ones.
pub record Escapes (l : Lattice) (known : BlockId → Bool) (b : BlockId) (nodes : ℕ → Bool) : Type 0 where
  pub contains : IsTrue (is_in_codeword l nodes b)
  pub misses : Misses l known nodes

-- A set determines a block exactly where the block is in it, or some equations add up to the block and blocks of
-- the set.
abbrev pub DeterminedAreSums : Type 0
DeterminedAreSums =
    (l : Lattice) (known : BlockId → Bool) (b : BlockId) → HasBlock l b
    → Determines l known b ↔ (IsTrue (known b) ⊎ ((equations : EqId → Bool) × GivesBlock l known b equations))

-- A set does not determine a block exactly where some codeword contains the block and no block of the set.
abbrev pub UndeterminedAreWords : Type 0
UndeterminedAreWords =
    (l : Lattice) (known : BlockId → Bool) (b : BlockId) → HasBlock l b
    → (¬ Determines l known b) ↔ ((nodes : ℕ → Bool) × Escapes l known b nodes)
