-- The listed equations of a block that is determined.
use Rattle.std.specs.Prelude.{◌≡◌, ◌≤◌, ℕ, Bool, List, filter, IsTrue}
use Rattle.aea_lattice.specs.declared.blocks.BlockId.{BlockId}
use Rattle.aea_lattice.specs.declared.blocks.EqId.{EqId}
use Rattle.aea_lattice.specs.declared.grid.Lattice.{Lattice}
use Rattle.aea_lattice.specs.Blocks.{HasBlock, block_of, number_of}
use Rattle.aea_lattice.specs.Equations.{HasEquation, equations_of, adds_up_to}
use Rattle.aea_lattice.specs.Lists.{is_listed}
use Rattle.aea_gauss_laws.specs.Sums.{GivesBlock}

-- The place of an equation in equation order: equations are ordered as their outputs are.
abbrev pub output_number : Lattice → EqId → ℕ
output_number l e = number_of l (block_of e.node e.class)

-- the set of equations has e as its greatest, in equation order, and adds up to known blocks alone
pub record IsSpareIn (l : Lattice) (known : BlockId → Bool) (equations : EqId → Bool) (e : EqId) : Type 0 where
  pub contains : IsTrue (equations e)
  pub greatest : (d : EqId) → HasEquation l d → IsTrue (equations d) → output_number l d ≤ output_number l e
  pub only_known : (b : BlockId) → HasBlock l b → IsTrue (adds_up_to l equations b) → IsTrue (known b)

-- The equation is spare: it is the greatest of some set of equations that adds up to known blocks alone.
abbrev pub IsSpare : Lattice → (BlockId → Bool) → EqId → Type 0
IsSpare l known e = (equations : EqId → Bool) × IsSpareIn l known equations e

-- The listed equations of a determined block: the set without spare equations that adds up to the block and known
-- blocks alone, in equation order.
pub record IsSum (l : Lattice) (known : BlockId → Bool) (b : BlockId) (equations : List EqId) : Type 0 where
  pub gives : GivesBlock l known b (is_listed equations)
  pub no_spare : (e : EqId) → HasEquation l e → IsTrue (is_listed equations e) → IsSpare l known e → ⊥
  pub ordered : equations ≡ filter (is_listed equations) (equations_of l)
