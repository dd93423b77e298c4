-- Marks of the known blocks and of the ends.
use Rattle.std.specs.Prelude.{◌≡◌, ◌↔◌, ◌⊎◌, ℕ, ◌<◌, ◌≤◌, Bool, IsTrue}
use Rattle.aea_lattice.specs.declared.blocks.BlockId.{BlockId}
use Rattle.aea_lattice.specs.declared.grid.Lattice.{Lattice}
use Rattle.aea_lattice.specs.Blocks.{HasBlock, number_of}
use Rattle.aea_lattice.specs.Data.{Determines}
use Rattle.aea_lattice.specs.LeastWord.{IsEnd}
use Rattle.aea_view.specs.Marked.{Marked, IsWhole, is_marked}
use Rattle.aea_sweep.specs.Sweep.{SetsAside}

-- Beside the known blocks the ends pass, and no other block. So all is determined, and for a block that the known ones determine
-- each end is set aside, as `EndsStandAside` asks.
pub record AddsEnds (l : Lattice) (known more : BlockId → Bool) : Type 0 where
  pub kept : (d : BlockId) → HasBlock l d → IsTrue (known d) → IsTrue (more d)
  pub ends : (d : BlockId) → IsEnd l known d → IsTrue (more d)
  pub only : (d : BlockId) → HasBlock l d → IsTrue (more d) → IsTrue (known d) ⊎ IsEnd l known d
  pub determined : (b : BlockId) → HasBlock l b → Determines l more b
  pub aside : (b d : BlockId) → HasBlock l b → Determines l known b → HasBlock l d → IsTrue (more d)
      → IsTrue (known d) ⊎ ((nodes : ℕ → Bool) × SetsAside l known more b d nodes)

-- the block is known, or one of the ends
abbrev pub IsKnownOrEnd : (BlockId → Bool) → ℕ → (ℕ → BlockId) → BlockId → Type 0
IsKnownOrEnd known rows ends b = IsTrue (known b) ⊎ ((r : ℕ) × (r < rows) × (ends r ≡ b))

-- From number k on the marks are those of the known blocks and of the ends; the first ends, as many as are left, have lower
-- numbers, and the others have not.
pub record AreMarkedFrom (l : Lattice) (known : BlockId → Bool) (rows : ℕ) (ends : ℕ → BlockId) (k left : ℕ) (m : Marked) : Type 0 where
  pub lattice : m.lattice ≡ l
  pub whole : IsWhole m
  pub few : left ≤ rows
  pub low : (r : ℕ) → r < left → number_of l (ends r) < k
  pub high : (r : ℕ) → left ≤ r → r < rows → k ≤ number_of l (ends r)
  pub marks : (b : BlockId) → HasBlock l b → k ≤ number_of l b → IsTrue (is_marked m b) ↔ IsKnownOrEnd known rows ends b
