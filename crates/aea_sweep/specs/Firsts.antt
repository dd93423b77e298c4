-- The first word whose codeword contains a block.
use Rattle.std.specs.Prelude.{◌≡◌, ◌≢◌, ℕ, ◌<◌, ◌≤◌, Bool, true, false, List}
use Rattle.aea_lattice.specs.declared.blocks.BlockId.{BlockId}
use Rattle.aea_lattice.specs.declared.grid.Lattice.{Lattice}
use Rattle.aea_lattice.specs.Blocks.{HasBlock}
use Rattle.aea_lattice.specs.Equations.{is_in_codeword}
use Rattle.aea_sweep.specs.Labels.{label_of}

-- Of the words at places from `from` on and before `end` the one at the label is the first whose codeword contains the block;
-- a label of 0 says that none does.
pub record IsFirst (l : Lattice) (from end : ℕ) (words : ℕ → ℕ → Bool) (b : BlockId) (label : ℕ) : Type 0 where
  pub none : label ≡ 0 → (r : ℕ) → from ≤ r → r < end → is_in_codeword l (words r) b ≡ false
  pub some : label ≢ 0
      → (from ≤ label) × (label < end) × (is_in_codeword l (words label) b ≡ true) × ((r : ℕ) → from ≤ r → r < label → is_in_codeword l (words r) b ≡ false)

-- The labels are such for each block of the lattice.
abbrev pub AreFirst : Lattice → ℕ → ℕ → (ℕ → ℕ → Bool) → List ℕ → Type 0
AreFirst l from end words labels = (b : BlockId) → HasBlock l b → IsFirst l from end words b (label_of l labels b)
