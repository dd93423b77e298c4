-- The blocks of an archive of a shape: those of its lattices, which grow.
use Rattle.std.specs.Prelude.{ℕ, ◌+◌, ◌-◌, ◌*◌, ◌≤◌}
use Rattle.aea_lattice.specs.declared.blocks.BlockId.{BlockId}
use Rattle.aea_lattice.specs.declared.shape.Shape.{Shape}
use Rattle.aea_lattice.specs.Profile.{greatest_nodes}
use Rattle.aea_lattice.specs.Blocks.{class_number}

-- the greatest lattice of the shape has the block
pub record IsBlockOf (shape : Shape) (b : BlockId) : Type 0 where
  pub first : 1 ≤ b.node
  pub last : b.node ≤ greatest_nodes
  pub used : class_number b.class ≤ shape.alpha

-- the number of a block, which is the same in each lattice of the shape that has it
abbrev pub number_in : Shape → BlockId → ℕ
number_in shape b = (b.node - 1) * (1 + shape.alpha) + class_number b.class
