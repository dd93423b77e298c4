-- The equations of some blocks, by marks of their outputs.
use Rattle.std.specs.Prelude.{◌≡◌, ◌&&◌, ◌||◌, Bool, nat_lt, List}
use Rattle.std.specs.List.{list_any}
use Rattle.aea_lattice.specs.declared.blocks.BlockId.{BlockId}
use Rattle.aea_lattice.specs.declared.blocks.EqId.{EqId}
use Rattle.aea_lattice.specs.declared.grid.Lattice.{Lattice}
use Rattle.aea_lattice.specs.Blocks.{HasBlock, class_number}
use Rattle.aea_lattice.specs.Equations.{equation_of, is_in_equation}
use Rattle.aea_view.specs.Marked.{Marked, IsWhole, is_marked}

-- the equation that has the parity as its output
abbrev pub equation_at : BlockId → EqId
equation_at b = equation_of b.node b.class

-- whether the block is a parity, and the other one is in the equation that has it as its output
abbrev pub is_output_with : Lattice → BlockId → BlockId → Bool
is_output_with l b d = nat_lt 0 (class_number d.class) && is_in_equation l (equation_at d) b

-- the blocks that pass are marked too, and no other
pub record AddsMarks (old new : Marked) (test : BlockId → Bool) : Type 0 where
  pub lattice : new.lattice ≡ old.lattice
  pub whole : IsWhole new
  pub marks : (d : BlockId) → HasBlock old.lattice d → is_marked new d ≡ (is_marked old d || test d)

-- marked are the outputs of the equations that have one of the blocks
pub record AreOutputs (l : Lattice) (blocks : List BlockId) (m : Marked) : Type 0 where
  pub lattice : m.lattice ≡ l
  pub whole : IsWhole m
  pub marks : (d : BlockId) → HasBlock l d → is_marked m d ≡ list_any (λ b. is_output_with l b d) blocks
